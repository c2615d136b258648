use Rattle.std.proofs.Common.{refl}
use Rattle.sf_parse.specs.Machine.Inners.{InItem}
use Rattle.sf_parse.specs.Machine.Members.{InOne, InMany}
use Rattle.sf_parse.proofs.Prefixes.{part_above}
use Rattle.sf_parse.proofs.OpenParts.{item_in_member, item_in_many, closing_part, closing_kept}
use Rattle.sf_parse.proofs.member.MemberReaderLevel.push_part.Goals as goal

pub returns-in-One-clause-goes : goal.returns-in-One-clause-goes
returns-in-One-clause-goes c =
    rw (← c.self.view_is, c.in-One.is)
    (part_above _ _ InOne (item_in_member _) _ _ _ _ _ _ refl c.push.ensures.prefix)

pub returns-in-InItem-clause-goes : goal.returns-in-InItem-clause-goes
returns-in-InItem-clause-goes c =
    let is = c.self.inside.items in
    rw (← c.self.view_is, c.in-InItem.is)
    (part_above _ _ (λ s. InMany (InItem is s)) (item_in_many _ is) _ _ _ _ _ _ refl
    c.push-in-InItem.ensures.prefix)

pub invariant_of-self-in-Closing : goal.invariant_of-self-in-Closing
invariant_of-self-in-Closing c =
    let fits = rw c.in-Closing.is at c.self.invariant in
    closing_kept c.args.context.now.dialect _ _ _ _ fits c.in_ok-took-in-Closing.ensures.prefix

pub returns-in-Closing-clause-goes : goal.returns-in-Closing-clause-goes
returns-in-Closing-clause-goes c =
    let fits = rw c.in-Closing.is at c.self.invariant in
    rw (← c.self.view_is, c.in-Closing.is)
    (closing_part c.args.context.now.dialect _ _ _ _ _ fits c.in_ok-took-in-Closing.ensures.prefix)
