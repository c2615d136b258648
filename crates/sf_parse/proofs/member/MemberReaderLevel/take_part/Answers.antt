use Rattle.std.proofs.Common.{refl}
use Rattle.sf_value.specs.Grammar.Classes.{is_sp}
use Rattle.sf_parse.specs.Machine.Inners.{BetweenItems, InItem}
use Rattle.sf_parse.specs.Machine.Members.{InOne, InMany, member_step}
use Rattle.sf_parse.proofs.Prefixes.{part_above, goes_more}
use Rattle.sf_parse.proofs.ByteRuns.{stay_goes}
use Rattle.sf_parse.proofs.OpenParts.{space_in_member, item_in_member, item_in_many, closing_part}
use Rattle.sf_parse.proofs.OpenParts.{closing_kept}
use Rattle.sf_parse.proofs.member.MemberReaderLevel.take_part.Goals as goal

pub returns-in-BetweenItems-clause-goes : goal.returns-in-BetweenItems-clause-goes
returns-in-BetweenItems-clause-goes c =
    let d = c.args.context.now.dialect in
    let is = c.self.inside.items in
    let old = InMany (BetweenItems is) in
    rw (← c.self.view_is, c.in-BetweenItems.is)
    (goes_more (member_step d) old old _ _ _ _
    (stay_goes (member_step d) is_sp old _ _ _ (space_in_member d is)
    c.few_prefix.ensures.whole c.few_prefix.ensures.every) c.in_ok-rest-in-BetweenItems.ensures)

pub returns-in-One-clause-goes : goal.returns-in-One-clause-goes
returns-in-One-clause-goes c =
    rw (← c.self.view_is, c.in-One.is)
    (part_above _ _ InOne (item_in_member _) _ _ _ _ _ _ refl c.take.ensures.prefix)

pub returns-in-InItem-clause-goes : goal.returns-in-InItem-clause-goes
returns-in-InItem-clause-goes c =
    let is = c.self.inside.items in
    rw (← c.self.view_is, c.in-InItem.is)
    (part_above _ _ (λ s. InMany (InItem is s)) (item_in_many _ is) _ _ _ _ _ _ refl
    c.take-in-InItem.ensures.prefix)

pub invariant_of-self-in-Closing : goal.invariant_of-self-in-Closing
invariant_of-self-in-Closing c =
    let fits = rw c.in-Closing.is at c.self.invariant in
    closing_kept c.args.context.now.dialect _ _ _ _ fits c.in_ok-rest-in-Closing.ensures.prefix

pub returns-in-Closing-clause-goes : goal.returns-in-Closing-clause-goes
returns-in-Closing-clause-goes c =
    let fits = rw c.in-Closing.is at c.self.invariant in
    rw (← c.self.view_is, c.in-Closing.is)
    (closing_part c.args.context.now.dialect _ _ _ _ _ fits c.in_ok-rest-in-Closing.ensures.prefix)
