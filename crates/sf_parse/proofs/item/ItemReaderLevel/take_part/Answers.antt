use Rattle.std.proofs.Common.{refl}
use Rattle.sf_parse.specs.Machine.Bares.{bare_step}
use Rattle.sf_parse.specs.Machine.Items.{InBare, item_step}
use Rattle.sf_parse.proofs.Prefixes.{part_above}
use Rattle.sf_parse.proofs.OpenParts.{params_part, bare_in_item}
use Rattle.sf_parse.proofs.item.ItemReaderLevel.take_part.Goals as goal

pub returns-then-self-clause-goes : goal.returns-then-self-clause-goes
returns-then-self-clause-goes c =
    let fits = rw c.if-self.true at c.self.invariant in
    rw (← c.self.view_is, c.if-self.true)
    (params_part c.args.context.now.dialect _ _ _ _ _ _ _ fits c.take.ensures.prefix)

pub returns-clause-goes : goal.returns-clause-goes
returns-clause-goes c =
    let d = c.args.context.now.dialect in
    rw (← c.self.view_is, c.if-self.false)
    (part_above bare_step (item_step d) InBare (bare_in_item d) _ _ _ _ _ _ refl
    c.take-2.ensures.prefix)
