use Rattle.std.proofs.Common.{refl}
use Rattle.sf_parse.specs.Machine.Items.{item_step}
use Rattle.sf_parse.specs.Machine.States.{InsideItem}
use Rattle.sf_parse.specs.Machine.Fields.{step}
use Rattle.sf_parse.proofs.Prefixes.{part_above}
use Rattle.sf_parse.proofs.OpenParts.{item_in_field}
use Rattle.sf_parse.proofs.item_field.ItemFieldReaderLevel.push_part.Goals as goal

pub returns-in-Inside-clause-goes : goal.returns-in-Inside-clause-goes
returns-in-Inside-clause-goes c =
    let d = c.args.context.now.dialect in
    rw (← c.self.view_is, c.in-Inside.is)
    (part_above (item_step d) (step d) InsideItem (item_in_field d) _ _ _ _ _ _ refl
    c.push.ensures.prefix)

pub returns-in-Inside-clause-allocation_free : goal.returns-in-Inside-clause-allocation_free
returns-in-Inside-clause-allocation_free c =
    rw (← c.self.view_is, c.in-Inside.is)
    (λ more h. c.push.ensures.allocation_free more h)
