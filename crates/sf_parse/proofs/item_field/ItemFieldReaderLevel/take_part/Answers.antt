use Rattle.std.proofs.Common.{refl}
use Rattle.sf_value.specs.Grammar.Classes.{is_sp}
use Rattle.sf_parse.specs.Machine.Items.{item_step}
use Rattle.sf_parse.specs.Machine.States.{BeforeItem, InsideItem}
use Rattle.sf_parse.specs.Machine.Fields.{step}
use Rattle.sf_parse.specs.ItemFieldView.{after_of}
use Rattle.sf_parse.proofs.Prefixes.{part_above}
use Rattle.sf_parse.proofs.ByteRuns.{stay_goes}
use Rattle.sf_parse.proofs.OpenParts.{space_before, space_after, item_in_field}
use Rattle.sf_parse.proofs.item_field.ItemFieldReaderLevel.take_part.Goals as goal

pub returns-in-Before-clause-goes : goal.returns-in-Before-clause-goes
returns-in-Before-clause-goes c =
    let d = c.args.context.now.dialect in
    rw (← c.self.view_is, c.in-Before.is)
    (stay_goes (step d) is_sp BeforeItem _ _ _ (space_before d)
    c.few_prefix.ensures.whole c.few_prefix.ensures.every)

pub returns-in-After-clause-goes : goal.returns-in-After-clause-goes
returns-in-After-clause-goes c =
    let d = c.args.context.now.dialect in
    let fits = rw c.in-After.is at c.self.invariant in
    rw (← c.self.view_is, c.in-After.is)
    (stay_goes (step d) is_sp (after_of c.self.inside.whole) _ _ _
    (space_after d c.self.inside.whole fits)
    c.few_prefix-in-After.ensures.whole c.few_prefix-in-After.ensures.every)

pub returns-in-Inside-clause-goes : goal.returns-in-Inside-clause-goes
returns-in-Inside-clause-goes c =
    let d = c.args.context.now.dialect in
    rw (← c.self.view_is, c.in-Inside.is)
    (part_above (item_step d) (step d) InsideItem (item_in_field d) _ _ _ _ _ _ refl
    c.take.ensures.prefix)

pub returns-in-Inside-clause-allocation_free : goal.returns-in-Inside-clause-allocation_free
returns-in-Inside-clause-allocation_free c =
    rw (← c.self.view_is, c.in-Inside.is)
    (λ h. c.take.ensures.allocation_free h)
