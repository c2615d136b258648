use Rattle.std.proofs.Common.{refl, []}
use Rattle.std.specs.Option.{option_map}
use Rattle.sf_parse.specs.Machine.Bares.{bare_step, bare_finish}
use Rattle.sf_parse.specs.Machine.Params.{between_step}
use Rattle.sf_parse.specs.Machine.Items.{InBare, InParams}
use Rattle.sf_parse.proofs.Marks.{marks_onward, marks_steps}
use Rattle.sf_parse.proofs.LevelMarks.{marks_params}
use Rattle.sf_parse.proofs.item.ItemReaderLevel.expected.Goals as goal

pub returns-then-self : goal.returns-then-self
returns-then-self c =
    let fits = rw c.if-self.true at c.self.invariant in
    rw (← c.self.view_is, c.if-self.true)
    (marks_params c.args.dialect _ _ _ _ fits c.expected.ensures)

pub returns : goal.returns
returns c =
    let bare = c.self.inside.bare in
    rw (← c.self.view_is, c.if-self.false, c.set_if.ensures, c.may_end.ensures)
    (marks_onward InBare _ _ (bare_step bare) (bare_finish bare)
    (λ x b. option_map (InParams x) (between_step [] b)) c.expected-2.ensures
    (λ x. marks_steps _ (λ b. option_map (InParams x) (between_step [] b)) refl))
