use Rattle.std.proofs.Common.{inl, refl}
use Rattle.sf_tool.specs.declared.request.Request.TheVariants.{Targeted}
use Rattle.sf_tool.specs.declared.status.Status.TheVariants.{Accepted}
use Rattle.sf_tool.specs.ChoiceLines.{choice_lines}
use Rattle.sf_tool.proofs.LineByLine.{fields_allocate}
use Rattle.sf_tool.proofs.Places.{is_place}
use Rattle.sf_tool.proofs.Reports.{reports_text, reports_input_fault}
use Rattle.sf_tool.proofs.running.targeted.Goals as goal

pub returns-in-Err : goal.returns-in-Err
returns-in-Err g c =
    let refused = rw c.as_slice-names.ensures.value at c.in-Err.ensures in
    reports_input_fault c.args.names.now c.args.input.now c.in-Err.fault _ _ _ refused
    c.answer_input_fault.ensures

pub answer_choice-requires : goal.answer_choice-requires
answer_choice-requires g c =
    is_place _ _ c.in-Ok-select.choice c.in-Ok-select.ensures.chosen

pub returns-in-Ok-select : goal.returns-in-Ok-select
returns-in-Ok-select g c =
    let names = c.as_slice-names.ensures.value in
    let read = rw names at c.in-Ok.ensures in
    let chosen = rw names at c.in-Ok-select.ensures.chosen in
    reports_text (Targeted c.args.names.now) c.args.input.now
    (choice_lines c.args.names.now.items c.in-Ok-select.choice) Accepted _ _ _
    (_, read, c.in-Ok-select.choice, chosen, refl) (rw names at c.answer_choice.ensures)

pub returns : goal.returns
returns g c =
    let read = rw c.as_slice-names.ensures.value at c.in-Ok.ensures in
    let reached = c.in-Err-select.ensures.reached in
    inl (
      fields_allocate c.args.names.now.items c.args.input.now c.in-Ok.headers _ read reached.2,
      refl,
    )
