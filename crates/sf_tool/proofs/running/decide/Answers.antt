use Rattle.std.proofs.Common.{◌∙◌, ap}
use Rattle.sf_tool.specs.declared.request.Request.TheVariants.{Decide}
use Rattle.sf_tool.specs.declared.status.Status.TheVariants.{Accepted}
use Rattle.sf_tool.specs.Deciding.{with_cache_control}
use Rattle.sf_tool.proofs.Reports.{reports_text, reports_decided_fault}
use Rattle.sf_tool.proofs.running.decide.Goals as goal

pub returns-in-Err : goal.returns-in-Err
returns-in-Err g c =
    let read = c.as_slice-2.ensures.value ∙ c.in-Ok.ensures
    ∙ ap with_cache_control c.as_slice.ensures.value in
    let refused = rw read at c.in-Err.ensures in
    reports_decided_fault c.args.names.now c.args.age c.args.input.now c.in-Err.fault _ _ _ refused
    c.answer_input_fault.ensures

pub returns-in-Ok-decision_text : goal.returns-in-Ok-decision_text
returns-in-Ok-decision_text g c =
    let all = c.as_slice-2.ensures.value ∙ c.in-Ok.ensures
    ∙ ap with_cache_control c.as_slice.ensures.value in
    let read = rw all at c.in-Ok-read_fields.ensures in
    let decided = rw c.as_slice-3.ensures.value at c.in-Ok-decision_text.ensures in
    reports_text (Decide c.args.names.now c.args.age) c.args.input.now
    c.in-Ok-decision_text.text.items Accepted _ _ _ (_, read, decided)
    (rw c.as_slice-in-Ok-decision_text.ensures.value at c.answer_made.ensures)
