use Rattle.sf_tool.proofs.Reports.{reports_refusal}
use Rattle.sf_tool.proofs.running.answer_parsed.Goals as goal

pub returns-in-Err : goal.returns-in-Err
returns-in-Err g c =
    reports_refusal c.args.request.view c.args.request.dialect c.args.request.kind c.args.input.now
    c.in-Err.refusal _ _ _ c.in-Err.ensures.parses c.in-Err.ensures.allocation_free c.answer_refusal.ensures
