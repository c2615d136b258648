use Rattle.std.proofs.Common.{◌*◌, ◌≤◌, Err, length, arith}
use Rattle.sf_value.specs.Grammar.Lines.{join}
use Rattle.sf_tool.specs.Lines.{lines_of}
use Rattle.sf_tool.specs.Run.{joined, input_limit}
use Rattle.sf_tool.specs.Scanning.{AcceptedOrRefused}
use Rattle.sf_tool.proofs.AcceptedLines.{counted}
use Rattle.sf_tool.proofs.InputLines.{length-joined}
use Rattle.sf_tool.proofs.Reports.{reports_refusal}
use Rattle.sf_tool.proofs.running.answer_lines.Goals as goal

pub returns-in-Some-Err : goal.returns-in-Some-Err
returns-in-Some-Err g c =
    let d = c.args.request.dialect in
    let k = c.args.request.kind in
    let input = c.args.input.now in
    let e = c.in-Some-Err in
    let refused : AcceptedOrRefused d k (joined input) (Err e.refusal) =
    rw e.field-0-is at e.ensures in
    let short : length (join (lines_of input)) ≤ 3 * input_limit =
    omega (arith, length-joined input, c.requires) in
    reports_refusal c.args.request.view d k input e.refusal _ _ _
    (counted d k (lines_of input) (Err e.refusal) short refused.0) (λ t. refused.1)
    c.answer_refusal.ensures
