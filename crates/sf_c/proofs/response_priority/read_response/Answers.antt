use Rattle.std.proofs.Common.{refl}
use Rattle.sf_c.proofs.ScannedTexts.{answers_priority}
use Rattle.sf_c.proofs.response_priority.read_response.Goals as goal

pub returns-in-Some : goal.returns-in-Some
returns-in-Some c =
    answers_priority (record { priority = c.args.priority.now; refusal = c.args.refusal.now }) _ _ _
    _ c.in-Some.ensures c.of.ensures refl
