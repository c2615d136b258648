use Rattle.sf_tool.proofs.Reports.{reports_all}
use Rattle.sf_tool.proofs.answering.ended.Goals as goal

pub returns-in-Ok : goal.returns-in-Ok
returns-in-Ok c = λ old new text sent.
    reports_all _ _ _ _ _ c.requires (rw c.in-Ok.is at sent)

pub returns-in-Err : goal.returns-in-Err
returns-in-Err c = λ old new text sent. let front = rw c.in-Err.is at sent in (_, front)
