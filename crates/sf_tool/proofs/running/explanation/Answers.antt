use Rattle.sf_tool.proofs.running.explanation.Goals as goal

pub returns-in-Targeted : goal.returns-in-Targeted
returns-in-Targeted c =
    rw c.in-Targeted.is (rw c.as_slice.ensures.value at c.explain_line.ensures)

pub returns-in-Decide : goal.returns-in-Decide
returns-in-Decide c = rw c.in-Decide.is c.explain_decided.ensures
