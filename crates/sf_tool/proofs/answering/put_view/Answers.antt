use Rattle.sf_write.proofs.Following.{then}
use Rattle.sf_tool.proofs.answering.put_view.Goals as goal

pub returns-in-Canonical : goal.returns-in-Canonical
returns-in-Canonical g c =
    rw c.in-Canonical.is (then c.put_field-sent.ensures.text c.put-in-Canonical.ensures)
