use Rattle.sf_view.proofs.SettledNodes.{settled_there}
use Rattle.sf_view.proofs.settling.put_members.Goals as goal

pub returns-clause-described : goal.returns-clause-described
returns-clause-described c = λ d source ps t.
    settled_there d source _ _ _ _ _ ps c.in_ok-count.ensures.puts t
