use Rattle.sf_nodes.proofs.NodeCounting.{field_many}
use Rattle.sf_nodes.proofs.laws.nodes_are_theirs.Goals as goal

pub returns : goal.returns
returns c = λ d source nodes v t. field_many d source nodes v t
