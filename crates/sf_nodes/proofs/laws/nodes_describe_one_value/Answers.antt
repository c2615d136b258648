use Rattle.sf_nodes.proofs.OneValue.{one_field}
use Rattle.sf_nodes.proofs.laws.nodes_describe_one_value.Goals as goal

pub returns : goal.returns
returns c = λ d source nodes v w h t u. one_field c.one_value.ensures.one d source nodes v w h t u
