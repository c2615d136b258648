use Rattle.sf_parse.proofs.Leaves.{leaf_found}
use Rattle.sf_parse.proofs.leaf.find_leaf.Goals as goal

pub returns-in-Ok-clause-leaf : goal.returns-in-Ok-clause-leaf
returns-in-Ok-clause-leaf c = leaf_found _ _ (c.in-Ok.stop, c.in-Ok.leaf) c.in-Ok.ensures
