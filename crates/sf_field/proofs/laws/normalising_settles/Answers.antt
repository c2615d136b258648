use Rattle.sf_field.proofs.Normals.{canon_settles, twice_is_once}
use Rattle.sf_field.proofs.laws.normalising_settles.Goals as goal

pub returns-clause-canon : goal.returns-clause-canon
returns-clause-canon c = canon_settles

pub returns-clause-twice : goal.returns-clause-twice
returns-clause-twice c = twice_is_once
