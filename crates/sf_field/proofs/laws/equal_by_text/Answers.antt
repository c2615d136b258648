use Rattle.sf_field.proofs.Normals as normals
use Rattle.sf_field.proofs.laws.equal_by_text.Goals as goal

pub returns-clause-values : goal.returns-clause-values
returns-clause-values c = normals.equal_by_text

pub returns-clause-normal : goal.returns-clause-normal
returns-clause-normal c = normals.normal_is_one
