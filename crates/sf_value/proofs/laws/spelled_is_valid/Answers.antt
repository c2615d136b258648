use Rattle.sf_value.proofs.Validity.{spelled_valid}
use Rattle.sf_value.proofs.laws.spelled_is_valid.Goals as goal

pub returns : goal.returns
returns c = λ d kind t v. spelled_valid d kind v t
