use Rattle.sf_value.proofs.LengthBound.{canon_bound}
use Rattle.sf_value.proofs.laws.canon_is_short.Goals as goal

pub returns : goal.returns
returns c = λ d kind t v. canon_bound d kind v t
