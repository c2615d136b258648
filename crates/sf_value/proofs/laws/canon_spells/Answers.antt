use Rattle.sf_value.proofs.CanonicalTexts.{canon_spells}
use Rattle.sf_value.proofs.laws.canon_spells.Goals as goal

pub returns : goal.returns
returns c = canon_spells
