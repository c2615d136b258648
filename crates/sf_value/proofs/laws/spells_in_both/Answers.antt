use Rattle.sf_value.proofs.BothDialects.{field_both}
use Rattle.sf_value.proofs.laws.spells_in_both.Goals as goal

pub returns : goal.returns
returns c = field_both
