use Rattle.sf_value.proofs.Settling.{settle_settle}
use Rattle.sf_value.proofs.laws.settles_in_parts.Goals as goal

pub returns : goal.returns
returns g c = settle_settle
