use Rattle.sf_rfc.proofs.FieldLines.{combined}
use Rattle.sf_rfc.proofs.joining.lines_combine.Goals as goal

pub returns : goal.returns
returns c = combined
