use Rattle.sf_view.proofs.ReadParts.{param_reads}
use Rattle.sf_view.proofs.text_parts.read_param.Goals as goal

pub returns-in-Ok : goal.returns-in-Ok
returns-in-Ok c = param_reads _ _ _ _ _ c.in-Ok.ensures
