use Rattle.sf_view.proofs.ReadParts.{bare_reads}
use Rattle.sf_view.proofs.text_parts.read_bare.Goals as goal

pub returns-in-Ok : goal.returns-in-Ok
returns-in-Ok c = bare_reads _ _ _ _ c.in-Ok.ensures
