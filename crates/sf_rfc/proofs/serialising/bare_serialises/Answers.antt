use Rattle.sf_rfc.proofs.SerialisingFields.{bare_serialised}
use Rattle.sf_rfc.proofs.serialising.bare_serialises.Goals as goal

pub returns : goal.returns
returns c = bare_serialised
