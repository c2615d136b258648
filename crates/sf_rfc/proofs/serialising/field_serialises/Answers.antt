use Rattle.sf_rfc.proofs.SerialisingFields.{field_serialised, empty_not_serialised}
use Rattle.sf_rfc.proofs.serialising.field_serialises.Goals as goal

pub returns-clause-members : goal.returns-clause-members
returns-clause-members c = field_serialised

pub returns-clause-empty : goal.returns-clause-empty
returns-clause-empty c = empty_not_serialised
