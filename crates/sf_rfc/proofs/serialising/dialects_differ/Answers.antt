use Rattle.sf_rfc.proofs.SerialisingDialects.{dialects_differ, added_fails}
use Rattle.sf_rfc.proofs.serialising.dialects_differ.Goals as goal

pub returns-clause-differ : goal.returns-clause-differ
returns-clause-differ c = dialects_differ

pub returns-clause-added : goal.returns-clause-added
returns-clause-added c = added_fails
