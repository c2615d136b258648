use Rattle.sf_rfc.proofs.Rounding.{rounds_to_nearest, exact_is_kept, rounded_serialises}
use Rattle.sf_rfc.proofs.Rounding.{decimal_serialised}
use Rattle.sf_rfc.proofs.serialising.decimal_serialises.Goals as goal

pub returns-clause-nearest : goal.returns-clause-nearest
returns-clause-nearest c = rounds_to_nearest

pub returns-clause-exact : goal.returns-clause-exact
returns-clause-exact c = exact_is_kept

pub returns-clause-rounded : goal.returns-clause-rounded
returns-clause-rounded c = rounded_serialises

pub returns-clause-valid : goal.returns-clause-valid
returns-clause-valid c = decimal_serialised
