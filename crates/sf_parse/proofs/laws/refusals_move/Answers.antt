use Rattle.sf_parse.proofs.Interchange as interchange
use Rattle.sf_parse.proofs.laws.refusals_move.Goals as goal

pub returns-clause-moved : goal.returns-clause-moved
returns-clause-moved c = interchange.refusals_move

pub returns-clause-viable : goal.returns-clause-viable
returns-clause-viable c = interchange.comma_viable

pub returns-clause-members : goal.returns-clause-members
returns-clause-members c = interchange.members_forgotten
