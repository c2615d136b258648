use Rattle.sf_use.proofs.WrittenPriorities.{read_from_text}
use Rattle.sf_use.proofs.laws.priority_is_kept.Goals as goal

pub returns-clause-text : goal.returns-clause-text
returns-clause-text c = read_from_text
