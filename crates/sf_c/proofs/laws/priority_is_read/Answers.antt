use Rattle.sf_c.proofs.WrittenPriorities as written
use Rattle.sf_c.proofs.laws.priority_is_read.Goals as goal

pub returns : goal.returns
returns c = written.priority_is_read
