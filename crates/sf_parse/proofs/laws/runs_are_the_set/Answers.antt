use Rattle.sf_parse.proofs.SetRuns as set_runs
use Rattle.sf_parse.proofs.laws.runs_are_the_set.Goals as goal

pub returns-clause-set : goal.returns-clause-set
returns-clause-set c = set_runs.runs_are_the_set

pub returns-clause-whole : goal.returns-clause-whole
returns-clause-whole c = set_runs.runs_are_whole
