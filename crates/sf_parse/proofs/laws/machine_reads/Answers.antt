use Rattle.sf_parse.proofs.GrammarLaws.{is_read, is_rest, any_chunks}
use Rattle.sf_parse.proofs.laws.machine_reads.Goals as goal

pub returns-clause-read : goal.returns-clause-read
returns-clause-read c = is_read

pub returns-clause-rest : goal.returns-clause-rest
returns-clause-rest c = is_rest

pub returns-clause-chunks : goal.returns-clause-chunks
returns-clause-chunks c = any_chunks
