use Rattle.sf_parse.proofs.WholeParts.{params_none}
use Rattle.sf_parse.proofs.whole_parts.read_params.Goals as goal

pub returns-then-is_none-clause-reads : goal.returns-then-is_none-clause-reads
returns-then-is_none-clause-reads c = params_none _ _ _ c.requires
