use Rattle.std.proofs.Common.{refl}
use Rattle.sf_parse.proofs.FedChunks.{new_took}
use Rattle.sf_parse.proofs.parser.Parser.new_in.Goals as goal

pub returns-clause-took : goal.returns-clause-took
returns-clause-took c = new_took _ c.begin.ensures refl refl
