use Rattle.std.proofs.Common.{sym, ◌∙◌}
use Rattle.sf_parse.proofs.FedChunks.{finish_with}
use Rattle.sf_parse.proofs.parser.Parser.finish.Goals as goal

pub returns-in-Ok-Some-clause-ended : goal.returns-in-Ok-Some-clause-ended
returns-in-Ok-Some-clause-ended c =
    rw (← c.self.view_is)
    (finish_with _ _ c.self.invariant (sym c.in-Ok-Some.ensures.value ∙ c.in-Ok-Some.field-0-is))
