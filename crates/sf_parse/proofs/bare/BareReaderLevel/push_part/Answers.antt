use Rattle.std.specs.Option.{option_map}
use Rattle.std.proofs.Common.{ap}
use Rattle.sf_parse.specs.Machine.Numbers.{number_step}
use Rattle.sf_parse.specs.Machine.Bares.{InNumber, bare_step}
use Rattle.sf_parse.proofs.Prefixes.{goes_above, goes_step}
use Rattle.sf_parse.proofs.bare.BareReaderLevel.push_part.Goals as goal

pub returns-in-Number-clause-goes : goal.returns-in-Number-clause-goes
returns-in-Number-clause-goes c =
    rw (← c.self.view_is, c.in-Number.is)
    (goes_above number_step bare_step InNumber (λ s t b e. ap (option_map InNumber) e) _ _ _ _
    (goes_step number_step _ _ _ _ c.step.ensures))
