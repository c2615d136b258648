use Rattle.sf_parse.specs.Machine.Numbers.{date_step}
use Rattle.sf_parse.proofs.Prefixes.{byte_on, byte_stop}
use Rattle.sf_parse.proofs.date.DateReader.take_run.Goals as goal

pub loop-byte-preserved : goal.loop-byte-preserved
loop-byte-preserved c =
    byte_on date_step _ _ _ _ _ _ _ _ c.loop-byte.invariant c.in-Some.ensures.cases.0
    c.if-not-step.false c.step.ensures

pub returns-then-not-step : goal.returns-then-not-step
returns-then-not-step c =
    byte_stop date_step _ _ _ _ _ _ _ c.loop-byte.invariant c.if-not-step.true c.step.ensures
