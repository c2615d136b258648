use Rattle.sf_parse.specs.Machine.Numbers.{number_step}
use Rattle.sf_parse.proofs.Prefixes.{byte_on, byte_stop, halts_at}
use Rattle.sf_parse.proofs.number.NumberReader.take_run.Goals as goal

pub loop-byte-preserved : goal.loop-byte-preserved
loop-byte-preserved c =
    byte_on number_step _ _ _ _ _ _ _ _ c.loop-byte.invariant c.in-Some.ensures.cases.0
    c.if-not-step.false c.step.ensures

pub returns-then-not-step-clause-goes : goal.returns-then-not-step-clause-goes
returns-then-not-step-clause-goes c =
    byte_stop number_step _ _ _ _ _ _ _ c.loop-byte.invariant c.if-not-step.true c.step.ensures

pub returns-then-not-step-clause-stop : goal.returns-then-not-step-clause-stop
returns-then-not-step-clause-stop c =
    halts_at number_step _ _ _ _ _ _ c.in-Some.ensures.cases.0 c.if-not-step.true c.step.ensures
