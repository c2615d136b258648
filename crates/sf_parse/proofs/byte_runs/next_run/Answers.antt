use Rattle.std.proofs.Common.{◌≡◌, ◌-◌, ◌∙◌, arith}
use Rattle.sf_parse.proofs.RunSteps.{runs-over, runs-none}
use Rattle.sf_parse.proofs.byte_runs.next_run.Goals as goal

pub returns-then-from-ge128-clause-run : goal.returns-then-from-ge128-clause-run
returns-then-from-ge128-clause-run c =
    let over : 128 - c.args.from ≡ 0 = omega arith in
    rw over (runs-none c.args.set c.args.from)

pub returns-in-Some-clause-run : goal.returns-in-Some-clause-run
returns-in-Some-clause-run c =
    let found = c.in-Some.ensures in
    runs-over c.args.set c.args.from c.in-Some.first found.0 (omega arith) found.3
    ∙ c.run_end.ensures.run

pub returns-in-None-clause-run : goal.returns-in-None-clause-run
returns-in-None-clause-run c =
    runs-over c.args.set c.args.from 128 (omega arith) (omega arith) c.in-None.ensures
    ∙ runs-none c.args.set 128
