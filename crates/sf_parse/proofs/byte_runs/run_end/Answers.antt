use Rattle.std.proofs.Common.{◌≡◌, ◌+◌, ◌-◌, ◌<◌, ◌^◌, false, inl, inr, arith}
use Rattle.sf_parse.specs.ByteSets.{is_in}
use Rattle.sf_parse.proofs.FirstBytes.{out_of_other, in_other, run_goes_on}
use Rattle.sf_parse.proofs.RunSteps.{runs-next}
use Rattle.sf_parse.proofs.byte_runs.run_end.Goals as goal

pub returns-in-Some-clause-run : goal.returns-in-Some-clause-run
returns-in-Some-clause-run c =
    let set = c.args.set in
    let next = c.in-Some.next in
    let found = c.in-Some.ensures in
    let size : set < 2 ^ 128 = omega arith in
    let on : c.args.first < next = run_goes_on set c.args.first next size found.1 found.2 found.0 c.requires.set in
    let at : next - 1 + 1 ≡ next = omega arith in
    let stop : is_in set (next - 1 + 1) ≡ false = rw at (in_other set next size found.1 found.2) in
    runs-next set c.args.first (next - 1) (omega arith) (omega arith)
    (λ k l u. out_of_other set k size (omega arith) (found.3 k l (omega arith))) (inr stop)

pub returns-in-Some-clause-forward : goal.returns-in-Some-clause-forward
returns-in-Some-clause-forward c =
    let set = c.args.set in
    let next = c.in-Some.next in
    let found = c.in-Some.ensures in
    let size : set < 2 ^ 128 = omega arith in
    let on : c.args.first < next = run_goes_on set c.args.first next size found.1 found.2 found.0 c.requires.set in
    omega arith

pub returns-in-None-clause-run : goal.returns-in-None-clause-run
returns-in-None-clause-run c =
    let set = c.args.set in
    let size : set < 2 ^ 128 = omega arith in
    runs-next set c.args.first 127 (omega arith) (omega arith)
    (λ k l u. out_of_other set k size (omega arith) (c.in-None.ensures k l (omega arith)))
    (inl (omega arith))
