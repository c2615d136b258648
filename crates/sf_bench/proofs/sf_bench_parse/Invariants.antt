use Rattle.std.proofs.Common.{◌≡◌, IsTrue, false}
use Rattle.sf_bench.specs.Timed.{IsAccepted}
use Rattle.sf_bench.proofs.sf_bench_parse.Given as goal

abbrev pub invariant-loop : goal.invariant-loop
invariant-loop l = record {
  accepted : IsTrue l.accepted → IsAccepted l.kind l.text;
  idle : l.times ≡ 0 → l.accepted ≡ false;
}
