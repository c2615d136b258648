use Rattle.std.proofs.Common.{◌≡◌, IfSome, None}
use Rattle.sf_bench.specs.Timed.{HasCanonical}
use Rattle.sf_bench.proofs.sf_bench_normalise.Given as goal

abbrev pub invariant-loop : goal.invariant-loop
invariant-loop l = record {
  length : IfSome l.length (HasCanonical l.kind l.text);
  idle : l.times ≡ 0 → l.length ≡ None;
}
