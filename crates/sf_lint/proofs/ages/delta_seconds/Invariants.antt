use Rattle.std.proofs.Common.{◌≡◌, ◌≤◌, drop}
use Rattle.sf_lint.proofs.Seconds.{more_seconds}
use Rattle.sf_lint.proofs.ages.delta_seconds.Given as goal

abbrev pub invariant-loop-byte : goal.invariant-loop-byte
invariant-loop-byte l = record {
  small : l.seconds ≤ 2147483648;
  rest : more_seconds l.seconds (drop l.byte-index l.text) ≡ more_seconds 0 l.text;
}
