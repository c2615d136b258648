use Rattle.std.proofs.Common.{length, drop, ◌-◌, ◌≤◌}
use Rattle.sf_scan.specs.NumberTexts.{PastDigits}
use Rattle.sf_scan.proofs.number.leading_digits.Given as goal

abbrev pub invariant-loop-count : goal.invariant-loop-count
invariant-loop-count l = record {
  past : PastDigits l.text l.count l.value (drop l.count l.text);
  within : l.count ≤ l.most;
  inside : l.count ≤ length l.text;
}

abbrev pub decreases-loop-count : goal.decreases-loop-count
decreases-loop-count l = l.most - l.count
