use Rattle.std.proofs.Common.{◌≡◌, ℕ, ◌<◌, ◌≤◌, false, [], get_or, map}
use Rattle.sf_lint.specs.Head.{is_named, is_start}
use Rattle.sf_lint.proofs.report.is_repeated.Given as goal

abbrev pub invariant-loop-left : goal.invariant-loop-left
invariant-loop-left l = record {
  within : l.left ≤ l.n;
  unnamed : (k : ℕ) → l.left ≤ k → k < l.n
      → is_named l.name (get_or (map (λ line. line.now) l.lines) k []) ≡ false;
  unstarted : (k : ℕ) → l.left ≤ k → k < l.n
      → is_start (get_or (map (λ line. line.now) l.lines) k []) ≡ false;
}

abbrev pub decreases-loop-left : goal.decreases-loop-left
decreases-loop-left l = l.left
