use Rattle.std.proofs.Common.{◌≡◌, ◌≤◌, map}
use Rattle.sf_lint.specs.Heads.{head_begin}
use Rattle.sf_lint.proofs.heads.head_begin.Given as goal

abbrev pub invariant-loop-left : goal.invariant-loop-left
invariant-loop-left l = record {
  within : l.left ≤ l.n;
  same : head_begin (map (λ line. line.now) l.lines) l.n
      ≡ head_begin (map (λ line. line.now) l.lines) l.left;
}

abbrev pub decreases-loop-left : goal.decreases-loop-left
decreases-loop-left l = l.left
