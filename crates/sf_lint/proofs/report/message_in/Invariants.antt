use Rattle.std.proofs.Common.{◌≡◌, ℕ, ◌<◌, false, [], get_or, map}
use Rattle.sf_lint.specs.Head.{is_start}
use Rattle.sf_lint.proofs.report.message_in.Given as goal

abbrev pub invariant-loop-i : goal.invariant-loop-i
invariant-loop-i l =
    (k : ℕ) → k < l.i → is_start (get_or (map (λ line. line.now) l.lines) k []) ≡ false
