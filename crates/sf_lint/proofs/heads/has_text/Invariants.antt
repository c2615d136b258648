use Rattle.std.proofs.Common.{◌≡◌, drop, map}
use Rattle.sf_lint.specs.Heads.{has_text}
use Rattle.sf_lint.proofs.heads.has_text.Given as goal

abbrev pub invariant-loop-line : goal.invariant-loop-line
invariant-loop-line l =
    has_text (map (λ line. line.now) l.lines)
    ≡ has_text (map (λ line. line.now) (drop l.line-index l.lines))
