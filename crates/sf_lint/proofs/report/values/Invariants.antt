use Rattle.std.proofs.Common.{◌≡◌, ◌++◌, drop, map}
use Rattle.sf_lint.specs.Head.{values_in}
use Rattle.sf_lint.proofs.report.values.Given as goal

abbrev pub invariant-loop-line : goal.invariant-loop-line
invariant-loop-line l =
    map (λ value. value.now) l.all.items
    ++ values_in l.name (map (λ line. line.now) (drop l.line-index l.lines))
    ≡ values_in l.name (map (λ line. line.now) l.lines)
