use Rattle.std.proofs.Common.{Option, [], length}
use Rattle.sf_use.specs.declared.caching.CacheRules.{CacheRules}
use Rattle.sf_use.specs.CacheControl.{cache_rules}
use Rattle.sf_use.proofs.CacheControlLines.{ReadsLines}
use Rattle.sf_use.proofs.caching.CacheRules.of_cache_control_lines.Given as goal

abbrev pub invariant-loop-line : goal.invariant-loop-line
invariant-loop-line g l =
    (o : Option CacheRules) → ReadsLines l.rules (g.L.FieldLines.lines l.lines) o
    → ReadsLines (cache_rules []) (g.L.FieldLines.lines l.initial.lines) o

abbrev pub decreases-loop-line : goal.decreases-loop-line
decreases-loop-line g l = length (g.L.FieldLines.lines l.lines)
