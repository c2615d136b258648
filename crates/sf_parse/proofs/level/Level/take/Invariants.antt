use Rattle.std.proofs.Common.{length}
use Rattle.sf_parse.specs.Prefixes.{Goes}
use Rattle.sf_parse.proofs.level.Level.take.Given as goal

abbrev pub invariant-loop-self : goal.invariant-loop-self
invariant-loop-self g l = Goes (g.Self.Level.next l.context.dialect) l.initial.self l.chunk l.rest
    l.self

abbrev pub decreases-loop-self : goal.decreases-loop-self
decreases-loop-self g l = length l.rest
