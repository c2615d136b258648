use Rattle.std.proofs.Common.{length}
use Rattle.sf_scan.proofs.InnerLists.{Going}
use Rattle.sf_scan.proofs.inner.items.Given as goal

abbrev pub invariant-loop-after : goal.invariant-loop-after
invariant-loop-after g l =
    Going g.M.Builder.bare g.M.Maker.with g.M.Builder.closed l.dialect l.text l.rest
    l.initial.maker l.maker

abbrev pub decreases-loop-after : goal.decreases-loop-after
decreases-loop-after g l = length l.rest
