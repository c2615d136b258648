use Rattle.std.proofs.Common.{length}
use Rattle.sf_value.specs.Grammar.Valid.{ValidItem}
use Rattle.sf_view.proofs.BuildingLaws.{InnerItem}
use Rattle.sf_view.proofs.Wholes.{SoFar}
use Rattle.sf_view.proofs.building.inside.Given as goal

abbrev pub invariant-loop-at : goal.invariant-loop-at
invariant-loop-at l = record {
  so : SoFar (InnerItem l.fn.source.dialect l.fn.source.text.now)
      (ValidItem l.fn.source.dialect) l.fn.nodes l.rest l.items;
}

abbrev pub decreases-loop-at : goal.decreases-loop-at
decreases-loop-at l = length l.rest
