use Rattle.std.proofs.Common.{length}
use Rattle.sf_value.specs.Grammar.Pairs.{HasDistinctKeys}
use Rattle.sf_view.proofs.BuildingLaws.{Param, ValidParam}
use Rattle.sf_view.proofs.Wholes.{SoFar}
use Rattle.sf_view.proofs.building.params.Given as goal

abbrev pub invariant-loop-source : goal.invariant-loop-source
invariant-loop-source l = record {
  so : SoFar (Param l.fn.source.dialect l.fn.source.text.now l.fn.role)
      (ValidParam l.fn.source.dialect) l.fn.nodes l.rest l.all;
  distinct : HasDistinctKeys l.all;
}

abbrev pub decreases-loop-source : goal.decreases-loop-source
decreases-loop-source l = length l.rest
