use Rattle.std.proofs.Common.{[], length}
use Rattle.sf_value.specs.Grammar.Valid.{ValidMember}
use Rattle.sf_view.specs.View.{DescribesMember}
use Rattle.sf_view.proofs.Wholes.{SoFar}
use Rattle.sf_view.proofs.building.members.Given as goal

abbrev pub invariant-loop-rest : goal.invariant-loop-rest
invariant-loop-rest l = record {
  so : SoFar (DescribesMember l.fn.source.dialect l.fn.source.text.now [])
      (ValidMember l.fn.source.dialect) l.fn.nodes l.rest l.all;
}

abbrev pub decreases-loop-rest : goal.decreases-loop-rest
decreases-loop-rest l = length l.rest
