use Rattle.std.proofs.Common.{◌≡◌, length, false}
use Rattle.sf_view.specs.Accepts.{AreEntries}
use Rattle.sf_view.proofs.series.dict_from.Given as goal

abbrev pub invariant-loop-scan : goal.invariant-loop-scan
invariant-loop-scan l = record {
  so_far : AreEntries l.dialect l.text l.rest l.marks l.nodes l.count;
  unset : l.repeated ≡ false;
}

abbrev pub decreases-loop-scan : goal.decreases-loop-scan
decreases-loop-scan l = length l.rest
