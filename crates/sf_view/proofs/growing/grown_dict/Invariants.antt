use Rattle.std.proofs.Common.{◌≡◌, false}
use Rattle.sf_view.specs.Accepts.{AreEntries}
use Rattle.sf_view.proofs.growing.grown_dict.Given as goal

abbrev pub invariant-loop : goal.invariant-loop
invariant-loop l = record {
  so_far : AreEntries l.dialect l.text l.from.rest.now l.from.marks l.nodes.items l.from.count;
  unset : l.repeated ≡ false;
}
