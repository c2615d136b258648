use Rattle.std.proofs.Common.{◌≡◌, ◌≤◌, length, take}
use Rattle.std.specs.Prelude.{vec_capacity}
use Rattle.sf_value.specs.Capacities.{HasGrown}
use Rattle.sf_value.proofs.sequence.copies.Given as goal

abbrev pub invariant-loop-item : goal.invariant-loop-item
invariant-loop-item g l = record {
  copied : l.items.items ≡ take l.item-index l.sources;
  room : length l.sources ≤ vec_capacity l.items;
  grown : HasGrown (length l.sources) (vec_capacity l.items);
}
