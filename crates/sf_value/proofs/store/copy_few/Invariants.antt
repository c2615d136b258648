use Rattle.std.proofs.Common.{◌≡◌, ◌≤◌, length, take}
use Rattle.std.specs.Prelude.{vec_capacity}
use Rattle.sf_value.specs.Capacities.{HasGrown}
use Rattle.sf_value.specs.Stores.{slot_pairs, HaveSeed}
use Rattle.sf_value.proofs.store.copy_few.Given as goal

abbrev pub invariant-loop-source : goal.invariant-loop-source
invariant-loop-source g l = record {
  copied : slot_pairs l.copies.items ≡ slot_pairs (take l.source-index l.sources);
  seeds : HaveSeed l.seed l.copies.items;
  many : length l.copies.items ≡ l.source-index;
  room : length l.sources ≤ vec_capacity l.copies;
  grown : HasGrown (length l.sources) (vec_capacity l.copies);
}
