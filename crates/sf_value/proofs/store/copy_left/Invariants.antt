use Rattle.std.proofs.Common.{◌≡◌, ◌≤◌, ◌+◌, ◌++◌, length}
use Rattle.std.specs.Prelude.{vec_capacity}
use Rattle.sf_value.specs.Capacities.{HasGrown}
use Rattle.sf_value.specs.Stores.{slot_pairs, HaveSeed}
use Rattle.sf_value.proofs.store.copy_left.Given as goal

-- what is copied, before what is left, is the source
abbrev pub invariant-loop-key : goal.invariant-loop-key
invariant-loop-key g l = record {
  all : slot_pairs l.copies.items ++ l.key-iterator ≡ l.map.entries;
  seeds : HaveSeed l.seed l.copies.items;
  room : length l.copies.items + length l.key-iterator ≤ vec_capacity l.copies;
  many : length l.copies.items + length l.key-iterator ≡ length l.map.entries;
  grown : HasGrown (length l.map.entries) (vec_capacity l.copies);
}
