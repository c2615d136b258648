use Rattle.std.proofs.Common.{◌≡◌, ◌≤◌, ◌++◌}
use Rattle.std.specs.Vec.Iter.{into_iter_items, into_iter_len}
use Rattle.indexmap.specs.IndexMap.{spare}
use Rattle.sf_value.specs.Stores.{slot_pairs}
use Rattle.sf_value.proofs.store.fill.Given as goal

-- what is in the map, before the slots that are left, is all
abbrev pub invariant-loop-slot : goal.invariant-loop-slot
invariant-loop-slot g l = record {
  all : l.map.entries ++ slot_pairs (into_iter_items l.slot-iterator) ≡ slot_pairs l.fn.slots.items;
  room : into_iter_len l.slot-iterator ≤ spare l.map;
}
