use Rattle.std.proofs.Common.{◌≡◌, ◌≤◌, ◌++◌, length}
use Rattle.indexmap.specs.IndexMap.{spare, hasher_of}
use Rattle.sf_value.proofs.store.copy_many.Given as goal

-- what is copied, before what is left, is the source
abbrev pub invariant-loop-key : goal.invariant-loop-key
invariant-loop-key g l = record {
  all : l.copies.value.entries ++ l.key-iterator ≡ l.map.entries;
  room : length l.key-iterator ≤ spare l.copies.value;
  given : hasher_of l.copies.value ≡ l.seed;
}
