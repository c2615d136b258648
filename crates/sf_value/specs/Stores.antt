-- How contracts see stored entries as pairs.
use Rattle.std.specs.Prelude.{ℕ, ◌≡◌, ◌<◌, ◌≤◌, None, Some, List, [], length, map, vec_len, vec_capacity}
use Rattle.std.specs.List.{All, position}
use Rattle.std.specs.Str.{bytes_eq}
use Rattle.std.specs.Slice.Iter.{iter_rest}
use Rattle.std.specs.Vec.Iter.{into_iter_items}
use Rattle.std.specs.declared.random_state.RandomState.{RandomState}
use Rattle.indexmap.specs.IndexMap.{hasher_of}
use Rattle.sf_value.specs.declared.store.Slot.{Slot}
use Rattle.sf_value.specs.declared.store.Store.{Store}
use Rattle.sf_value.specs.declared.store.Store.TheVariants as store
use Rattle.sf_value.specs.declared.store.Lent.{Lent}
use Rattle.sf_value.specs.declared.store.Lent.TheVariants as lent
use Rattle.sf_value.specs.declared.store.Left.{Left}
use Rattle.sf_value.specs.declared.store.Left.TheVariants as left
use Rattle.sf_value.specs.Capacities.{HasGrown}
use Rattle.sf_value.specs.Grammar.Pairs.{Pairs}

module _ {V : Type 0} where
  abbrev pub slot_pair : Slot V → List ℕ × V
  slot_pair s = (s.key, s.value)

  abbrev pub slot_pairs : List (Slot V) → Pairs V
  slot_pairs ss = map slot_pair ss

  abbrev pub stored : Store V → Pairs V
  stored (store.Fresh _ _) = []
  stored (store.Few slots) = slot_pairs slots.items
  stored (store.Many map) = map.value.entries

  -- whether there is a seed for a map: a vector has it in its first slot
  abbrev pub HasSeed : Store V → Type 0
  HasSeed (store.Fresh _ _) = Unit {0}
  HasSeed (store.Few slots) = 0 < length slots.items
  HasSeed (store.Many _) = Unit {0}

  -- whether there is one for a map that there is not yet
  abbrev pub HasSlotSeed : Store V → Type 0
  HasSlotSeed (store.Fresh _ _) = Unit {0}
  HasSlotSeed (store.Few slots) = 0 < length slots.items
  HasSlotSeed (store.Many _) = ⊥

  -- whether it is a vector with room for one more slot
  abbrev pub HasRoom : Store V → Type 0
  HasRoom (store.Fresh _ _) = ⊥
  HasRoom (store.Few slots) = vec_len slots < vec_capacity slots
  HasRoom (store.Many _) = ⊥

  -- whether a key has this place in the vector, or is new and goes there, and there is room for it
  abbrev pub HasPlace : List ℕ → ℕ → Store V → Type 0
  HasPlace k i (store.Fresh _ _) = ⊥
  HasPlace k i (store.Few slots) =
      let place = position (λ s. bytes_eq k s.key) slots.items in
      (i < length slots.items → place ≡ Some i)
      × (length slots.items ≤ i → (place ≡ None) × (vec_len slots < vec_capacity slots))
  HasPlace k i (store.Many _) = ⊥

  -- whether it is a vector that has the capacity of one that grew
  abbrev pub HasGrownRoom : Store V → Type 0
  HasGrownRoom (store.Fresh _ _) = Unit {0}
  HasGrownRoom (store.Few slots) = HasGrown (length slots.items) (vec_capacity slots)
  HasGrownRoom (store.Many _) = Unit {0}

  -- whether each slot has this seed
  abbrev pub HaveSeed : RandomState → List (Slot V) → Type 0
  HaveSeed seed ss = All (λ s. s.seed ≡ seed) ss

  -- whether this is the seed of the map that there is, or will be
  abbrev pub IsSeedOf : RandomState → Store V → Type 0
  IsSeedOf seed (store.Fresh _ own) = own ≡ seed
  IsSeedOf seed (store.Few slots) = HaveSeed seed slots.items
  IsSeedOf seed (store.Many map) = hasher_of map.value ≡ seed

  -- what remains of an iteration by reference
  abbrev pub lent_pairs : Lent V → Pairs V
  lent_pairs lent.Nothing = []
  lent_pairs (lent.Few slots) = slot_pairs (iter_rest slots)
  lent_pairs (lent.Many entries) = entries

  -- what remains of an iteration by value
  abbrev pub left_pairs : Left V → Pairs V
  left_pairs left.Nothing = []
  left_pairs (left.Few slots) = slot_pairs (into_iter_items slots)
  left_pairs (left.Many entries) = entries
