-- The final values of parts that were lent for changes.
use mir.Syntax.{named}
use Rattle.std.specs.Prelude.{ℕ, List, [], ◌++◌, ◌+◌, ◌-◌, length, take, drop, slice_get, Option}
use Rattle.std.specs.Borrow.{Lends, LendsIf, Fml, RattleType, MutBor, Array}
use Rattle.std.specs.Box.{with_value}
use Rattle.std.specs.Map.{set_value}
use Rattle.std.specs.Option.{option_map_or}
use Rattle.std.specs.Str.{bytes_eq}
use Rattle.std.specs.Vec.{with_item}
use Rattle.indexmap.specs.IndexMap as map
use Rattle.indexmap.specs.Layout.{set_value_at}
use Rattle.sf_value.specs.declared.store.Slot.{Slot}
use Rattle.sf_value.specs.declared.store.Store.{Store}
use Rattle.sf_value.specs.declared.store.Store.TheVariants.{Fresh, Few, Many}
use Rattle.sf_value.specs.declared.entries.IterMut.{IterMut}
use Rattle.sf_value.specs.contracts.entries.IterMut.{the_row as iter_mut_row}
use Rattle.sf_value.specs.contracts.store.Store.{the_row as store_row}
use Rattle.sf_value.specs.contracts.entries.Entries.{the_row as entries_row}
use Rattle.sf_value.specs.contracts.sequence.Sequence.{the_row as sequence_row}
use Rattle.sf_value.specs.Grammar.Pairs.{Pairs}

-- xs replace the first values; the length stays
abbrev pub with_items : {T : Type 0} → List T → List T → List T
with_items values xs = take (length values) (xs ++ drop (length xs) values)

-- once the borrow r ends, the values are the final values of r: they are as many as before
abbrev pub LendsItems : (T : RattleType) → MutBor (List T.Denot) → MutBor (List T.Denot) → Fml
LendsItems T s r = Lends (sequence_row T) (Array T 0) s r (with_items s.now)

module _ {V : Type 0} where
  abbrev pub with_slot_value : Slot V → V → Slot V
  with_slot_value slot w = record { key = slot.key; value = w; seed = slot.seed }

  -- the stored entries, with w as the value at an index
  abbrev pub with_stored : Store V → ℕ → V → Store V
  with_stored (Fresh alloc seed) i w = Fresh alloc seed
  with_stored (Few slots) i w =
      option_map_or (λ slot. Few (with_item slots i (with_slot_value slot w)))
      (slice_get slots.items i) (Few slots)
  with_stored (Many m) i w = Many (with_value m (map.with_value_at m.value i w))

-- once the borrow r ends, the value at the index is the final value of r; at `None` nothing changes
abbrev pub LendsStored : (V : RattleType) → MutBor (Store V.Denot) → ℕ → Option (MutBor V.Denot)
    → Fml
LendsStored V s i r = LendsIf (store_row V) V s r (with_stored s.now i) s.now

-- once the borrow r ends, the value of the key k is the final value of r; at `None` nothing changes
abbrev pub LendsValue : (V : RattleType) → MutBor (Pairs V.Denot) → List ℕ
    → Option (MutBor V.Denot) → Fml
LendsValue V e k r = LendsIf (entries_row V) V e r (set_value (bytes_eq k) e.now) e.now

-- once the borrow r ends, the value at the index i is the final value of r; at `None` nothing
-- changes
abbrev pub LendsValueAt : (V : RattleType) → MutBor (Pairs V.Denot) → ℕ → Option (MutBor V.Denot)
    → Fml
LendsValueAt V e i r = LendsIf (entries_row V) V e r (set_value_at e.now i) e.now

module _ {V : Type 0} where
  -- the entries whose values are lent one after another
  abbrev pub lent_entries : IterMut V → MutBor (Pairs V)
  lent_entries values = values.entries

  -- the index of the value that comes next
  abbrev pub lent_index : IterMut V → ℕ
  lent_index values = values.index

  -- the number of values that remain
  abbrev pub values_left : IterMut V → ℕ
  values_left values = length values.entries.now - values.index

  -- w replaces the value that comes next, and the one after it comes next
  abbrev pub with_lent : IterMut V → V → IterMut V
  with_lent values w = record {
    entries = record values.entries { now = set_value_at values.entries.now values.index w };
    index = values.index + 1;
  }

-- once the borrow r ends, the value that came next is the final value of r; at `None` nothing
-- changes
abbrev pub LendsNext : (V : RattleType) → MutBor (IterMut V.Denot) → Option (MutBor V.Denot) → Fml
LendsNext V s r =
    LendsIf (iter_mut_row (record { mir = named 1; lft = [] }) V) V s r (with_lent s.now) s.now
