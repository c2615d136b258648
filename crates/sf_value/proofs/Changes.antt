-- Lemmas on a value that is changed in its place.
use Rattle.std.proofs.Common.{◌≡◌, ℕ, suc, Bool, true, false, cond, List, [], ◌∷◌, map, Vec, refl}
use Rattle.std.proofs.Common.{Option, Some, None, sym, ap, ◌∙◌, subst, slice_get, zero}
use Rattle.std.proofs.Common.{arith, ◌+◌, ◌-◌, ◌<◌, length, MutBor}
use Rattle.std.proofs.Math.ListN.{length-set}
use Rattle.std.specs.List.{IsDistinct, position, slice_set}
use Rattle.std.specs.Map.{keys_of, values_of, set_value}
use Rattle.std.specs.Vec.{with_item}
use Rattle.std.specs.declared.alloc.Global.{Global}
use Rattle.std.specs.Option.{option_map, option_copied_mut}
use Rattle.std.specs.Str.{bytes_eq}
use Rattle.indexmap.specs.Layout.{set_value_at, length-set_value_at}
use Rattle.sf_value.specs.declared.store.Slot.{Slot}
use Rattle.sf_value.specs.declared.store.Store.{Store}
use Rattle.sf_value.specs.declared.store.Store.TheVariants.{Fresh, Few, Many}
use Rattle.sf_value.specs.Grammar.Words.{Each}
use Rattle.sf_value.specs.Grammar.Tokens.{IsKey}
use Rattle.sf_value.specs.Grammar.Pairs.{Pairs, value_at}
use Rattle.sf_value.specs.Entries.{AreEntries}
use Rattle.sf_value.specs.Stores.{slot_pair, slot_pairs, stored, HasSeed}
use Rattle.sf_value.specs.Lending.{with_slot_value, with_stored}
use Rattle.sf_value.proofs.SlotLists.{place, is_place}

place-map : {X Y : Type 0} (f : X → Y) (t : Y → Bool) (xs : List X)
    → place t (map f xs) ≡ place (λ x. t (f x)) xs
place-map f t [] = refl
place-map f t (x ∷ xs) =
    ap (λ r. cond (t (f x)) (Some 0) (option_map (λ i. suc i) r)) (place-map f t xs)

position-map : {X Y : Type 0} (f : X → Y) (t : Y → Bool) (xs : List X)
    → position (λ x. t (f x)) xs ≡ position t (map f xs)
position-map f t xs = is_place (λ x. t (f x)) xs ∙ sym (place-map f t xs) ∙ sym (is_place t (map f xs))

module _ {V : Type 0} where
  -- what is known of the index i of the key k
  record IsIndex (k : List ℕ) (ps : Pairs V) (i : ℕ) : Type 0 where
    pub value : option_map (λ e. e.1) (slice_get ps i) ≡ value_at k ps
    pub set : (w : V) → set_value_at ps i w ≡ set_value (bytes_eq k) ps w

  index_found : (k : List ℕ) (ps : Pairs V) (i : ℕ) → place (bytes_eq k) (keys_of ps) ≡ Some i
      → IsIndex k ps i
  index_found k [] i e = absurd cc
  index_found k (p ∷ ps) i e =
      by (bytes_eq k p.0) refl (place (bytes_eq k) (keys_of ps)) refl (λ j. index_found k ps j)
    where
      by : (b : Bool) → bytes_eq k p.0 ≡ b → (r : Option ℕ) → place (bytes_eq k) (keys_of ps) ≡ r
          → ((j : ℕ) → place (bytes_eq k) (keys_of ps) ≡ Some j → IsIndex k ps j)
          → IsIndex k (p ∷ ps) i
      by true t r f rest =
          let zero : i ≡ 0 = (let h : Some 0 ≡ Some i = rw t at e in cc) in
          rw zero (record { value = rw t; set = λ w. rw t })
      by false t None f rest = absurd (let h : None ≡ Some i = rw (t, f) at e in cc)
      by false t (Some j) f rest =
          let next : i ≡ suc j = (let h : Some (suc j) ≡ Some i = rw (t, f) at e in cc) in
          let there = rest j f in
          rw next
          (record { value = rw t there.value; set = λ w. rw t (ap (λ qs. p ∷ qs) (there.set w)) })

  index_missing : (k : List ℕ) (ps : Pairs V) → place (bytes_eq k) (keys_of ps) ≡ None
      → value_at k ps ≡ None
  index_missing k [] e = refl
  index_missing k (p ∷ ps) e =
      by (bytes_eq k p.0) refl (place (bytes_eq k) (keys_of ps)) refl (index_missing k ps)
    where
      by : (b : Bool) → bytes_eq k p.0 ≡ b → (r : Option ℕ) → place (bytes_eq k) (keys_of ps) ≡ r
          → (place (bytes_eq k) (keys_of ps) ≡ None → value_at k ps ≡ None)
          → value_at k (p ∷ ps) ≡ None
      by true t r f rest = absurd (let h : Some 0 ≡ None = rw t at e in cc)
      by false t None f rest = rw t (rest f)
      by false t (Some j) f rest = absurd (let h : Some (suc j) ≡ None = rw (t, f) at e in cc)

  pub slots-position : (k : List ℕ) (ss : List (Slot V))
      → position (λ s. bytes_eq k s.key) ss ≡ position (bytes_eq k) (keys_of (slot_pairs ss))
  slots-position k ss =
      position-map slot_pair (λ e. bytes_eq k e.0) ss
      ∙ position-map (λ e. e.0) (bytes_eq k) (slot_pairs ss)

  slots-set : (ss : List (Slot V)) (i : ℕ) (s : Slot V) (w : V) → slice_get ss i ≡ Some s
      → slot_pairs (slice_set ss i (with_slot_value s w)) ≡ set_value_at (slot_pairs ss) i w
  slots-set [] i s w e = absurd cc
  slots-set (t ∷ ss) zero s w e =
      let same : t ≡ s = cc in
      ap (λ u. (u.key, w) ∷ slot_pairs ss) (sym same)
  slots-set (t ∷ ss) (suc i) s w e = ap (λ ps. (t.key, t.value) ∷ ps) (slots-set ss i s w e)

  set-past : (ss : List (Slot V)) (i : ℕ) (w : V) → slice_get ss i ≡ None
      → slot_pairs ss ≡ set_value_at (slot_pairs ss) i w
  set-past [] i w e = refl
  set-past (s ∷ ss) zero w e = absurd cc
  set-past (s ∷ ss) (suc i) w e = ap (λ ps. (s.key, s.value) ∷ ps) (set-past ss i w e)

  pub stored-set : (st : Store V) (i : ℕ) (w : V)
      → stored (with_stored st i w) ≡ set_value_at (stored st) i w
  stored-set (Fresh alloc seed) i w = refl
  stored-set (Few slots) i w = by (slice_get slots.items i) refl
    where
      by : (r : Option (Slot V)) → slice_get slots.items i ≡ r
          → stored (with_stored (Few slots) i w) ≡ set_value_at (slot_pairs slots.items) i w
      by None e = rw e (set-past slots.items i w e)
      by (Some s) e = rw e (slots-set slots.items i s w e)
  stored-set (Many m) i w = refl

  -- a value that is written at an index leaves the keys
  pub entries-set : (ps qs : Pairs V) (i : ℕ) (w : V) → AreEntries ps → qs ≡ set_value_at ps i w
      → AreEntries qs
  entries-set ps qs i w h is =
      let kept : keys_of qs ≡ keys_of ps = ap keys_of is ∙ keys ps i in
      record {
        keys = subst (Each IsKey) (sym kept) h.keys;
        distinct = subst (IsDistinct bytes_eq) (sym kept) h.distinct;
      }
    where
      keys : (rs : Pairs V) (j : ℕ) → keys_of (set_value_at rs j w) ≡ keys_of rs
      keys [] j = refl
      keys (r ∷ rs) zero = refl
      keys (r ∷ rs) (suc j) = ap (λ ks. r.0 ∷ ks) (keys rs j)

  pub seed-set : (st : Store V) (i : ℕ) (w : V) → HasSeed st → HasSeed (with_stored st i w)
  seed-set (Fresh alloc seed) i w h = h
  seed-set (Few slots) i w h = by (slice_get slots.items i) refl
    where
      by : (r : Option (Slot V)) → slice_get slots.items i ≡ r → HasSeed (with_stored (Few slots) i w)
      by None e = rw e h
      by (Some s) e = rw (e, length-set {A = Slot V}) h
  seed-set (Many m) i w h = h

  -- the reference that was lent
  pub record IsLent (r : Option (MutBor V)) : Type 0 where
    pub value : MutBor V
    pub is : r ≡ Some value

  -- within the entries a value is lent
  pub lent-within : (r : Option (MutBor V)) (ps : Pairs V) (i : ℕ) → i < length ps
      → option_copied_mut r ≡ option_map (λ e. e.1) (slice_get ps i) → IsLent r
  lent-within (Some x) ps i h e = record { value = x; is = refl }
  lent-within None [] i h e = absurd (omega (arith, h))
  lent-within None (p ∷ ps) zero h e = absurd cc
  lent-within None (p ∷ ps) (suc i) h e = lent-within None ps i (omega (arith, h)) e

  -- and one fewer is left after it
  pub fewer-left : (ps : Pairs V) (i : ℕ) (w : V) → i < length ps
      → length (set_value_at ps i w) - (i + 1) < length ps - i
  fewer-left ps i w h = omega (arith, h, length-set_value_at ps i w)

  -- the values at an index, in a vector and in a map
  pub few-set : (slots : Vec (Slot V) Global) (i : ℕ) (s : Slot V) (w : V)
      → slice_get slots.items i ≡ Some s
      → Few (with_item slots i (with_slot_value s w)) ≡ with_stored (Few slots) i w
  few-set slots i s w e = rw e

  pub few-value : (ss : List (Slot V)) (i : ℕ) (s : Slot V) → slice_get ss i ≡ Some s
      → Some s.value ≡ option_map (λ e. e.1) (slice_get (slot_pairs ss) i)
  few-value [] i s e = absurd cc
  few-value (t ∷ ss) zero s e = let same : t ≡ s = cc in ap (λ u. Some u.value) (sym same)
  few-value (t ∷ ss) (suc i) s e = few-value ss i s e

  pub many-value : (ps : Pairs V) (i : ℕ)
      → slice_get (values_of ps) i ≡ option_map (λ e. e.1) (slice_get ps i)
  many-value [] i = refl
  many-value (p ∷ ps) zero = refl
  many-value (p ∷ ps) (suc i) = many-value ps i

  -- the answer of a search among all keys
  pub record SearchedAll (k : List ℕ) (ps : Pairs V) (r : Option ℕ) : Type 0 where
    pub is : r ≡ position (bytes_eq k) (keys_of ps)

  pub searched_all : (k : List ℕ) (ps : Pairs V) (r : Option ℕ)
      → r ≡ position (bytes_eq k) (keys_of ps) → SearchedAll k ps r
  searched_all k ps r e = record { is = e }

  module _ (k : List ℕ) (ps : Pairs V) where
    was : (r : Option ℕ) → SearchedAll k ps r → place (bytes_eq k) (keys_of ps) ≡ r
    was r h = sym (is_place (bytes_eq k) (keys_of ps)) ∙ sym h.is

    pub value_nowhere : SearchedAll k ps None → value_at k ps ≡ None
    value_nowhere h = index_missing k ps (was None h)

    pub value_there : (i : ℕ) → SearchedAll k ps (Some i)
        → option_map (λ e. e.1) (slice_get ps i) ≡ value_at k ps
    value_there i h = (index_found k ps i (was (Some i) h)).value

  -- a value that is written at the index of the key k
  pub stored_with : (k : List ℕ) (st : Store V) (i : ℕ) (w : V) → SearchedAll k (stored st) (Some i)
      → stored (with_stored st i w) ≡ set_value (bytes_eq k) (stored st) w
  stored_with k st i w h =
      stored-set st i w ∙ (index_found k (stored st) i (was k (stored st) (Some i) h)).set w

  pub entries_with : (k : List ℕ) (ps qs : Pairs V) (w : V) → AreEntries ps
      → qs ≡ set_value (bytes_eq k) ps w → AreEntries qs
  entries_with k ps qs w h is =
      let kept : keys_of qs ≡ keys_of ps = ap keys_of is ∙ keys ps in
      record {
        keys = subst (Each IsKey) (sym kept) h.keys;
        distinct = subst (IsDistinct bytes_eq) (sym kept) h.distinct;
      }
    where
      keys : (rs : Pairs V) → keys_of (set_value (bytes_eq k) rs w) ≡ keys_of rs
      keys [] = refl
      keys (r ∷ rs) = by (bytes_eq k r.0) refl (keys rs)
        where
          by : (b : Bool) → bytes_eq k r.0 ≡ b
              → keys_of (set_value (bytes_eq k) rs w) ≡ keys_of rs
              → keys_of (set_value (bytes_eq k) (r ∷ rs) w) ≡ keys_of (r ∷ rs)
          by true t rest = rw t
          by false t rest = rw t (ap (λ qs. r.0 ∷ qs) rest)
