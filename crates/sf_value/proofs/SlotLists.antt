-- Lemmas on entries that are in a vector.
use Rattle.std.proofs.Common.{◌≡◌, ℕ, suc, ◌+◌, Bool, true, false, cond, List, [], ◌∷◌, ◌++◌}
use Rattle.std.proofs.Common.{Option, Some, None, refl, sym, ap, ◌∙◌, subst, get_or}
use Rattle.std.proofs.Common.{arith}
use Rattle.std.proofs.lemmas.Iterator.Adapters.{position_from-zero}
use Rattle.std.specs.List.{position, position_from, slice_set}
use Rattle.std.specs.Option.{option_map}
use Rattle.std.specs.Str.{bytes_eq}
use Rattle.indexmap.specs.IndexMap.{insert_entry}
use Rattle.sf_value.specs.declared.store.Slot.{Slot}
use Rattle.sf_value.specs.Grammar.Tokens.{IsKey}
use Rattle.sf_value.specs.Grammar.Pairs.{Pairs, settle, value_at, HasDistinctKeys}
use Rattle.sf_value.specs.Entries.{AreEntries}
use Rattle.sf_value.specs.Stores.{slot_pairs}
use Rattle.sf_value.proofs.EntryMaps.{IsAbsent, insert_entry-absent, insert_entry-next, settle-push}
use Rattle.sf_value.proofs.EntryMaps.{AreEntries-insert}

-- the first place at which a test passes, by recursion
abbrev pub place : {X : Type 0} → (X → Bool) → List X → Option ℕ
place t [] = None
place t (x ∷ xs) = cond (t x) (Some 0) (option_map (λ i. suc i) (place t xs))

place_from : {X : Type 0} (t : X → Bool) (n : ℕ) (xs : List X)
    → position_from t n xs ≡ option_map (λ i. n + i) (place t xs)
place_from t n [] = refl
place_from t n (x ∷ xs) = by (t x) refl (place_from t (n + 1) xs)
  where
    further : (r : Option ℕ)
        → option_map (λ i. n + 1 + i) r ≡ option_map (λ i. n + i) (option_map (λ i. suc i) r)
    further None = refl
    further (Some i) = ap Some (omega arith)

    by : (b : Bool) → t x ≡ b → position_from t (n + 1) xs
        ≡ option_map (λ i. n + 1 + i) (place t xs)
        → position_from t n (x ∷ xs) ≡ option_map (λ i. n + i) (place t (x ∷ xs))
    by true h rest = rw h (ap Some (omega arith))
    by false h rest = rw h (rest ∙ further (place t xs))

pub is_place : {X : Type 0} (t : X → Bool) (xs : List X) → position t xs ≡ place t xs
is_place t xs = position_from-zero t xs ∙ place_from t 0 xs ∙ same (place t xs)
  where
    same : (r : Option ℕ) → option_map (λ i. 0 + i) r ≡ r
    same None = refl
    same (Some i) = ap Some (omega arith)

module _ {V : Type 0} where
  -- the test by which a slot is found
  abbrev pub has_key : List ℕ → Slot V → Bool
  has_key k s = bytes_eq k s.key

  -- what is known of the place of a key, at which the slot d is
  record IsPlace (k : List ℕ) (ss : List (Slot V)) (i : ℕ) (d : Slot V) : Type 0 where
    pub value : Some (get_or ss i d).value ≡ value_at k (slot_pairs ss)
    pub put : (v : V) (e : Slot V) → e.key ≡ (get_or ss i d).key → e.value ≡ v
        → slot_pairs (slice_set ss i e) ≡ insert_entry bytes_eq (slot_pairs ss) k v

  place_found : (k : List ℕ) (ss : List (Slot V)) (i : ℕ) (d : Slot V)
      → place (has_key k) ss ≡ Some i → IsPlace k ss i d
  place_found k [] i d e = absurd cc
  place_found k (s ∷ ss) i d e =
      by (bytes_eq k s.key) refl (place (has_key k) ss) refl (λ j. place_found k ss j d)
    where
      by : (b : Bool) → bytes_eq k s.key ≡ b → (r : Option ℕ) → place (has_key k) ss ≡ r
          → ((j : ℕ) → place (has_key k) ss ≡ Some j → IsPlace k ss j d) → IsPlace k (s ∷ ss) i d
      by true t r f rest =
          let zero : i ≡ 0 = (let h : Some 0 ≡ Some i = rw t at e in cc) in
          rw zero
          (record {
            value = rw t;
            put = λ v e key value. rw (t, key, value);
          })
      by false t None f rest = absurd (let h : None ≡ Some i = rw (t, f) at e in cc)
      by false t (Some j) f rest =
          let next : i ≡ suc j = (let h : Some (suc j) ≡ Some i = rw (t, f) at e in cc) in
          let there = rest j f in
          rw next
          (record {
            value = rw t there.value;
            put = λ v e key value. rw (t, there.put v e key value);
          })

  pub place_missing : (k : List ℕ) (ss : List (Slot V)) → place (has_key k) ss ≡ None
      → IsAbsent k (slot_pairs ss)
  place_missing k [] e = tt
  place_missing k (s ∷ ss) e =
      by (bytes_eq k s.key) refl (place (has_key k) ss) refl (place_missing k ss)
    where
      by : (b : Bool) → bytes_eq k s.key ≡ b → (r : Option ℕ) → place (has_key k) ss ≡ r
          → (place (has_key k) ss ≡ None → IsAbsent k (slot_pairs ss))
          → IsAbsent k (slot_pairs (s ∷ ss))
      by true t r f rest = absurd (let h : Some 0 ≡ None = rw t at e in cc)
      by false t None f rest = (t, rest f)
      by false t (Some j) f rest = absurd (let h : Some (suc j) ≡ None = rw (t, f) at e in cc)

  value-absent : (k : List ℕ) (ps : Pairs V) → IsAbsent k ps → value_at k ps ≡ None
  value-absent k [] h = refl
  value-absent k (p ∷ ps) h = rw h.0 (value-absent k ps h.1)

  slot_pairs-append : (ss : List (Slot V)) (s : Slot V)
      → slot_pairs (ss ++ s ∷ []) ≡ slot_pairs ss ++ (s.key, s.value) ∷ []
  slot_pairs-append [] s = refl
  slot_pairs-append (t ∷ ss) s = ap (λ ps. (t.key, t.value) ∷ ps) (slot_pairs-append ss s)

  -- what a search for the key l gave, where the call was handed its bytes and the slots
  pub record Searched (l : List ℕ) (ss : List (Slot V)) (r : Option ℕ) : Type 0 where
    pub was : place (has_key l) ss ≡ r

  pub searched : (k l : List ℕ) (ts ss : List (Slot V)) (r : Option ℕ)
      → r ≡ position (has_key k) ts → k ≡ l → ts ≡ ss → Searched l ss r
  searched k l ts ss r e p q =
      record {
        was = sym (e ∙ (λ i. position (has_key (p i)) (q i)) ∙ is_place (has_key l) ss);
      }

  module _ (k : List ℕ) (ss : List (Slot V)) where
    pub value_missing : Searched k ss None → value_at k (slot_pairs ss) ≡ None
    value_missing h = value-absent k (slot_pairs ss) (place_missing k ss h.was)

    pub value_found : (i : ℕ) (d : Slot V) → Searched k ss (Some i) → d ≡ get_or ss i d
        → Some d.value ≡ value_at k (slot_pairs ss)
    value_found i d h is = ap (λ s. Some s.value) is ∙ (place_found k ss i d h.was).value

    -- a value that is written at its key's place
    pub replaced : (i : ℕ) (d e : Slot V) (v : V) → Searched k ss (Some i) → d ≡ get_or ss i d
        → e.key ≡ d.key → e.value ≡ v
        → slot_pairs (slice_set ss i e) ≡ insert_entry bytes_eq (slot_pairs ss) k v
    replaced i d e v h is key value =
        (place_found k ss i d h.was).put v e (key ∙ ap (λ s. s.key) is) value

    -- a new slot that goes last
    pub added : (ss' : List (Slot V)) (s : Slot V) → Searched k ss None → s.key ≡ k
        → ss' ≡ ss ++ s ∷ [] → slot_pairs ss' ≡ insert_entry bytes_eq (slot_pairs ss) k s.value
    added ss' s h key is =
        ap slot_pairs is ∙ slot_pairs-append ss s
        ∙ ap (λ q. slot_pairs ss ++ (q, s.value) ∷ []) key
        ∙ sym (insert_entry-absent k s.value (slot_pairs ss) (place_missing k ss h.was))

  absent-value : (k : List ℕ) (ps : Pairs V) → value_at k ps ≡ None → IsAbsent k ps
  absent-value k [] h = tt
  absent-value k (p ∷ ps) h = by (bytes_eq k p.0) refl (absent-value k ps)
    where
      by : (b : Bool) → bytes_eq k p.0 ≡ b → (value_at k ps ≡ None → IsAbsent k ps)
          → IsAbsent k (p ∷ ps)
      by true t rest = absurd (let e : Some p.1 ≡ None = rw t at h in cc)
      by false t rest = (t, rest (rw t at h))

  -- a new slot that goes last after slots with these pairs
  pub added_last : (k : List ℕ) (ps : Pairs V) (ss ss' : List (Slot V)) (s : Slot V)
      → slot_pairs ss ≡ ps → value_at k ps ≡ None → s.key ≡ k → ss' ≡ ss ++ s ∷ []
      → slot_pairs ss' ≡ insert_entry bytes_eq ps k s.value
  added_last k ps ss ss' s before new key is =
      ap slot_pairs is ∙ slot_pairs-append ss s
      ∙ (λ i. before i ++ (key i, s.value) ∷ [])
      ∙ sym (insert_entry-absent k s.value ps (absent-value k ps new))

  -- the first slot of all
  pub added_first : (k : List ℕ) (none ss : List (Slot V)) (s : Slot V) → none ≡ [] → s.key ≡ k
      → ss ≡ none ++ s ∷ [] → slot_pairs ss ≡ insert_entry bytes_eq [] k s.value
  added_first k none ss s empty key is =
      ap slot_pairs (is ∙ ap (λ ts. ts ++ s ∷ []) empty) ∙ ap (λ q. (q, s.value) ∷ []) key

  -- entries into which a pair was put
  pub settled : (k : List ℕ) (v : V) (ps qs : Pairs V) → AreEntries ps
      → qs ≡ insert_entry bytes_eq ps k v → qs ≡ settle (ps ++ (k, v) ∷ [])
  settled k v ps qs h is = is ∙ sym (settle-push ps k v h.distinct)

  pub stay_entries : (k : List ℕ) (v : V) (ps qs : Pairs V) → AreEntries ps → IsKey k
      → qs ≡ insert_entry bytes_eq ps k v → AreEntries qs
  stay_entries k v ps qs h key is = subst AreEntries (sym is) (AreEntries-insert ps k v h key)

  -- one more slot goes into the map: what is in it, before what is left, is still all
  pub filled-step : (ss ss' : List (Slot V)) (s : Slot V) (es es' all : Pairs V)
      → HasDistinctKeys all → es ++ slot_pairs ss ≡ all → ss ≡ s ∷ ss'
      → es' ≡ insert_entry bytes_eq es s.key s.value → es' ++ slot_pairs ss' ≡ all
  filled-step ss ss' s es es' all d all-is ss-is es-is =
      let next : es ++ (s.key, s.value) ∷ slot_pairs ss' ≡ all =
      ap (λ ts. es ++ slot_pairs ts) (sym ss-is) ∙ all-is in
      ap (λ fs. fs ++ slot_pairs ss') es-is
      ∙ insert_entry-next es (slot_pairs ss') (s.key, s.value)
      (subst (λ ps. HasDistinctKeys ps) (sym next) d)
      ∙ next

  -- one more pair is copied: the pairs copied so far, before those that are left, are still all
  pub copied : (done done' left left' all : Pairs V) (k key : List ℕ) (v value : V)
      → HasDistinctKeys all → done ++ left ≡ all → left ≡ (k, v) ∷ left'
      → done' ≡ insert_entry bytes_eq done key value → key ≡ k → value ≡ v → done' ++ left' ≡ all
  copied done done' left left' all k key v value d all-is left-is done-is key-is value-is =
      let next : done ++ (k, v) ∷ left' ≡ all = ap (λ ps. done ++ ps) (sym left-is) ∙ all-is in
      ap (λ ps. ps ++ left') done-is
      ∙ (λ i. insert_entry bytes_eq done (key-is i) (value-is i) ++ left')
      ∙ insert_entry-next done left' (k, v) (subst (λ ps. HasDistinctKeys ps) (sym next) d)
      ∙ next
