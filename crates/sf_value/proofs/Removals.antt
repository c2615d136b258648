-- Lemmas on a key that is taken out.
use Rattle.std.proofs.Common.{◌≡◌, ℕ, suc, Bool, true, false, List, [], ◌∷◌, remove, refl}
use Rattle.std.proofs.Common.{Option, Some, None, sym, ap, ◌∙◌, subst}
use Rattle.std.specs.List.{IsDistinct}
use Rattle.std.specs.Map.{keys_of}
use Rattle.std.specs.Cmp.Lexicographic.{same_text}
use Rattle.std.specs.Str.{bytes_eq}
use Rattle.indexmap.specs.IndexMap.{shift_remove_entry}
use Rattle.sf_value.specs.declared.store.Slot.{Slot}
use Rattle.sf_value.specs.Grammar.Words.{Each}
use Rattle.sf_value.specs.Grammar.Tokens.{IsKey}
use Rattle.sf_value.specs.Grammar.Pairs.{Pairs, without, HasDistinctKeys}
use Rattle.sf_value.specs.Entries.{AreEntries}
use Rattle.sf_value.specs.Stores.{slot_pairs}
use Rattle.sf_value.proofs.EntryMaps.{IsAbsent, without-absent}
use Rattle.sf_value.proofs.Settling.{distinct-without}
use Rattle.sf_value.proofs.SlotLists.{place, has_key, place_missing, Searched}

module _ {V : Type 0} (k : List ℕ) where
  -- after the pair that has the key there is none
  without-strip_byte : (q : List ℕ) (ps : Pairs V) → IsAbsent q ps → bytes_eq k q ≡ true
      → ps ≡ without k ps
  without-strip_byte q ps h t =
      sym (without-absent k ps (subst (λ l. IsAbsent l ps) (sym (same_text k q (sym t))) h))

  slots-without : (ss : List (Slot V)) (i : ℕ) → HasDistinctKeys (slot_pairs ss)
      → place (has_key k) ss ≡ Some i → slot_pairs (remove ss i) ≡ without k (slot_pairs ss)
  unfolding IsDistinct
  slots-without [] i d e = absurd cc
  slots-without (s ∷ ss) i d e =
      by (bytes_eq k s.key) refl (place (has_key k) ss) refl (λ j. slots-without ss j d.1)
    where
      by : (b : Bool) → bytes_eq k s.key ≡ b → (r : Option ℕ) → place (has_key k) ss ≡ r
          → ((j : ℕ) → place (has_key k) ss ≡ Some j
          → slot_pairs (remove ss j) ≡ without k (slot_pairs ss))
          → slot_pairs (remove (s ∷ ss) i) ≡ without k (slot_pairs (s ∷ ss))
      by true t r f rest =
          let zero : i ≡ 0 = (let h : Some 0 ≡ Some i = rw t at e in cc) in
          rw (zero, t) (without-strip_byte s.key (slot_pairs ss) d.0 t)
      by false t None f rest = absurd (let h : None ≡ Some i = rw (t, f) at e in cc)
      by false t (Some j) f rest =
          let next : i ≡ suc j = (let h : Some (suc j) ≡ Some i = rw (t, f) at e in cc) in
          rw (next, t) (ap (λ ps. (s.key, s.value) ∷ ps) (rest j f))

  -- the slot of the key is taken out
  pub removed_slot : (ss ss' : List (Slot V)) (i : ℕ) → Searched k ss (Some i)
      → AreEntries (slot_pairs ss) → ss' ≡ remove ss i
      → slot_pairs ss' ≡ without k (slot_pairs ss)
  removed_slot ss ss' i h e is = ap slot_pairs is ∙ slots-without ss i e.distinct h.was

  pub removed_none : (ss : List (Slot V)) → Searched k ss None
      → slot_pairs ss ≡ without k (slot_pairs ss)
  removed_none ss h = sym (without-absent k (slot_pairs ss) (place_missing k ss h.was))

  -- the entry of the key is taken out of a map
  pub taken-out : (ps : Pairs V) → HasDistinctKeys ps
      → shift_remove_entry (bytes_eq k) ps ≡ without k ps
  unfolding IsDistinct
  taken-out [] d = refl
  taken-out (p ∷ ps) d = by (bytes_eq k p.0) refl (taken-out ps d.1)
    where
      by : (b : Bool) → bytes_eq k p.0 ≡ b → shift_remove_entry (bytes_eq k) ps ≡ without k ps
          → shift_remove_entry (bytes_eq k) (p ∷ ps) ≡ without k (p ∷ ps)
      by true t rest = rw t (without-strip_byte p.0 ps d.0 t)
      by false t rest = rw t (ap (λ qs. p ∷ qs) rest)

  pub entries-without : (ps qs : Pairs V) → AreEntries ps → qs ≡ without k ps → AreEntries qs
  entries-without ps qs h is =
      subst AreEntries (sym is)
      (record { keys = keys ps h.keys; distinct = distinct-without k ps h.distinct })
    where
      keys : (rs : Pairs V) → Each IsKey (keys_of rs) → Each IsKey (keys_of (without k rs))
      keys [] e = tt
      keys (r ∷ rs) e = by (bytes_eq k r.0) refl (keys rs e.1)
        where
          by : (b : Bool) → bytes_eq k r.0 ≡ b → Each IsKey (keys_of (without k rs))
              → Each IsKey (keys_of (without k (r ∷ rs)))
          by true t rest = rw t rest
          by false t rest = rw t (e.0, rest)
