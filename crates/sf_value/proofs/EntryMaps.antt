-- Lemmas on entries and on `settle`.
use Rattle.std.proofs.Common.{◌≡◌, ℕ, Bool, true, false, not, cond, List, [], ◌∷◌, ◌++◌, Some}
use Rattle.std.proofs.Common.{refl, sym, ap, ◌∙◌, subst, append-nil}
use Rattle.std.proofs.Common.{append_assoc, take, slice_get, ◌+◌}
use Rattle.std.proofs.lemmas.List.{take_more_same}
use Rattle.std.proofs.lemmas.Option.{slice_get_within, get_or_from_slice_get}
use Rattle.std.proofs.lemmas.List.Elements.{filter-append}
use Rattle.std.specs.List.{IsDistinct, AllByRecursion}
use Rattle.std.specs.Map.{keys_of, set_value}
use Rattle.std.specs.Cmp.Lexicographic.{nat_list_eq_equiv, same_text}
use Rattle.std.specs.Str.{bytes_eq}
use Rattle.indexmap.specs.IndexMap.{insert_entry}
use Rattle.sf_value.specs.Grammar.Words.{Each}
use Rattle.sf_value.specs.Grammar.Tokens.{IsKey}
use Rattle.sf_value.specs.Grammar.Pairs.{Pairs, latest, without, settle, value_at, HasDistinctKeys}
use Rattle.sf_value.specs.Entries.{AreEntries}

module _ {V : Type 0} where
  -- no pair of ps has the key k
  abbrev pub IsAbsent : List ℕ → Pairs V → Type 0
  IsAbsent k ps = AllByRecursion (λ q. bytes_eq k q ≡ false) (keys_of ps)

  pub without-absent : (k : List ℕ) (ps : Pairs V) → IsAbsent k ps → without k ps ≡ ps
  without-absent k [] h = refl
  without-absent k (p ∷ ps) h = rw (h.0, without-absent k ps h.1)

  pub latest-absent : (k : List ℕ) (v : V) (ps : Pairs V) → IsAbsent k ps → latest k v ps ≡ v
  latest-absent k v [] h = refl
  latest-absent k v (p ∷ ps) h = rw h.0 (latest-absent k v ps h.1)

  pub latest-append : (k : List ℕ) (w : V) (ps : Pairs V) (q : List ℕ × V)
      → latest k w (ps ++ q ∷ []) ≡ cond (bytes_eq k q.0) q.1 (latest k w ps)
  latest-append k w [] q = refl
  latest-append k w (p ∷ ps) q = latest-append k (cond (bytes_eq k p.0) p.1 w) ps q

  pub insert_entry-absent : (k : List ℕ) (v : V) (ps : Pairs V) → IsAbsent k ps
      → insert_entry bytes_eq ps k v ≡ ps ++ (k, v) ∷ []
  insert_entry-absent k v [] h = refl
  insert_entry-absent k v (p ∷ ps) h = rw (h.0, insert_entry-absent k v ps h.1)

  pub IsAbsent-insert : (k q : List ℕ) (v : V) (ps : Pairs V) → IsAbsent k ps → bytes_eq k q ≡ false
      → IsAbsent k (insert_entry bytes_eq ps q v)
  IsAbsent-insert k q v [] h e = (e, tt)
  IsAbsent-insert k q v (p ∷ ps) h e = by (bytes_eq q p.0) refl (IsAbsent-insert k q v ps h.1 e)
    where
      by : (b : Bool) → bytes_eq q p.0 ≡ b → IsAbsent k (insert_entry bytes_eq ps q v)
          → IsAbsent k (insert_entry bytes_eq (p ∷ ps) q v)
      by true t rest = rw t h
      by false t rest = rw t (h.0, rest)

  -- a new pair goes last, and a value takes the place of the old one
  pub settle-push : (ps : Pairs V) (k : List ℕ) (v : V) → HasDistinctKeys ps
      → settle (ps ++ (k, v) ∷ []) ≡ insert_entry bytes_eq ps k v
  unfolding IsDistinct
  settle-push [] k v d = refl
  settle-push (p ∷ ps) k v d = by (bytes_eq k p.0) refl (ap (without p.0) (settle-push ps k v d.1))
    where
      head : latest p.0 p.1 (ps ++ (k, v) ∷ []) ≡ cond (bytes_eq p.0 k) v p.1
      head =
          latest-append p.0 p.1 ps (k, v)
          ∙ ap (cond (bytes_eq p.0 k) v) (latest-absent p.0 p.1 ps d.0)

      flip : bytes_eq p.0 k ≡ bytes_eq k p.0
      flip = nat_list_eq_equiv.symm p.0 k

      by : (b : Bool) → bytes_eq k p.0 ≡ b
          → without p.0 (settle (ps ++ (k, v) ∷ [])) ≡ without p.0 (insert_entry bytes_eq ps k v)
          → settle ((p ∷ ps) ++ (k, v) ∷ []) ≡ insert_entry bytes_eq (p ∷ ps) k v
      by true t tail =
          let here : bytes_eq p.0 k ≡ true = flip ∙ t in
          let same : p.0 ≡ k = same_text p.0 k (sym here) in
          let absent : IsAbsent k ps = subst (λ q. IsAbsent q ps) same d.0 in
          let last : without p.0 ((k, v) ∷ []) ≡ [] = rw here in
          let rest : without p.0 (insert_entry bytes_eq ps k v) ≡ ps =
          ap (without p.0) (insert_entry-absent k v ps absent)
          ∙ filter-append (λ q. not (bytes_eq p.0 q.0)) ps ((k, v) ∷ [])
          ∙ rw (last, without-absent p.0 ps d.0, append-nil) in
          rw (head, tail, rest, here, t)
      by false t tail =
          let there : bytes_eq p.0 k ≡ false = flip ∙ t in
          let apart = IsAbsent-insert p.0 k v ps d.0 there in
          rw (head, tail, without-absent p.0 (insert_entry bytes_eq ps k v) apart, there, t)

  -- a key that has a value is overwritten
  pub insert_entry-present : (k : List ℕ) (v w : V) (ps : Pairs V) → value_at k ps ≡ Some v
      → set_value (bytes_eq k) ps w ≡ insert_entry bytes_eq ps k w
  insert_entry-present k v w [] h = absurd cc
  insert_entry-present k v w (p ∷ ps) h = by (bytes_eq k p.0) refl (insert_entry-present k v w ps)
    where
      by : (b : Bool) → bytes_eq k p.0 ≡ b
          → (value_at k ps ≡ Some v → set_value (bytes_eq k) ps w ≡ insert_entry bytes_eq ps k w)
          → set_value (bytes_eq k) (p ∷ ps) w ≡ insert_entry bytes_eq (p ∷ ps) k w
      by true t rest = rw t
      by false t rest = let there : value_at k ps ≡ Some v = rw t at h in rw (t, rest there)

  pub keys-insert_entry : (ps : Pairs V) (k : List ℕ) (v : V) → Each IsKey (keys_of ps) → IsKey k
      → Each IsKey (keys_of (insert_entry bytes_eq ps k v))
  keys-insert_entry [] k v h e = (e, tt)
  keys-insert_entry (p ∷ ps) k v h e = by (bytes_eq k p.0) refl (keys-insert_entry ps k v h.1 e)
    where
      by : (b : Bool) → bytes_eq k p.0 ≡ b → Each IsKey (keys_of (insert_entry bytes_eq ps k v))
          → Each IsKey (keys_of (insert_entry bytes_eq (p ∷ ps) k v))
      by true t rest = rw t h
      by false t rest = rw t (h.0, rest)

  pub distinct-insert_entry : (ps : Pairs V) (k : List ℕ) (v : V) → HasDistinctKeys ps
      → HasDistinctKeys (insert_entry bytes_eq ps k v)
  unfolding IsDistinct
  distinct-insert_entry [] k v d = (tt, tt)
  distinct-insert_entry (p ∷ ps) k v d = by (bytes_eq k p.0) refl (distinct-insert_entry ps k v d.1)
    where
      by : (b : Bool) → bytes_eq k p.0 ≡ b → HasDistinctKeys (insert_entry bytes_eq ps k v)
          → HasDistinctKeys (insert_entry bytes_eq (p ∷ ps) k v)
      by true t rest = rw t d
      by false t rest =
          rw t (IsAbsent-insert p.0 k v ps d.0 (nat_list_eq_equiv.symm p.0 k ∙ t), rest)

  pub AreEntries-none : AreEntries {V = V} []
  unfolding IsDistinct
  AreEntries-none = record { keys = tt; distinct = tt }

  pub AreEntries-insert : (ps : Pairs V) (k : List ℕ) (v : V) → AreEntries ps → IsKey k
      → AreEntries (insert_entry bytes_eq ps k v)
  AreEntries-insert ps k v h e =
      record {
        keys = keys-insert_entry ps k v h.keys e;
        distinct = distinct-insert_entry ps k v h.distinct;
      }

  -- a key before without that differ from it
  pub IsAbsent-before : (ps qs : Pairs V) (q : List ℕ × V) → HasDistinctKeys (ps ++ q ∷ qs)
      → IsAbsent q.0 ps
  unfolding IsDistinct
  IsAbsent-before [] qs q d = tt
  IsAbsent-before (p ∷ ps) qs q d =
      (nat_list_eq_equiv.symm q.0 p.0 ∙ differs ps d.0, IsAbsent-before ps qs q d.1)
    where
      differs : (rs : Pairs V) → IsAbsent p.0 (rs ++ q ∷ qs) → bytes_eq p.0 q.0 ≡ false
      differs [] h = h.0
      differs (r ∷ rs) h = differs rs h.1

  -- the next pair of a list with distinct keys goes last
  pub insert_entry-next : (ps qs : Pairs V) (q : List ℕ × V) → HasDistinctKeys (ps ++ q ∷ qs)
      → insert_entry bytes_eq ps q.0 q.1 ++ qs ≡ ps ++ q ∷ qs
  insert_entry-next ps qs q d =
      ap (λ rs. rs ++ qs) (insert_entry-absent q.0 q.1 ps (IsAbsent-before ps qs q d))
      ∙ append_assoc ps (q ∷ []) qs

-- one more place at which two lists have one item
pub same-step : {X : Type 0} (xs ys : List X) (i : ℕ) (x y : X) → take i xs ≡ take i ys
    → slice_get xs i ≡ Some x → slice_get ys i ≡ Some y → x ≡ y → take (i + 1) xs ≡ take (i + 1) ys
same-step xs ys i x y h p q e =
    take_more_same xs ys i x (slice_get_within xs i x p) (slice_get_within ys i y q) h
    (get_or_from_slice_get xs i x x p ∙ e ∙ sym (get_or_from_slice_get ys i y x q))
