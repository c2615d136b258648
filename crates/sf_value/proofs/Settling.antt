-- `settle`: what overwriting pair by pair makes of a list, whole.
use Rattle.std.proofs.Common.{◌≡◌, ℕ, Bool, true, false, if◌then◌else◌, List, [], ◌∷◌, ◌++◌, refl}
use Rattle.std.proofs.Common.{sym, ap, ◌∙◌}
use Rattle.std.proofs.Common.{subst, append_assoc, append-nil, true≢false, arith}
use Rattle.std.specs.List.{IsDistinct}
use Rattle.std.specs.Cmp.Lexicographic.{nat_list_eq_equiv, same_text}
use Rattle.std.specs.Str.{bytes_eq}
use Rattle.std.proofs.lemmas.Slice.Eq.{bytes_eq-Decides}
use Rattle.indexmap.specs.IndexMap.{insert_entry, insert_all}
use Rattle.sf_value.specs.Grammar.Pairs.{Pairs, latest, without, settle, put, HasDistinctKeys}
use Rattle.sf_value.proofs.EntryMaps.{IsAbsent, without-absent, latest-absent, latest-append}

pub same_key : (k : List ℕ) → bytes_eq k k ≡ true
same_key k = (bytes_eq-Decides k k).1 refl

pub key_is : (k l : List ℕ) → bytes_eq k l ≡ true → k ≡ l
key_is k l e = (bytes_eq-Decides k l).0 e

pub keys_apart : (k l q : List ℕ) → bytes_eq k l ≡ false → bytes_eq k q ≡ true
    → bytes_eq l q ≡ false
keys_apart k l q n e = off (bytes_eq l q) refl
  where
    clash : bytes_eq k l ≡ true → ⊥
    clash t = cc

    off : (y : Bool) → bytes_eq l q ≡ y → bytes_eq l q ≡ false
    off false j = j
    off true j = absurd (clash ((bytes_eq-Decides k l).1 (key_is k q e ∙ sym (key_is l q j))))

module _ {V : Type 0} where
  -- the other keys' pairs, after a pair of the same key is put in
  without-insert_same : (k : List ℕ) (v : V) (ps : Pairs V)
      → without k (insert_entry bytes_eq ps k v) ≡ without k ps
  without-insert_same k v [] = rw (nat_list_eq_equiv.refl k)
  without-insert_same k v (p ∷ ps) = by (bytes_eq k p.0) refl (without-insert_same k v ps)
    where
      by : (b : Bool) → bytes_eq k p.0 ≡ b → without k (insert_entry bytes_eq ps k v) ≡ without k ps
          → without k (insert_entry bytes_eq (p ∷ ps) k v) ≡ without k (p ∷ ps)
      by true t rest = rw (t, t)
      by false t rest = rw (t, t, rest)

  -- and of another key
  without-insert_other : (k q : List ℕ) (v : V) (ps : Pairs V) → bytes_eq k q ≡ false
      → without k (insert_entry bytes_eq ps q v) ≡ insert_entry bytes_eq (without k ps) q v
  without-insert_other k q v [] h = rw h
  without-insert_other k q v (p ∷ ps) h =
      by (bytes_eq q p.0) refl (bytes_eq k p.0) refl (without-insert_other k q v ps h)
    where
      by : (a : Bool) → bytes_eq q p.0 ≡ a → (b : Bool) → bytes_eq k p.0 ≡ b
          → without k (insert_entry bytes_eq ps q v) ≡ insert_entry bytes_eq (without k ps) q v
          → without k (insert_entry bytes_eq (p ∷ ps) q v)
          ≡ insert_entry bytes_eq (without k (p ∷ ps)) q v
      by true s true t rest =
          let same : q ≡ p.0 = same_text q p.0 (sym s) in
          absurd (true≢false (sym t ∙ ap (bytes_eq k) (sym same) ∙ h))
      by true s false t rest = rw (s, t, s)
      by false s true t rest = rw (s, t, rest)
      by false s false t rest = rw (s, t, s, rest)

  -- one more raw pair
  pub settle-snoc : (ps : Pairs V) (q : List ℕ × V)
      → settle (ps ++ q ∷ []) ≡ insert_entry bytes_eq (settle ps) q.0 q.1
  settle-snoc [] q = refl
  settle-snoc (p ∷ ps) q = by (bytes_eq q.0 p.0) refl (ap (without p.0) (settle-snoc ps q))
    where
      flip : bytes_eq p.0 q.0 ≡ bytes_eq q.0 p.0
      flip = nat_list_eq_equiv.symm p.0 q.0

      by : (b : Bool) → bytes_eq q.0 p.0 ≡ b
          → without p.0 (settle (ps ++ q ∷ []))
          ≡ without p.0 (insert_entry bytes_eq (settle ps) q.0 q.1)
          → settle ((p ∷ ps) ++ q ∷ []) ≡ insert_entry bytes_eq (settle (p ∷ ps)) q.0 q.1
      by true t tail =
          let same : q.0 ≡ p.0 = same_text q.0 p.0 (sym t) in
          let rest : without p.0 (insert_entry bytes_eq (settle ps) q.0 q.1)
          ≡ without p.0 (settle ps) =
          subst
          (λ k. without k (insert_entry bytes_eq (settle ps) q.0 q.1) ≡ without k (settle ps))
          same (without-insert_same q.0 q.1 (settle ps)) in
          rw (latest-append p.0 p.1 ps q, flip, t, tail, rest)
      by false t tail =
          let other = without-insert_other p.0 q.0 q.1 (settle ps) (flip ∙ t) in
          rw (latest-append p.0 p.1 ps q, flip, t, tail, other)

  IsAbsent-without : (k : List ℕ) (ps : Pairs V) → IsAbsent k (without k ps)
  IsAbsent-without k [] = tt
  IsAbsent-without k (p ∷ ps) = by (bytes_eq k p.0) refl (IsAbsent-without k ps)
    where
      by : (b : Bool) → bytes_eq k p.0 ≡ b → IsAbsent k (without k ps)
          → IsAbsent k (without k (p ∷ ps))
      by true t rest = rw t rest
      by false t rest = rw t (t, rest)

  IsAbsent-still : (k q : List ℕ) (ps : Pairs V) → IsAbsent q ps → IsAbsent q (without k ps)
  IsAbsent-still k q [] h = tt
  IsAbsent-still k q (p ∷ ps) h = by (bytes_eq k p.0) refl (IsAbsent-still k q ps h.1)
    where
      by : (b : Bool) → bytes_eq k p.0 ≡ b → IsAbsent q (without k ps)
          → IsAbsent q (without k (p ∷ ps))
      by true t rest = rw t rest
      by false t rest = rw t (h.0, rest)

  pub distinct-without : (k : List ℕ) (ps : Pairs V) → HasDistinctKeys ps
      → HasDistinctKeys (without k ps)
  unfolding IsDistinct
  distinct-without k [] d = tt
  distinct-without k (p ∷ ps) d = by (bytes_eq k p.0) refl (distinct-without k ps d.1)
    where
      by : (b : Bool) → bytes_eq k p.0 ≡ b → HasDistinctKeys (without k ps)
          → HasDistinctKeys (without k (p ∷ ps))
      by true t rest = rw t rest
      by false t rest = rw t (IsAbsent-still k p.0 ps d.0, rest)

  pub distinct-settle : (ps : Pairs V) → HasDistinctKeys (settle ps)
  unfolding IsDistinct
  distinct-settle [] = tt
  distinct-settle (p ∷ ps) =
      (IsAbsent-without p.0 (settle ps), distinct-without p.0 (settle ps) (distinct-settle ps))

  -- a list with distinct keys is settled
  pub settle-distinct : (ps : Pairs V) → HasDistinctKeys ps → settle ps ≡ ps
  unfolding IsDistinct
  settle-distinct [] d = refl
  settle-distinct (p ∷ ps) d =
      (λ i. (p.0, latest-absent p.0 p.1 ps d.0 i) ∷ without p.0 (settle-distinct ps d.1 i))
      ∙ ap (λ rest. p ∷ rest) (without-absent p.0 ps d.0)

  -- pairs that are settled before the without come
  pub settle-append : (ps qs : Pairs V) → settle (ps ++ qs) ≡ insert_all bytes_eq (settle ps) qs
  settle-append ps [] = ap settle (append-nil ps)
  settle-append ps (q ∷ qs) =
      ap settle (sym (append_assoc ps (q ∷ []) qs)) ∙ settle-append (ps ++ q ∷ []) qs
      ∙ ap (λ es. insert_all bytes_eq es qs) (settle-snoc ps q)

  pub settle_settle : (ps qs : Pairs V) → settle (settle ps ++ qs) ≡ settle (ps ++ qs)
  settle_settle ps qs =
      settle-append (settle ps) qs
      ∙ ap (λ es. insert_all bytes_eq es qs) (settle-distinct (settle ps) (distinct-settle ps))
      ∙ sym (settle-append ps qs)

  latest_step : (k : List ℕ) (v : V) (p : List ℕ × V) (ps : Pairs V) → latest k v (without k ps) ≡ v
      → latest k v (without k (p ∷ ps)) ≡ v
  latest_step k v p ps h = grind arith

  pub latest_without : (k : List ℕ) (v : V) (ps : Pairs V) → latest k v (without k ps) ≡ v
  latest_without k v [] = refl
  latest_without k v (p ∷ ps) = latest_step k v p ps (latest_without k v ps)

  -- another key's pairs don't count
  other_step : (k l : List ℕ) (v : V) (p : List ℕ × V) (ps b : Pairs V) → bytes_eq k l ≡ false
      → ((w : V) → latest l w (without k ps ++ b) ≡ latest l w (ps ++ b))
      → latest l v (without k (p ∷ ps) ++ b) ≡ latest l v ((p ∷ ps) ++ b)
  other_step k l v p ps b n h = go (bytes_eq k p.0) refl
    where
      go : (x : Bool) → bytes_eq k p.0 ≡ x
          → latest l v (without k (p ∷ ps) ++ b) ≡ latest l v ((p ∷ ps) ++ b)
      go true e =
          rw e
          (h v ∙ ap (λ y. latest l (if y then p.1 else v) (ps ++ b)) (sym (keys_apart k l p.0 n e)))
      go false e = rw e (h (if bytes_eq l p.0 then p.1 else v))

  pub latest_other : (k l : List ℕ) (v : V) (ps b : Pairs V) → bytes_eq k l ≡ false
      → latest l v (without k ps ++ b) ≡ latest l v (ps ++ b)
  latest_other k l v [] b n = refl
  latest_other k l v (p ∷ ps) b n = other_step k l v p ps b n (λ w. latest_other k l w ps b n)

  pub settled : (a : Pairs V) → settle (settle a) ≡ settle a
  settled a = settle-distinct (settle a) (distinct-settle a)

  pub put_settled : (ps : Pairs V) (k : List ℕ) (v : V) → settle (put ps k v) ≡ put ps k v
  put_settled ps k v = settled (ps ++ (k, v) ∷ [])

  pub put_more : (ps : Pairs V) (k : List ℕ) (v : V) (raw : Pairs V)
      → settle (put ps k v ++ raw) ≡ settle (ps ++ (k, v) ∷ raw)
  put_more ps k v raw =
      settle_settle (ps ++ (k, v) ∷ []) raw ∙ ap settle (append_assoc ps ((k, v) ∷ []) raw)
