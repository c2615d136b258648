-- Ordered maps: overwriting in place or appending is what `settle` makes of one more pair.
use Rattle.std.proofs.Common.{◌≡◌, ℕ, Bool, true, false, ◌&&◌, ◌==◌, List, [], ◌∷◌, ◌++◌, refl, sym}
use Rattle.std.proofs.Common.{ap, ◌∙◌}
use Rattle.std.specs.Cmp.Lexicographic.{nat_list_eq_equiv}
use Rattle.std.specs.Str.{bytes_eq}
use Rattle.indexmap.specs.IndexMap.{insert_entry}
use Rattle.sf_value.specs.Grammar.Pairs.{Pairs, settle}
use Rattle.sf_value.proofs.Settling.{settle-snoc}
use Rattle.sf_rfc.specs.Rfc9651.Words.{same, contains, overwrite, set_key}

same_is : (a b : List ℕ) → same a b ≡ bytes_eq a b
same_is [] [] = refl
same_is [] (b ∷ t) = refl
same_is (a ∷ s) [] = refl
same_is (a ∷ s) (b ∷ t) = ap (λ y. a == b && y) (same_is s t)

pub flipped : (a k : List ℕ) → same a k ≡ bytes_eq k a
flipped a k = same_is a k ∙ nat_list_eq_equiv.symm a k

there_is : {V : Type 0} (ps : Pairs V) (k : List ℕ) (v : V) → contains ps k ≡ true
    → overwrite ps k v ≡ insert_entry bytes_eq ps k v
there_is [] k v h = absurd cc
there_is {V = V} (p ∷ ps) k v h = by (same p.0 k) refl (there_is ps k v)
  where
    by : (a : Bool) → same p.0 k ≡ a
        → (contains ps k ≡ true → overwrite ps k v ≡ insert_entry bytes_eq ps k v)
        → overwrite (p ∷ ps) k v ≡ insert_entry bytes_eq (p ∷ ps) k v
    by true i ih = rw (i, sym (flipped p.0 k) ∙ i, overwrite, insert_entry) refl
    by false i ih =
        let c : contains ps k ≡ true = rw (i, contains) at h in
        rw (i, sym (flipped p.0 k) ∙ i, overwrite, insert_entry) (ap (λ y. p ∷ y) (ih c))

new_is : {V : Type 0} (ps : Pairs V) (k : List ℕ) (v : V) → contains ps k ≡ false
    → ps ++ (k, v) ∷ [] ≡ insert_entry bytes_eq ps k v
new_is [] k v h = refl
new_is {V = V} (p ∷ ps) k v h = by (same p.0 k) refl (new_is ps k v)
  where
    by : (a : Bool) → same p.0 k ≡ a
        → (contains ps k ≡ false → ps ++ (k, v) ∷ [] ≡ insert_entry bytes_eq ps k v)
        → p ∷ (ps ++ (k, v) ∷ []) ≡ insert_entry bytes_eq (p ∷ ps) k v
    by true i ih = let c : true ≡ false = rw (i, contains) at h in absurd cc
    by false i ih =
        let c : contains ps k ≡ false = rw (i, contains) at h in
        rw (sym (flipped p.0 k) ∙ i, insert_entry) (ap (λ y. p ∷ y) (ih c))

set_is : {V : Type 0} (ps : Pairs V) (k : List ℕ) (v : V)
    → set_key ps k v ≡ insert_entry bytes_eq ps k v
set_is ps k v = by (contains ps k) refl
  where
    by : (c : Bool) → contains ps k ≡ c → set_key ps k v ≡ insert_entry bytes_eq ps k v
    by true i = rw (i, set_key) (there_is ps k v i)
    by false i = rw (i, set_key) (new_is ps k v i)

-- one more pair in the map that the pairs so far leave
pub set_settled : {V : Type 0} (raw : Pairs V) (k : List ℕ) (v : V)
    → set_key (settle raw) k v ≡ settle (raw ++ (k, v) ∷ [])
set_settled raw k v = set_is (settle raw) k v ∙ sym (settle-snoc raw (k, v))
