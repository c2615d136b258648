-- Marks of keys.
use Rattle.std.proofs.Common.{◌≡◌, ◌≢◌, ℕ, ◌*◌, ◌/◌, ◌%◌, ◌^◌, ◌<◌, Bool, true, false}
use Rattle.std.proofs.Common.{List, [], ◌∷◌, ◌++◌, bit_and, bit_or, refl, sym, ap}
use Rattle.std.proofs.Common.{◌∙◌, subst, arith, ⊎_elim}
use Rattle.std.specs.Int.{bit_at, w64}
use Rattle.std.specs.List.{IsDistinct, AllByRecursion}
use Rattle.std.specs.Map.{keys_of}
use Rattle.std.specs.Str.{bytes_eq}
use Rattle.std.proofs.lemmas.Bool.{cases_eq}
use Rattle.std.proofs.lemmas.Nat.{and_mask, mod_below}
use Rattle.std.proofs.lemmas.Nat.Bits.{bit_at_set_same, bit_at_set_other, bit_at_ones}
use Rattle.sf_value.specs.Grammar.Pairs.{Pairs}
use Rattle.sf_value.proofs.Settling.{key_is}
use Rattle.sf_value.specs.Grammar.Words.{Each}
use Rattle.sf_view.specs.Marks.{mark_of, IsMarked}

-- one more key, if H holds of the others and not of this one
pub distinct_push : (H : List ℕ → Type 0) (ks : List (List ℕ)) (k : List ℕ)
    → IsDistinct bytes_eq ks → Each H ks → (H k → ⊥) → IsDistinct bytes_eq (ks ++ k ∷ [])
unfolding IsDistinct
distinct_push H [] k d h n = (tt, tt)
distinct_push H (q ∷ ks) k d h n = (snoc ks d.0, distinct_push H ks k d.1 h.1 n)
  where
    apart : (b : Bool) → bytes_eq q k ≡ b → bytes_eq q k ≡ false
    apart false e = e
    apart true e = absurd (n (subst H (key_is q k e) h.0))

    snoc : (ps : List (List ℕ)) → AllByRecursion (λ p. bytes_eq q p ≡ false) ps
        → AllByRecursion (λ p. bytes_eq q p ≡ false) (ps ++ k ∷ [])
    snoc [] a = (apart (bytes_eq q k) refl, tt)
    snoc (p ∷ ps) a = (a.0, snoc ps a.1)

pub each_push : (H J : List ℕ → Type 0) (ks : List (List ℕ)) (k : List ℕ)
    → ((q : List ℕ) → H q → J q) → Each H ks → J k → Each J (ks ++ k ∷ [])
each_push H J [] k f h n = (n, tt)
each_push H J (q ∷ ks) k f h n = (f q h.0, each_push H J ks k f h.1 n)

-- a set with one more bit
bit_kept : (bits t s : ℕ) → t < 64 → bit_at bits s ≡ 1
    → bit_at (bit_or bits (1 * 2 ^ t % 2 ^ 64)) s ≡ 1
bit_kept bits t s h e =
    ⊎_elim
    (λ k. subst (λ y. bit_at (bit_or bits (1 * 2 ^ t % 2 ^ 64)) y ≡ 1) (sym k)
    (bit_at_set_same w64 bits t h))
    (λ k. bit_at_set_other w64 bits t h s k ∙ e) (cases_eq s t)

-- the mark of one more key
marked_more : (bits t : ℕ) (ks : List (List ℕ)) (k : List ℕ) → t < 64 → t ≡ mark_of k % 64
    → bit_and (bits / 2 ^ t) 1 ≢ 1
    → (bits ≢ 0xffff_ffff_ffff_ffff → IsDistinct bytes_eq ks × Each (IsMarked bits) ks)
    → IsDistinct bytes_eq (ks ++ k ∷ [])
    × Each (IsMarked (bit_or bits (1 * 2 ^ t % 2 ^ 64))) (ks ++ k ∷ [])
marked_more bits t ks k h e n m =
    let new : bit_at bits t ≡ 1 → ⊥ = λ b. n (and_mask (bits / 2 ^ t) 1 ∙ b) in
    let some = m (λ b. new (ap (λ y. bit_at y t) b ∙ bit_at_ones 64 t h)) in (
      distinct_push (IsMarked bits) ks k some.0 some.1
          (λ b. new (subst (λ y. bit_at bits y ≡ 1) (sym e) b)),
      each_push (IsMarked bits) (IsMarked (bit_or bits (1 * 2 ^ t % 2 ^ 64))) ks k
          (λ q. bit_kept bits t (mark_of q % 64) h) some.1
          (subst (λ y. bit_at (bit_or bits (1 * 2 ^ t % 2 ^ 64)) y ≡ 1) e
          (bit_at_set_same w64 bits t h)),
    )

pub mark_added : (bits mark : ℕ) (ks : List (List ℕ)) (k : List ℕ) → mark ≡ mark_of k
    → bit_and (bits / 2 ^ (mark % 64)) 1 ≢ 1
    → (bits ≢ 0xffff_ffff_ffff_ffff → IsDistinct bytes_eq ks × Each (IsMarked bits) ks)
    → IsDistinct bytes_eq (ks ++ k ∷ [])
    × Each (IsMarked (bit_or bits (1 * 2 ^ (mark % 64) % 2 ^ 64))) (ks ++ k ∷ [])
mark_added bits mark ks k e n m =
    marked_more bits (mark % 64) ks k (mod_below mark 64 (omega arith)) (ap (λ y. y % 64) e) n m

-- the keys of one more pair
pub keys_push : {X : Type 0} (ps : Pairs X) (k : List ℕ) (x : X)
    → keys_of (ps ++ (k, x) ∷ []) ≡ keys_of ps ++ k ∷ []
keys_push [] k x = refl
keys_push (p ∷ ps) k x = ap (λ y. p.0 ∷ y) (keys_push ps k x)

pub no_keys : IsDistinct bytes_eq []
unfolding IsDistinct
no_keys = tt
