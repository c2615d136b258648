-- Settling keeps at most one pair for each key, so pairs weigh no more when they are settled.
use Rattle.std.proofs.Common.{◌≡◌, ℕ, ◌+◌, ◌≤◌, Bool, true, false, if◌then◌else◌, List, [], ◌∷◌}
use Rattle.std.proofs.Common.{refl, sym, ap, ◌∙◌, append-nil, arith}
use Rattle.std.specs.Str.{bytes_eq}
use Rattle.sf_value.specs.Grammar.Pairs.{Pairs, latest, without, settle}
use Rattle.sf_value.proofs.Settling.{key_is, keys_apart, same_key, latest_without, latest_other}

-- the weights of pairs together
module _ {V : Type 0} (weight : List ℕ × V → ℕ) where
  abbrev pub total : Pairs V → ℕ
  total [] = 0
  total (p ∷ ps) = weight p + total ps

  latest_total : (k : List ℕ) (v : V) (ps : Pairs V)
      → weight (k, latest k v ps) + total (without k ps) ≤ weight (k, v) + total ps
  latest_total k v [] = omega arith
  latest_total k v (p ∷ ps) = go (bytes_eq k p.0) refl (λ w. latest_total k w ps)
    where
      go : (b : Bool) → bytes_eq k p.0 ≡ b
          → ((w : V) → weight (k, latest k w ps) + total (without k ps) ≤ weight (k, w) + total ps)
          → weight (k, latest k v (p ∷ ps)) + total (without k (p ∷ ps)) ≤ weight (
            k,
            v,
          ) + total (p ∷ ps)
      go true e h =
          let i = h p.1 in
          let j : weight (k, p.1) ≡ weight p = ap (λ y. weight (y, p.1)) (key_is k p.0 e) in
          rw e (omega arith)
      go false e h = let i = h v in rw e (omega arith)

latest_true : {V : Type 0} (k : List ℕ) (v : V) (p : List ℕ × V) (ps : Pairs V)
    → bytes_eq k p.0 ≡ true → latest k v (p ∷ ps) ≡ latest k p.1 ps
latest_true k v p ps e = ap (λ b. latest k (if b then p.1 else v) ps) e

latest_false : {V : Type 0} (k : List ℕ) (v : V) (p : List ℕ × V) (ps : Pairs V)
    → bytes_eq k p.0 ≡ false → latest k v (p ∷ ps) ≡ latest k v ps
latest_false k v p ps e = ap (λ b. latest k (if b then p.1 else v) ps) e

latest_settle : {V : Type 0} (k : List ℕ) (v : V) (ps : Pairs V)
    → latest k v (settle ps) ≡ latest k v ps
latest_settle k v [] = refl
latest_settle {V = V} k v (p ∷ ps) = go (bytes_eq k p.0) refl (latest_settle k v ps)
  where
    first : List ℕ × V
    first = (p.0, latest p.0 p.1 ps)

    go : (b : Bool) → bytes_eq k p.0 ≡ b → latest k v (settle ps) ≡ latest k v ps
        → latest k v (settle (p ∷ ps)) ≡ latest k v (p ∷ ps)
    go true e h =
        latest_true k v first (without p.0 (settle ps)) e
        ∙ ap (λ y. latest k (latest y p.1 ps) (without y (settle ps))) (sym (key_is k p.0 e))
        ∙ latest_without k (latest k p.1 ps) (settle ps)
        ∙ sym (latest_true k v p ps e)
    go false e h =
        latest_false k v first (without p.0 (settle ps)) e
        ∙ ap (λ y. latest k v y) (sym (append-nil (without p.0 (settle ps))))
        ∙ latest_other p.0 k v (settle ps) [] (keys_apart k p.0 k e (same_key k))
        ∙ ap (latest k v) (append-nil (settle ps)) ∙ h
        ∙ sym (latest_false k v p ps e)

pub settle_total : {V : Type 0} (weight : List ℕ × V → ℕ) (ps : Pairs V)
    → total weight (settle ps) ≤ total weight ps
settle_total weight [] = omega arith
settle_total weight (p ∷ ps) =
    let h = settle_total weight ps in
    let l = latest_total weight p.0 p.1 (settle ps) in
    let e : weight (p.0, latest p.0 p.1 (settle ps)) ≡ weight (
      p.0,
      latest p.0 p.1 ps,
    ) = ap (λ y. weight (p.0, y)) (latest_settle p.0 p.1 ps) in
    omega arith
