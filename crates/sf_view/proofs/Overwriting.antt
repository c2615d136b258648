-- The last value of a key is its value once the pairs are settled.
use Rattle.std.proofs.Common.{◌≡◌, ℕ, Bool, true, false, not, List, [], ◌∷◌, Option, Some, None}
use Rattle.std.proofs.Common.{refl, sym, ap, ◌∙◌}
use Rattle.std.specs.Cmp.Lexicographic.{nat_list_eq_equiv}
use Rattle.std.specs.Str.{bytes_eq}
use Rattle.std.proofs.lemmas.Map.Entries.{lookup-filter-keys}
use Rattle.sf_value.specs.Grammar.Pairs.{Pairs, settle, latest, without, value_at}
use Rattle.sf_value.proofs.Settling.{key_is, keys_apart}
use Rattle.sf_view.specs.Overwriting.{overwritten, overwritten_by}

module _ {V : Type 0} where
  -- the value of the last pair of a key
  abbrev pub last_value : List ℕ → Option V → Pairs V → Option V
  last_value k o ps = overwritten_by (λ x. x) k o ps

  last_is_latest : (k : List ℕ) (v : V) (ps : Pairs V) → last_value k (Some v) ps ≡ Some (latest k v ps)
  last_is_latest k v [] = refl
  last_is_latest k v (p ∷ ps) = by (bytes_eq k p.0) refl (λ w. last_is_latest k w ps)
    where
      by : (b : Bool) → bytes_eq k p.0 ≡ b
          → ((w : V) → last_value k (Some w) ps ≡ Some (latest k w ps))
          → last_value k (Some v) (p ∷ ps) ≡ Some (latest k v (p ∷ ps))
      by true e h = rw e (h p.1)
      by false e h = rw e (h v)

  other_keys : (k q : List ℕ) (ps : Pairs V) → bytes_eq k q ≡ false
      → value_at k (without q ps) ≡ value_at k ps
  other_keys k q ps n =
      lookup-filter-keys (bytes_eq k) (λ l. not (bytes_eq q l)) true
      (λ l e. ap not (keys_apart k q l n e)) ps

  pub value_is_last : (k : List ℕ) (ps : Pairs V) → value_at k (settle ps) ≡ last_value k None ps
  value_is_last k [] = refl
  value_is_last k (p ∷ ps) = by (bytes_eq k p.0) refl (value_is_last k ps)
    where
      by : (b : Bool) → bytes_eq k p.0 ≡ b → value_at k (settle ps) ≡ last_value k None ps
          → value_at k (settle (p ∷ ps)) ≡ last_value k None (p ∷ ps)
      by true e h =
          rw e
          (ap (λ y. Some (latest y p.1 ps)) (sym (key_is k p.0 e))
          ∙ sym (last_is_latest k p.1 ps))
      by false e h = rw e (other_keys k p.0 (settle ps) e ∙ h)

  module _ {Y : Type 0} (f : Option V → Y) where
    last_of : (k : List ℕ) (o : Option V) (ps : Pairs V)
        → overwritten_by f k (f o) ps ≡ f (last_value k o ps)
    last_of k o [] = refl
    last_of k o (p ∷ ps) =
        by (bytes_eq k p.0) refl (λ q. last_of k q ps)
      where
        by : (b : Bool) → bytes_eq k p.0 ≡ b
            → ((q : Option V) → overwritten_by f k (f q) ps ≡ f (last_value k q ps))
            → overwritten_by f k (f o) (p ∷ ps) ≡ f (last_value k o (p ∷ ps))
        by true e h = rw e (h (Some p.1))
        by false e h = rw e (h o)

    -- what the pairs make of nothing is what the value of the key is, if there is one
    pub overwritten-settle : (k : List ℕ) (ps : Pairs V)
        → overwritten_by f k (f None) ps ≡ f (value_at k (settle ps))
    overwritten-settle k ps = last_of k None ps ∙ ap f (sym (value_is_last k ps))

-- a pair of another key changes nothing
pub overwritten_other : {V Y : Type 0} (f : Option V → Y) (k q : List ℕ) (y : Y) (v : V)
    → bytes_eq q k ≡ false → overwritten f k y (q, v) ≡ y
overwritten_other f k q y v e = rw (nat_list_eq_equiv.symm k q ∙ e) refl
