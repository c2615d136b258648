-- The choice is the first target with an offer.
use Rattle.std.proofs.Common.{◌≡◌, ℕ, zero, suc, ◌+◌, List, [], ◌∷◌, take, Some, None}
use Rattle.std.proofs.Common.{inl, inr, sym, ap, subst, refl, arith}
use Rattle.std.specs.Prelude.{All, slice_get}
use Rattle.std.proofs.lemmas.List.Elements.{All-cons, All-nil}
use Rattle.sf_value.specs.declared.dialect.Dialect.{Dialect}
use Rattle.sf_field.specs.Headers.{Headers}
use Rattle.sf_use.specs.TargetedChoice.{IsOfferIn, IsChosenFromIn}
use Rattle.sf_use.specs.TargetedLaws.{IsFirstIn, ChosenIsFirstIn}
use Rattle.sf_use.specs.declared.targeted.Choice.{Choice}
use Rattle.sf_use.specs.declared.targeted.Choice.TheVariants as choice

module _ (dialect : Dialect) where
  -- the name offers nothing
  abbrev Silent : Headers → List ℕ → Type 0
  Silent h n = IsOfferIn dialect h n None

  -- the first of these targets, of which the first has the index i, with an offer
  abbrev FirstFrom : ℕ → List (List ℕ) → Headers → Choice → Type 0
  FirstFrom i names h (choice.Field index p) =
      (k : ℕ)
      × (name : List ℕ)
      × (index ≡ i + k)
      × (slice_get names k ≡ Some name)
      × IsOfferIn dialect h name (Some p)
      × All (Silent h) (take k names)
  FirstFrom i names h choice.Fallback = All (Silent h) names

  silent_head : (h : Headers) (n : List ℕ) (ns : List (List ℕ)) → All (Silent h) (n ∷ ns)
      → Silent h n
  silent_head h n ns a = a 0 n (omega arith)

  silent_tail : (h : Headers) (n : List ℕ) (ns : List (List ℕ)) → All (Silent h) (n ∷ ns)
      → All (Silent h) ns
  silent_tail h n ns a = λ k d lt. a (suc k) d (omega arith)

  first_after : (i : ℕ) (n : List ℕ) (ns : List (List ℕ)) (h : Headers) (c : Choice)
      → Silent h n → FirstFrom (i + 1) ns h c → FirstFrom i (n ∷ ns) h c
  first_after i n ns h (choice.Field index p) s (k, name, e, at, o, before) =
      (suc k, name, omega (arith, e), at, o, All-cons (Silent h) n (take k ns) s before)
  first_after i n ns h choice.Fallback s a = All-cons (Silent h) n ns s a

  first_from : (i : ℕ) (names : List (List ℕ)) (h : Headers) (c : Choice)
      → IsChosenFromIn dialect i names h c → FirstFrom i names h c
  first_from i [] h c x = subst (FirstFrom i [] h) (sym x) (All-nil (Silent h))
  first_from i (n ∷ ns) h c (inl (p, o, e)) =
      subst (FirstFrom i (n ∷ ns) h) (sym e) (0, n, omega arith, refl, o, All-nil (Silent h))
  first_from i (n ∷ ns) h c (inr (s, x)) =
      first_after i n ns h c s (first_from (i + 1) ns h c x)

  chosen_from : (i : ℕ) (names : List (List ℕ)) (h : Headers) (c : Choice)
      → FirstFrom i names h c → IsChosenFromIn dialect i names h c
  chosen_from i [] h (choice.Field index p) (k, name, e, at, o, before) = absurd cc
  chosen_from i [] h choice.Fallback a = refl
  chosen_from i (n ∷ ns) h (choice.Field index p) (zero, name, e, at, o, before) =
      let same : index ≡ i = omega (arith, e) in
      let this : name ≡ n = cc in
      inl (p, subst (λ m. IsOfferIn dialect h m (Some p)) this o, ap (λ j. choice.Field j p) same)
  chosen_from i (n ∷ ns) h (choice.Field index p) (suc k, name, e, at, o, before) =
      inr (
        silent_head h n (take k ns) before,
        chosen_from (i + 1) ns h (choice.Field index p)
            (k, name, omega (arith, e), at, o, silent_tail h n (take k ns) before),
      )
  chosen_from i (n ∷ ns) h choice.Fallback a =
      inr (
        silent_head h n ns a,
        chosen_from (i + 1) ns h choice.Fallback (silent_tail h n ns a),
      )

  -- from the first index on
  from_nought : (names : List (List ℕ)) (h : Headers) (c : Choice) → FirstFrom 0 names h c
      → IsFirstIn dialect names h c
  from_nought names h (choice.Field index p) (k, name, e, at, o, before) =
      let same : k ≡ index = omega (arith, e) in (
        name,
        subst (λ j. slice_get names j ≡ Some name) same at,
        o,
        subst (λ j. All (Silent h) (take j names)) same before,
      )
  from_nought names h choice.Fallback a = a

  to_nought : (names : List (List ℕ)) (h : Headers) (c : Choice) → IsFirstIn dialect names h c
      → FirstFrom 0 names h c
  to_nought names h (choice.Field index p) (name, at, o, before) =
      (index, name, omega arith, at, o, before)
  to_nought names h choice.Fallback a = a

  pub chosen_is_first : ChosenIsFirstIn dialect
  chosen_is_first targets h c = (
    λ x. from_nought targets h c (first_from 0 targets h c x),
    λ x. chosen_from 0 targets h c (to_nought targets h c x),
  )
