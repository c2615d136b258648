-- The runs of a set are the set.
use Rattle.std.proofs.Common.{◌≡◌, ℕ, zero, suc, ◌+◌, ◌<◌, ◌≤◌, ◌⊎◌, inl, inr, true, false}
use Rattle.std.proofs.Common.{List, [], ◌∷◌, arith, rules, subst, sym, ap, ◌∙◌}
use Rattle.std.specs.Prelude.{◌==◌, ◌↔◌}
use Rattle.std.proofs.lemmas.Bool.{cases_Bool, false≢true}
use Rattle.sf_parse.specs.ByteSets.{is_in, runs_with, runs_from}
use Rattle.sf_parse.specs.ByteSets.{IsWithin, Ascends, RunsAreTheSet, RunsAreWhole}
use Rattle.sf_parse.proofs.RunSteps.{runs-none, runs-out, runs-in}

Ascends-less : (a b : ℕ) (rs : List (ℕ × ℕ)) → a ≤ b → Ascends b rs → Ascends a rs
Ascends-less a b [] h p = tt
Ascends-less a b (r ∷ rs) h p = (omega arith, p.1, p.2)

-- a byte joins the first run, or is before it with a gap
Ascends-runs_with : (b : ℕ) (rs : List (ℕ × ℕ)) → Ascends (suc b) rs → Ascends b (runs_with b rs)
Ascends-runs_with b [] p = (omega arith, omega arith, tt)
Ascends-runs_with b (r ∷ rs) p =
    elim (cases_Bool (r.0 == suc b)) [
      | inl t ↦ (
          let e : r.0 ≡ suc b = search (rules, t) in
          let long = p.1 in
          rw t (omega arith, omega arith, p.2)
          )
      | inr f ↦ (
          let above = p.0 in
          let apart : b + 2 ≤ r.0 = search (rules, f) in
          rw f (omega arith, omega arith, (apart, p.1, p.2))
          )
    ]

pub runs_ascend : (set b n : ℕ) → Ascends b (runs_from set b n)
runs_ascend set b zero = rw (runs-none set b) tt
runs_ascend set b (suc n) =
    elim (cases_Bool (is_in set b)) [
      | inl t ↦ rw (runs-in set b n t)
          (Ascends-runs_with b (runs_from set (suc b) n) (runs_ascend set (suc b) n))
      | inr f ↦ rw (runs-out set b n f)
          (Ascends-less b (suc b) _ (omega arith) (runs_ascend set (suc b) n))
    ]

pub runs_are_whole : RunsAreWhole
runs_are_whole set = runs_ascend set 0 128

-- within the runs with a byte in front lie that byte and what lies within the runs
prefix_within : (b k : ℕ) (rs : List (ℕ × ℕ)) → Ascends (suc b) rs
    → IsWithin k (runs_with b rs) ↔ ((k ≡ b) ⊎ IsWithin k rs)
prefix_within b k [] p = (
  λ h. elim h [ inl w ↦ inl (omega (arith, w.0, w.1)) | inr w ↦ absurd w ],
  λ h. elim h [ inl e ↦ inl (omega (arith, e), omega (arith, e)) | inr w ↦ absurd w ],
)
prefix_within b k (r ∷ rs) p =
    let long = p.1 in
    elim (cases_Bool (r.0 == suc b)) [
      | inl t ↦ (
          let e : r.0 ≡ suc b = search (rules, t) in
          rw t (
            λ h. elim h [
              | inl w ↦ elim (at_or_above b k w.0) [
                | inl same ↦ inl same
                | inr more ↦ inr (inl (omega (arith, more, e), w.1))
              ]
              | inr w ↦ inr (inr w)
            ],
            λ h. elim h [
              | inl same ↦ inl (omega (arith, same), omega (arith, same, e, long))
              | inr w ↦ elim w [
                | inl x ↦ inl (omega (arith, x.0, e), x.1)
                | inr x ↦ inr x
              ]
            ],
          )
          )
      | inr f ↦ rw f (
        λ h. elim h [ inl w ↦ inl (omega (arith, w.0, w.1)) | inr w ↦ inr w ],
        λ h. elim h [ inl e ↦ inl (omega (arith, e), omega (arith, e)) | inr w ↦ inr w ],
      )
    ]
  where
    at_or_above : (b k : ℕ) → b ≤ k → (k ≡ b) ⊎ (suc b ≤ k)
    at_or_above b k h =
        elim (cases_Bool (k == b)) [
          | inl t ↦ inl (search (rules, t))
          | inr f ↦ inr (search (rules, f, h))
        ]

-- of n bytes from b on, those in the set are those within the runs
pub runs_within : (set b n k : ℕ)
    → ((b ≤ k) × (k < b + n) × (is_in set k ≡ true)) ↔ IsWithin k (runs_from set b n)
runs_within set b zero k =
    rw (runs-none set b) (λ h. absurd (omega (arith, h.0, h.1)), λ h. absurd h)
runs_within set b (suc n) k =
    let later = runs_within set (suc b) n k in
    elim (cases_Bool (is_in set b)) [
      | inl t ↦
          let prefix = prefix_within b k (runs_from set (suc b) n) (runs_ascend set (suc b) n) in
          rw (runs-in set b n t) (
            λ h. prefix.1 (elim (cases_Bool (k == b)) [
              | inl same ↦ inl (search (rules, same))
              | inr other ↦
                  let low = h.0 in
                  let above : suc b ≤ k = search (rules, other, low) in
                  inr (later.0 (above, omega (arith, h.1), h.2))
            ]),
            λ h. elim (prefix.0 h) [
              | inl e ↦
                  let P : ℕ → Type 0 = λ x. is_in set x ≡ true in
                  (omega (arith, e), omega (arith, e), subst P (sym e) t)
              | inr w ↦
                  let suffix = later.1 w in
                  (omega (arith, suffix.0), omega (arith, suffix.1), suffix.2)
            ],
          )
      | inr f ↦
          rw (runs-out set b n f) (
            λ h. elim (cases_Bool (k == b)) [
              | inl same ↦
                  let e : k ≡ b = search (rules, same) in
                  let bad : false ≡ true = sym f ∙ ap (is_in set) (sym e) ∙ h.2 in
                  absurd (false≢true bad)
              | inr other ↦
                  let low = h.0 in
                  let above : suc b ≤ k = search (rules, other, low) in
                  later.0 (above, omega (arith, h.1), h.2)
            ],
            λ w.
                let suffix = later.1 w in
                (omega (arith, suffix.0), omega (arith, suffix.1), suffix.2),
          )
    ]

pub runs_are_the_set : RunsAreTheSet
runs_are_the_set set b =
    let both = runs_within set 0 128 b in (
      λ h. both.0 (omega arith, h.0, h.1),
      λ w. let suffix = both.1 w in (suffix.1, suffix.2),
    )
