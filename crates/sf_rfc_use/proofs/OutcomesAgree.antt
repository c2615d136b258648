-- What a cache did, and which cache served the response.
use Rattle.std.proofs.Common.{◌≡◌, ℕ, pos, Bool, true, false, List as Seq, [], ◌∷◌, Option}
use Rattle.std.proofs.Common.{Some, None, refl, sym, ap, ap₂, ◌∙◌, subst}
use Rattle.std.specs.Prelude.{map, unwrap_or}
use Rattle.std.specs.Option.{option_map}
use Rattle.std.proofs.lemmas.List.Elements.{All-nil, All-cons}
use Rattle.sf_use.specs.declared.cache_status.hop.Passed.{Passed}
use Rattle.sf_use.specs.declared.cache_status.hop.Outcome.TheVariants.{Hit, Forwarded}
use Rattle.sf_use.specs.declared.cache_status.hop.Outcome.TheVariants.{Unsaid}
use Rattle.sf_use.specs.CacheStatus.Members.{is_hit}
use Rattle.sf_use.specs.CacheStatus.Served.{served}
use Rattle.sf_rfc.specs.Rfc9651.Words.{only_if}
use Rattle.sf_rfc.proofs.ParsingSteps.{some_is}
use Rattle.sf_rfc_use.specs.Rfc9211.{Parameter, Absent, Is, Mistyped, Handling, IsSatisfied}
use Rattle.sf_rfc_use.specs.Rfc9211.{WentForward, next_hop_status, was_collapsed}
use Rattle.sf_rfc_use.specs.Rfc9211.{was_stored}
use Rattle.sf_rfc_use.specs.CacheStatusLaws.{given, why_by, why_of, three_digits, as_status}
use Rattle.sf_rfc_use.specs.CacheStatusLaws.{as_passed, as_outcome, as_hop, OutcomesAgree}
use Rattle.sf_rfc_use.specs.CacheStatusLaws.{ReasonsAgree, PassedAgrees, IsAnswer, IsServedBy}
use Rattle.sf_rfc_use.specs.CacheStatusLaws.{ServedAgrees}

-- what goes with a token
abbrev passed_with : Handling → Seq ℕ → Passed
passed_with h token = record {
  why = why_of token;
  status = as_status (given h.fwd_status);
  stored = given h.stored;
  collapsed = given h.collapsed;
}

with_token : (h : Handling) (token : Seq ℕ) → h.fwd ≡ Is token
    → as_passed h ≡ Some (passed_with h token)
with_token h token e = ap (λ y. option_map (passed_with h) (given y)) e

without_token : (h : Handling) → (WentForward h → ⊥) → as_passed h ≡ None
without_token h none = go h.fwd refl
  where
    go : (p : Parameter (Seq ℕ)) → h.fwd ≡ p → as_passed h ≡ None
    go (Is token) e = absurd (none (token, e))
    go Absent e = ap (λ y. option_map (passed_with h) (given y)) e
    go Mistyped e = ap (λ y. option_map (passed_with h) (given y)) e

none_passed : (h : Handling) → as_passed h ≡ None → WentForward h → ⊥
none_passed h e (token, f) =
    let k : ◌≡◌ {A = Option Passed} (Some (passed_with h token)) None =
    sym (with_token h token f) ∙ e in
    absurd cc

-- outcomes
unsatisfied : (p : Parameter Bool) (x : Passed) → (p ≡ Is true → ⊥)
    → as_outcome p (Some x) ≡ Forwarded x
unsatisfied (Is true) x n = absurd (n refl)
unsatisfied (Is false) x n = refl
unsatisfied Absent x n = refl
unsatisfied Mistyped x n = refl

unsaid : (p : Parameter Bool) → (p ≡ Is true → ⊥) → as_outcome p None ≡ Unsaid
unsaid (Is true) n = absurd (n refl)
unsaid (Is false) n = refl
unsaid Absent n = refl
unsaid Mistyped n = refl

a_hit : (h : Handling) → IsSatisfied h → (WentForward h → ⊥) → (as_hop h).outcome ≡ Hit
a_hit h s n = ap₂ as_outcome s (without_token h n)

pub outcomes_agree : OutcomesAgree
outcomes_agree h = (
  a_hit h,
  (λ n w. (
    passed_with h w.0,
    ap (as_outcome h.hit) (with_token h w.0 w.1) ∙ unsatisfied h.hit (passed_with h w.0) n,
  )),
  (λ s w. (passed_with h w.0, ap₂ as_outcome s (with_token h w.0 w.1))),
  (λ n m. ap (as_outcome h.hit) (without_token h m) ∙ unsaid h.hit n),
)

pub reasons_agree : ReasonsAgree
reasons_agree h token e = (
  passed_with h token,
  with_token h token e,
  (λ r i. ap (why_by token) i),
  (λ i. ap (why_by token) i),
)

-- the other parameters
stored_is : (why : Seq ℕ) (p : Parameter Bool) → was_stored (Is why) p ≡ given p
stored_is why (Is b) = refl
stored_is why Absent = refl
stored_is why Mistyped = refl

collapsed_is : (why : Seq ℕ) (p : Parameter Bool) → (p ≡ Mistyped → ⊥)
    → was_collapsed (Is why) p ≡ Some (unwrap_or (given p) false)
collapsed_is why (Is b) n = refl
collapsed_is why Absent n = refl
collapsed_is why Mistyped n = absurd (n refl)

a_status : (n : ℕ) → three_digits n ≡ true → as_status (Some (pos n)) ≡ Some n
a_status n e = ap (λ x. only_if x n) e

nothing_passed : {P : Type 0} (h : Handling) (passed : Passed) → given h.fwd ≡ None
    → as_passed h ≡ Some passed → P
nothing_passed h passed n e =
    let k : ◌≡◌ {A = Option Passed} None (Some passed) =
    sym (ap (λ y. option_map (passed_with h) y) n) ∙ e in
    absurd cc

went_forward : (h : Handling) (passed : Passed) → as_passed h ≡ Some passed
    → (token : Seq ℕ) × (h.fwd ≡ Is token) × (passed_with h token ≡ passed)
went_forward h passed e = go h.fwd refl
  where
    go : (p : Parameter (Seq ℕ)) → h.fwd ≡ p
        → (token : Seq ℕ) × (h.fwd ≡ Is token) × (passed_with h token ≡ passed)
    go (Is token) f = (token, f, some_is (passed_with h token) passed (sym (with_token h token f) ∙ e))
    go Absent f = nothing_passed h passed (ap (λ y. given y) f) e
    go Mistyped f = nothing_passed h passed (ap (λ y. given y) f) e

pub passed_agrees : PassedAgrees
passed_agrees h sent = (
  (λ passed e.
      let (token, f, r) = went_forward h passed e in (
        (λ a.
            let st : passed.status ≡ None =
            ap (λ x. x.status) (sym r) ∙ ap (λ y. as_status (given y)) a in
            ap₂ (next_hop_status sent) f a
            ∙ ap (λ s. Some (unwrap_or (option_map pos s) sent)) (sym st)),
        (λ n d a.
            let st : passed.status ≡ Some n =
            ap (λ x. x.status) (sym r) ∙ ap (λ y. as_status (given y)) a ∙ a_status n d in
            ap₂ (next_hop_status sent) f a ∙ ap (λ s. option_map pos s) (sym st)),
        ap (λ y. was_stored y h.stored) f ∙ stored_is token h.stored ∙ ap (λ x. x.stored) r,
        (λ n. ap (λ y. was_collapsed y h.collapsed) f ∙ collapsed_is token h.collapsed n
            ∙ ap (λ x. Some (unwrap_or x.collapsed false)) r),
      )),
  ((λ e. none_passed h e), (λ n. without_token h n)),
)

-- which cache served the response
hit_parts : (p : Parameter Bool) (o : Option Passed) → is_hit (as_outcome p o) ≡ true
    → (p ≡ Is true) × (o ≡ None)
hit_parts (Is true) None e = (refl, refl)
hit_parts (Is true) (Some x) e = absurd cc
hit_parts (Is false) None e = absurd cc
hit_parts (Is false) (Some x) e = absurd cc
hit_parts Absent None e = absurd cc
hit_parts Absent (Some x) e = absurd cc
hit_parts Mistyped None e = absurd cc
hit_parts Mistyped (Some x) e = absurd cc

is_answer : (h : Handling) → is_hit (as_hop h).outcome ≡ true → IsAnswer h
is_answer h e =
    let k = hit_parts h.hit (as_passed h) e in (k.0, none_passed h k.1)

no_answer : (h : Handling) → is_hit (as_hop h).outcome ≡ false → IsAnswer h → ⊥
no_answer h e a =
    let k : true ≡ false = sym (ap is_hit (a_hit h a.0 a.1)) ∙ e in absurd cc

pub served_agrees : ServedAgrees
served_agrees [] = All-nil (λ h. IsAnswer h → ⊥)
served_agrees (h ∷ hs) =
    by (served (map as_hop hs)) refl (is_hit (as_hop h).outcome) refl (served_agrees hs)
  where
    by : (place : Option ℕ) → served (map as_hop hs) ≡ place → (b : Bool)
        → is_hit (as_hop h).outcome ≡ b → IsServedBy hs (served (map as_hop hs))
        → IsServedBy (h ∷ hs) (served (map as_hop (h ∷ hs)))
    by (Some i) e b f rest = rw e (rw e at rest)
    by None e true f rest =
        let others : IsServedBy hs None = subst (IsServedBy hs) e rest in
        rw (e, f) (h, refl, is_answer h f, others)
    by None e false f rest =
        let others : IsServedBy hs None = subst (IsServedBy hs) e rest in
        rw (e, f) (All-cons (λ g. IsAnswer g → ⊥) h hs (no_answer h f) others)
