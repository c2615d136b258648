-- What a test or a step was, of an algorithm that did not fail.
use Rattle.std.proofs.Common.{◌≡◌, Bool, true, false, Option, Some, None, refl}
use Rattle.std.proofs.Common.{ap, ◌⊎◌, inl, inr}
use Rattle.sf_rfc.specs.Rfc9651.Words.{and_then, only_if}

pub never : {A P : Type 0} (a : A) → ◌≡◌ {A = Option A} None (Some a) → P
never a e = absurd cc

pub some_is : {A : Type 0} (a b : A) → ◌≡◌ {A = Option A} (Some a) (Some b) → a ≡ b
some_is a b e = cc

pub some_pair : {A B : Type 0} (a c : A) (b d : B)
    → ◌≡◌ {A = Option (A × B)} (Some (a, b)) (Some (c, d)) → (a ≡ c) × (b ≡ d)
some_pair {A = A} {B = B} a c b d e =
    let p : ◌≡◌ {A = A × B} (a, b) (c, d) = cc in
    (ap (λ (x : A × B). x.0) p, ap (λ (x : A × B). x.1) p)

pub and_then_cases : {A B : Type 0} (o : Option A) (f : A → Option B) (b : B)
    → and_then o f ≡ Some b → (a : A) × (o ≡ Some a) × (f a ≡ Some b)
and_then_cases None f b e = never b e
and_then_cases (Some a) f b e = (a, refl, e)

pub only_if_cases : {A : Type 0} (x : Bool) (a b : A) → only_if x a ≡ Some b
    → (x ≡ true) × (a ≡ b)
only_if_cases true a b e = (refl, some_is a b e)
only_if_cases false a b e = never b e

-- a test that failed
pub if_so : {A : Type 0} (x : Bool) (o : Option A) (b : A)
    → (elim x as (λ y. Option A) [ false ↦ None | true ↦ o ]) ≡ Some b → (x ≡ true) × (o ≡ Some b)
if_so true o b e = (refl, e)
if_so false o b e = never b e

pub if_not : {A : Type 0} (x : Bool) (o : Option A) (b : A)
    → (elim x as (λ y. Option A) [ true ↦ None | false ↦ o ]) ≡ Some b
    → (x ≡ false) × (o ≡ Some b)
if_not true o b e = never b e
if_not false o b e = (refl, e)

pub if_either : {A : Type 0} (x : Bool) (o p : Option A) (b : A)
    → (elim x as (λ y. Option A) [ true ↦ o | false ↦ p ]) ≡ Some b
    → ((x ≡ true) × (o ≡ Some b)) ⊎ ((x ≡ false) × (p ≡ Some b))
if_either true o p b e = inl (refl, e)
if_either false o p b e = inr (refl, e)
