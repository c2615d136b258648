-- The directives of Cache-Control, and their seconds, are those of RFC 9111.
use Rattle.std.proofs.Common.{◌≡◌, ◌⊎◌, inl, inr, ℕ, ◌+◌, ◌-◌, ◌*◌, ◌≤◌, Bool, true, false}
use Rattle.std.proofs.Common.{List, [], ◌∷◌, Option, Some, None, refl, sym, ap, subst, ◌∙◌, arith}
use Rattle.std.proofs.Common.{eqb-true}
use Rattle.std.specs.Prelude.{◌==◌, ◌||◌, is_none, is_some}
use Rattle.std.specs.Prelude.{option_and_then}
use Rattle.std.specs.List.{list_all}
use Rattle.std.specs.Str.{str_to_ascii_lowercase}
use Rattle.std.proofs.lemmas.Bool.{and_parts}
use Rattle.std.proofs.lemmas.Bool.Decides.{nat_tests}
use Rattle.std.proofs.lemmas.Slice.Eq.{bytes_eq-Decides}
use Rattle.sf_value.specs.Grammar.Classes.{is_digit}
use Rattle.sf_value.specs.Grammar.Numbers.{value_from}
use Rattle.sf_use.specs.CacheControl.{CacheDirective, agreed, delta_seconds, disagree, is_named}
use Rattle.sf_use.specs.CacheControl.{is_present, is_value, seconds_of, values}
use Rattle.sf_rfc_use.specs.CachingLaws.{as_directive, as_directives}
use Rattle.sf_rfc_use.specs.Rfc9111.{AreDigits, Directive, EachOf, HasValue, IsDeltaSeconds}
use Rattle.sf_rfc_use.specs.Rfc9111.{IsNamed, IsPresent, IsQualified, IsUnqualified, Sets}
use Rattle.sf_rfc_use.specs.Rfc9111.{considered, number_after}

pub named_is : (name : List ℕ) (d : CacheDirective) → is_named name d ≡ true
    → IsNamed name (as_directive d)
named_is name d h =
    (bytes_eq-Decides (str_to_ascii_lowercase d.name) (str_to_ascii_lowercase name)).0 h

is_named_by : (name : List ℕ) (d : CacheDirective) → IsNamed name (as_directive d)
    → is_named name d ≡ true
is_named_by name d h =
    (bytes_eq-Decides (str_to_ascii_lowercase d.name) (str_to_ascii_lowercase name)).1 h

pub present_is : (name : List ℕ) (ds : List CacheDirective) → is_present name ds ≡ true
    → IsPresent name (as_directives ds)
present_is name [] h = absurd cc
present_is name (d ∷ ds) h = by (is_named name d) refl (present_is name ds)
  where
    by : (x : Bool) → is_named name d ≡ x
        → (is_present name ds ≡ true → IsPresent name (as_directives ds))
        → IsPresent name (as_directives (d ∷ ds))
    by true e more = inl (named_is name d e)
    by false e more = inr (more (rw e at h))

pub present_by : (name : List ℕ) (ds : List CacheDirective) → IsPresent name (as_directives ds)
    → is_present name ds ≡ true
present_by name [] h = absurd h
present_by name (d ∷ ds) (inl e) = rw (is_named_by name d e) refl
present_by name (d ∷ ds) (inr more) = by (is_named name d) refl (present_by name ds more)
  where
    by : (x : Bool) → is_named name d ≡ x → is_present name ds ≡ true
        → is_present name (d ∷ ds) ≡ true
    by true e more = rw e refl
    by false e more = rw e more

-- with an argument or without
unqualified_is_present : (name : List ℕ) (ds : List Directive) → IsUnqualified name ds
    → IsPresent name ds
unqualified_is_present name [] h = h
unqualified_is_present name (d ∷ ds) (inl e) = inl e.0
unqualified_is_present name (d ∷ ds) (inr more) = inr (unqualified_is_present name ds more)

pub unqualified_present : (name : List ℕ) (ds : List CacheDirective)
    → IsUnqualified name (as_directives ds) → is_present name ds ≡ true
unqualified_present name ds h =
    present_by name ds (unqualified_is_present name (as_directives ds) h)

pub qualified_or_not : (name : List ℕ) (ds : List Directive) → IsPresent name ds
    → IsUnqualified name ds ⊎ IsQualified name ds
qualified_or_not name [] h = absurd h
qualified_or_not name (d ∷ ds) (inl e) = by d.argument refl
  where
    by : (o : Option (List ℕ)) → d.argument ≡ o
        → IsUnqualified name (d ∷ ds) ⊎ IsQualified name (d ∷ ds)
    by None none = inl (inl (e, none))
    by (Some t) some = inr (inl (e, λ none. let clash : Some t ≡ None = sym some ∙ none in cc))
qualified_or_not name (d ∷ ds) (inr more) = by (qualified_or_not name ds more)
  where
    by : IsUnqualified name ds ⊎ IsQualified name ds
        → IsUnqualified name (d ∷ ds) ⊎ IsQualified name (d ∷ ds)
    by (inl u) = inl (inr u)
    by (inr q) = inr (inr q)

-- seconds
digit_is : (b : ℕ) → is_digit b ≡ true → (48 ≤ b) × (b ≤ 57)
digit_is b h = grind (arith, nat_tests)

is_digit_by : (b : ℕ) → (48 ≤ b) × (b ≤ 57) → is_digit b ≡ true
is_digit_by b h = grind (arith, nat_tests)

digits_are : (t : List ℕ) → list_all is_digit t ≡ true → AreDigits t
digits_are [] h = tt
digits_are (b ∷ t) h = let p = and_parts (is_digit b) (list_all is_digit t) h in
    (digit_is b p.0, digits_are t p.1)

are_digits_by : (t : List ℕ) → AreDigits t → list_all is_digit t ≡ true
are_digits_by [] h = refl
are_digits_by (b ∷ t) h = rw (is_digit_by b h.0) (are_digits_by t h.1)

number_is : (n : ℕ) (t : List ℕ) → value_from n t ≡ number_after n t
number_is n [] = refl
number_is n (b ∷ t) = number_is (10 * n + (b - 48)) t

seconds_are : (t : List ℕ) (n : ℕ) → delta_seconds t ≡ Some n → IsDeltaSeconds t n
seconds_are [] n h = absurd cc
seconds_are (b ∷ t) n h = by (list_all is_digit (b ∷ t)) refl
  where
    by : (x : Bool) → list_all is_digit (b ∷ t) ≡ x → IsDeltaSeconds (b ∷ t) n
    by true e =
        let found : Some (considered (value_from 0 (b ∷ t))) ≡ Some n = rw e at h in
        let same : n ≡ considered (value_from 0 (b ∷ t)) = cc in
        (λ nil. cc, digits_are (b ∷ t) e, same ∙ ap considered (number_is 0 (b ∷ t)))
    by false e = let found : None ≡ Some n = rw e at h in absurd cc

pub are_seconds : (t : List ℕ) (n : ℕ) → IsDeltaSeconds t n → delta_seconds t ≡ Some n
are_seconds [] n (some, digits, same) = absurd (some refl)
are_seconds (b ∷ t) n (some, digits, same) =
    rw (are_digits_by (b ∷ t) digits)
    (ap Some (ap considered (number_is 0 (b ∷ t)) ∙ sym same))

argument_sets : (o : Option (List ℕ)) (n : ℕ) → option_and_then delta_seconds o ≡ Some n
    → (t : List ℕ) × (o ≡ Some t) × IsDeltaSeconds t n
argument_sets None n h = absurd cc
argument_sets (Some t) n h = (t, refl, seconds_are t n h)

sets_argument : (o : Option (List ℕ)) (n : ℕ) (t : List ℕ) → o ≡ Some t → IsDeltaSeconds t n
    → option_and_then delta_seconds o ≡ Some n
sets_argument o n t e h = rw e (are_seconds t n h)

-- values that are all this one
abbrev AllAre : ℕ → List (Option ℕ) → Type 0
AllAre n [] = Unit {0}
AllAre n (v ∷ vs) = (v ≡ Some n) × AllAre n vs

value_is : (n : ℕ) (v : Option ℕ) → is_value n v ≡ true → v ≡ Some n
value_is n None h = absurd cc
value_is n (Some m) h = ap Some (eqb-true m n h)

same_value : (n : ℕ) → (n == n) ≡ true
same_value n = grind (arith, nat_tests)

all_are : (n : ℕ) (vs : List (Option ℕ)) → list_all (is_value n) vs ≡ true → AllAre n vs
all_are n [] h = tt
all_are n (v ∷ vs) h = let p = and_parts (is_value n v) (list_all (is_value n) vs) h in
    (value_is n v p.0, all_are n vs p.1)

are_all : (n : ℕ) (vs : List (Option ℕ)) → AllAre n vs → list_all (is_value n) vs ≡ true
are_all n [] h = refl
are_all n (v ∷ vs) (e, more) = rw (e, same_value n) (are_all n vs more)

agreed_are : (n : ℕ) (vs : List (Option ℕ)) → agreed vs ≡ Some n → AllAre n vs
agreed_are n [] h = tt
agreed_are n (None ∷ vs) h = absurd cc
agreed_are n (Some m ∷ vs) h = by (list_all (is_value m) vs) refl
  where
    by : (x : Bool) → list_all (is_value m) vs ≡ x → AllAre n (Some m ∷ vs)
    by true e =
        let found : Some m ≡ Some n = rw e at h in
        let same : m ≡ n = cc in
        (found, subst (λ k. AllAre k vs) same (all_are m vs e))
    by false e = let found : None ≡ Some n = rw e at h in absurd cc

are_agreed : (n : ℕ) (v : Option ℕ) (vs : List (Option ℕ)) → AllAre n (v ∷ vs)
    → agreed (v ∷ vs) ≡ Some n
are_agreed n v vs (e, more) = rw e (rw (are_all n vs more) refl)

-- the values of a name
values_set : (name : List ℕ) (n : ℕ) (ds : List CacheDirective) → AllAre n (values name ds)
    → EachOf (λ d. IsNamed name d → Sets n d) (as_directives ds)
values_set name n [] h = tt
values_set name n (d ∷ ds) h = by (is_named name d) refl (values_set name n ds)
  where
    by : (x : Bool) → is_named name d ≡ x
        → (AllAre n (values name ds)
        → EachOf (λ d. IsNamed name d → Sets n d) (as_directives ds))
        → EachOf (λ d. IsNamed name d → Sets n d) (as_directives (d ∷ ds))
    by true e more =
        let all : AllAre n (seconds_of d ∷ values name ds) = rw e at h in
        (λ named. argument_sets d.argument n all.0, more all.1)
    by false e more =
        let all : AllAre n (values name ds) = rw e at h in (
          λ named. let clash : true ≡ false = sym (is_named_by name d named) ∙ e in absurd cc,
          more all,
        )

set_values : (name : List ℕ) (n : ℕ) (ds : List CacheDirective)
    → EachOf (λ d. IsNamed name d → Sets n d) (as_directives ds) → AllAre n (values name ds)
set_values name n [] h = tt
set_values name n (d ∷ ds) (first, more) =
    by (is_named name d) refl (set_values name n ds more)
  where
    by : (x : Bool) → is_named name d ≡ x → AllAre n (values name ds)
        → AllAre n (values name (d ∷ ds))
    by true e all =
        let (t, is, seconds) = first (named_is name d e) in
        rw e (sets_argument d.argument n t is seconds, all)
    by false e all = rw e all

no_values : (name : List ℕ) (ds : List CacheDirective) → is_present name ds ≡ false
    → values name ds ≡ []
no_values name [] h = refl
no_values name (d ∷ ds) h = by (is_named name d) refl (no_values name ds)
  where
    by : (x : Bool) → is_named name d ≡ x
        → (is_present name ds ≡ false → values name ds ≡ [])
        → values name (d ∷ ds) ≡ []
    by true e more = let clash : true ≡ false = rw e at h in absurd cc
    by false e more = rw e (more (rw e at h))

record Values (vs : List (Option ℕ)) : Type 0 where
  pub first : Option ℕ
  pub others : List (Option ℕ)
  pub split : vs ≡ first ∷ others

some_values : (name : List ℕ) (ds : List CacheDirective) → is_present name ds ≡ true
    → Values (values name ds)
some_values name [] h = absurd cc
some_values name (d ∷ ds) h = by (is_named name d) refl (some_values name ds)
  where
    by : (x : Bool) → is_named name d ≡ x
        → (is_present name ds ≡ true → Values (values name ds))
        → Values (values name (d ∷ ds))
    by true e more =
        record { first = seconds_of d; others = values name ds; split = rw e refl }
    by false e more = let m = more (rw e at h) in
        record { first = m.first; others = m.others; split = rw e m.split }

-- a directive with seconds is present, or it has no values
pub value_present : (name : List ℕ) (ds : List CacheDirective) (n : ℕ)
    → agreed (values name ds) ≡ Some n → is_present name ds ≡ true
value_present name ds n h = by (is_present name ds) refl
  where
    by : (x : Bool) → is_present name ds ≡ x → is_present name ds ≡ true
    by true e = e
    by false e =
        let clash : None ≡ Some n = sym (ap agreed (no_values name ds e)) ∙ h in absurd cc

pub has_value : (name : List ℕ) (ds : List CacheDirective) (n : ℕ)
    → agreed (values name ds) ≡ Some n → HasValue name (as_directives ds) n
has_value name ds n h = (
  present_is name ds (value_present name ds n h),
  values_set name n ds (agreed_are n (values name ds) h),
)

pub value_has : (name : List ℕ) (ds : List CacheDirective) (n : ℕ)
    → HasValue name (as_directives ds) n
    → (agreed (values name ds) ≡ Some n) × (disagree (values name ds) ≡ false)
value_has name ds n (present, each) =
    let m = some_values name ds (present_by name ds present) in
    let all : AllAre n (m.first ∷ m.others) =
    subst (AllAre n) m.split (set_values name n ds each) in
    let one : agreed (m.first ∷ m.others) ≡ Some n = are_agreed n m.first m.others all in
    (ap agreed m.split ∙ one, ap disagree m.split ∙ ap is_none one)

pub no_value : (name : List ℕ) (ds : List CacheDirective) → is_present name ds ≡ false
    → (agreed (values name ds) ≡ None) × (disagree (values name ds) ≡ false)
no_value name ds h =
    let none = no_values name ds h in
    (ap agreed none, ap disagree none)

some_or_none : (o : Option ℕ) → (is_none o || is_some o) ≡ true
some_or_none None = refl
some_or_none (Some n) = refl

pub has_it : (name : List ℕ) (ds : List CacheDirective)
    → (disagree (values name ds) || is_some (agreed (values name ds))) ≡ is_present name ds
has_it name ds = by (is_present name ds) refl
  where
    by : (x : Bool) → is_present name ds ≡ x
        → (disagree (values name ds) || is_some (agreed (values name ds))) ≡ is_present name ds
    by true e = let m = some_values name ds e in
        ap (λ vs. disagree vs || is_some (agreed vs)) m.split
        ∙ some_or_none (agreed (m.first ∷ m.others)) ∙ sym e
    by false e =
        ap (λ vs. disagree vs || is_some (agreed vs)) (no_values name ds e) ∙ sym e
