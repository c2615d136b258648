-- A directive that forbids something never makes a decision less strict.
use Rattle.std.proofs.Common.{◌≡◌, ℕ, ◌-◌, Bool, true, false, List, [], ◌∷◌, ◌++◌, Option, Some}
use Rattle.std.proofs.Common.{None, refl, sym, ap, subst, ◌∙◌, codes, ◌⊎◌, inl, inr, ⊎_elim}
use Rattle.std.specs.Prelude.{◌&&◌, ◌||◌, if◌then◌else◌, map, filter, nat_lt}
use Rattle.std.specs.List.{list_any}
use Rattle.std.specs.Str.{bytes_eq, str_to_ascii_lowercase}
use Rattle.std.proofs.lemmas.List.{map-append}
use Rattle.std.proofs.lemmas.List.Elements.{filter-append}
use Rattle.std.proofs.lemmas.List.Folds.{list_any-append}
use Rattle.std.proofs.lemmas.Slice.Eq.{bytes_eq-Decides}
use Rattle.sf_use.specs.declared.targeted.Policy.{Policy}
use Rattle.sf_use.specs.declared.caching.CacheKind.{CacheKind}
use Rattle.sf_use.specs.declared.caching.CacheKind.TheVariants as kind
use Rattle.sf_use.specs.declared.caching.CacheRules.{CacheRules}
use Rattle.sf_use.specs.declared.caching.Cause.{Cause}
use Rattle.sf_use.specs.declared.caching.Decision.{Decision}
use Rattle.sf_use.specs.declared.caching.Cause.TheVariants as cause
use Rattle.sf_use.specs.declared.caching.Lifetime.{Lifetime}
use Rattle.sf_use.specs.declared.caching.Lifetime.TheVariants as life
use Rattle.sf_use.specs.declared.caching.Reuse.{Reuse}
use Rattle.sf_use.specs.declared.caching.Reuse.TheVariants as reuse
use Rattle.sf_use.specs.Caching.{aged, by_lifetime, decided, decision, is_shared, lifetime, refusal}
use Rattle.sf_use.specs.Caching.{saturated, stale, stored, unless_refused, has_s_maxage}
use Rattle.sf_use.specs.CachingLaws.{reuse_of}
use Rattle.sf_use.specs.CacheControl.{CacheDirective, agreed, cache_rules, disagree, is_named}
use Rattle.sf_use.specs.CacheControl.{is_present, seconds_of, values}
use Rattle.sf_use.specs.CacheControlLaws.{ForbiddingIsAsStrict, IsAsStrict, forbids}
use Rattle.sf_use.proofs.CacheControlRules.{same_policy, same_rules}

-- rules with more that is forbidden
abbrev with_more : CacheRules → Bool → Bool → Bool → Bool → Bool → Bool → Bool → CacheRules
with_more r a b c d e f g = record r {
  policy = record r.policy {
    must_revalidate = a || r.policy.must_revalidate;
    no_store = b || r.policy.no_store;
    no_cache = c || r.policy.no_cache;
    is_private = d || r.policy.is_private;
  };
  proxy_revalidate = e || r.proxy_revalidate;
  must_understand = f || r.must_understand;
  is_public = g || r.is_public;
}

same_is_as_strict : (how : Reuse) → IsAsStrict how how
same_is_as_strict reuse.NotStored = tt
same_is_as_strict (reuse.Fresh n) = refl
same_is_as_strict reuse.Stale = refl
same_is_as_strict reuse.MustRevalidate = tt
same_is_as_strict reuse.Unspecified = refl

-- what is stored is used in some way
abbrev IsStored : Reuse → Type 0
IsStored reuse.NotStored = ⊥
IsStored how = Unit {0}

validated_is_as_strict : (how : Reuse) → IsStored how → IsAsStrict reuse.MustRevalidate how
validated_is_as_strict reuse.NotStored h = h
validated_is_as_strict (reuse.Fresh n) h = tt
validated_is_as_strict reuse.Stale h = tt
validated_is_as_strict reuse.MustRevalidate h = tt
validated_is_as_strict reuse.Unspecified h = tt

-- what a stale response is used for, by what forbids it
abbrev stale_by : Bool → Bool → Bool → Cause → Decision
stale_by m p s by =
    if m then decided reuse.MustRevalidate cause.MustRevalidate
    else (if p then decided reuse.MustRevalidate cause.ProxyRevalidate
    else (if s then decided reuse.MustRevalidate by else decided reuse.Stale by))

stale_stored : (m p s : Bool) (by : Cause) → IsStored (stale_by m p s by).reuse
stale_stored true p s by = tt
stale_stored false true s by = tt
stale_stored false false true by = tt
stale_stored false false false by = tt

stale_is_as_strict : (a m e k p s : Bool) (by : Cause)
    → IsAsStrict (stale_by (a || m) (k && (e || p)) s by).reuse (stale_by m (k && p) s by).reuse
stale_is_as_strict true m e k p s by =
    validated_is_as_strict (stale_by m (k && p) s by).reuse (stale_stored m (k && p) s by)
stale_is_as_strict false true e k p s by = tt
stale_is_as_strict false false true true p s by =
    validated_is_as_strict (stale_by false p s by).reuse (stale_stored false p s by)
stale_is_as_strict false false true false p s by = same_is_as_strict (stale_by false false s by).reuse
stale_is_as_strict false false false k p s by =
    same_is_as_strict (stale_by false (k && p) s by).reuse

module _ (r : CacheRules) (a b c d e f g : Bool) where
  stale_strict : (k : CacheKind) (by : Cause)
      → IsAsStrict (stale (with_more r a b c d e f g) k by).reuse (stale r k by).reuse
  stale_strict k by =
      stale_is_as_strict a r.policy.must_revalidate e (is_shared k) r.proxy_revalidate
      (is_shared k && has_s_maxage r) by

  by_lifetime_strict : (k : CacheKind) (age : ℕ) (l : Lifetime)
      → IsAsStrict (by_lifetime (with_more r a b c d e f g) k age l).reuse
      (by_lifetime r k age l).reuse
  by_lifetime_strict k age (life.Seconds n by) = pick (nat_lt (saturated age) (saturated n))
    where
      pick : (x : Bool)
          → IsAsStrict (if x then decided (reuse.Fresh (saturated n - saturated age)) by
          else stale (with_more r a b c d e f g) k by).reuse
          (if x then decided (reuse.Fresh (saturated n - saturated age)) by
          else stale r k by).reuse
      pick true = refl
      pick false = stale_strict k by
  by_lifetime_strict k age (life.Invalid by) = stale_strict k by
  by_lifetime_strict k age life.Unspecified = refl

by_lifetime_stored : (r : CacheRules) (k : CacheKind) (age : ℕ) (l : Lifetime)
    → IsStored (by_lifetime r k age l).reuse
by_lifetime_stored r k age (life.Seconds n by) = pick (nat_lt (saturated age) (saturated n))
  where
    pick : (x : Bool)
        → IsStored (if x then decided (reuse.Fresh (saturated n - saturated age)) by
        else stale r k by).reuse
    pick true = tt
    pick false =
        stale_stored r.policy.must_revalidate (is_shared k && r.proxy_revalidate)
        (is_shared k && has_s_maxage r) by
by_lifetime_stored r k age (life.Invalid by) =
    stale_stored r.policy.must_revalidate (is_shared k && r.proxy_revalidate)
    (is_shared k && has_s_maxage r) by
by_lifetime_stored r k age life.Unspecified = tt

unless_cached : (n : Bool) (y : Decision) → IsStored y.reuse
    → IsStored (if n then decided reuse.MustRevalidate cause.NoCache else y).reuse
unless_cached true y h = tt
unless_cached false y h = h

stored_strict : (c n : Bool) (x y : Decision) → IsAsStrict x.reuse y.reuse → IsStored y.reuse
    → IsAsStrict (if c || n then decided reuse.MustRevalidate cause.NoCache else x).reuse
    (if n then decided reuse.MustRevalidate cause.NoCache else y).reuse
stored_strict true n x y h s =
    validated_is_as_strict (if n then decided reuse.MustRevalidate cause.NoCache else y).reuse
    (unless_cached n y s)
stored_strict false true x y h s = tt
stored_strict false false x y h s = h

abbrev refusal_by : Bool → Bool → Bool → Option Cause
refusal_by n p u =
    if n then Some cause.NoStore
    else (if p then Some cause.Private
    else (if u then Some cause.MustUnderstand else None))

refusal_strict : (b n d p k f u : Bool) (x y : Decision) → IsAsStrict x.reuse y.reuse
    → IsAsStrict (unless_refused (refusal_by (b || n) ((d || p) && k) (f || u)) x).reuse
    (unless_refused (refusal_by n (p && k) u) y).reuse
refusal_strict true n d p k f u x y h = tt
refusal_strict false true d p k f u x y h = tt
refusal_strict false false true p true f u x y h = tt
refusal_strict false false false true true f u x y h = tt
refusal_strict false false true true false true u x y h = tt
refusal_strict false false true true false false true x y h = tt
refusal_strict false false true true false false false x y h = h
refusal_strict false false true false false true u x y h = tt
refusal_strict false false true false false false true x y h = tt
refusal_strict false false true false false false false x y h = h
refusal_strict false false false true false true u x y h = tt
refusal_strict false false false true false false true x y h = tt
refusal_strict false false false true false false false x y h = h
refusal_strict false false false false k true u x y h = tt
refusal_strict false false false false k false true x y h = tt
refusal_strict false false false false k false false x y h = h

more_is_as_strict : (r : CacheRules) (a b c d e f g : Bool) (k : CacheKind) (other : Option ℕ)
    (age : ℕ)
    → IsAsStrict (reuse_of (with_more r a b c d e f g) k other age) (reuse_of r k other age)
more_is_as_strict r a b c d e f g kind.Private other age =
    let l = lifetime r kind.Private other in
    refusal_strict b r.policy.no_store d r.policy.is_private false f r.must_understand
    (stored (with_more r a b c d e f g) kind.Private other age) (stored r kind.Private other age)
    (stored_strict c r.policy.no_cache
    (by_lifetime (with_more r a b c d e f g) kind.Private age l)
    (by_lifetime r kind.Private age l)
    (by_lifetime_strict r a b c d e f g kind.Private age l)
    (by_lifetime_stored r kind.Private age l))
more_is_as_strict r a b c d e f g kind.Shared other age =
    let l = lifetime r kind.Shared other in
    refusal_strict b r.policy.no_store d r.policy.is_private true f r.must_understand
    (stored (with_more r a b c d e f g) kind.Shared other age) (stored r kind.Shared other age)
    (stored_strict c r.policy.no_cache
    (by_lifetime (with_more r a b c d e f g) kind.Shared age l)
    (by_lifetime r kind.Shared age l)
    (by_lifetime_strict r a b c d e f g kind.Shared age l)
    (by_lifetime_stored r kind.Shared age l))

-- a directive has one name
other_name : (a b : List ℕ) (d : CacheDirective) → is_named a d ≡ true
    → bytes_eq (str_to_ascii_lowercase a) (str_to_ascii_lowercase b) ≡ false
    → is_named b d ≡ false
other_name a b d h n =
    let same : str_to_ascii_lowercase d.name ≡ str_to_ascii_lowercase a =
    (bytes_eq-Decides (str_to_ascii_lowercase d.name) (str_to_ascii_lowercase a)).0 h in
    ap (λ t. bytes_eq t (str_to_ascii_lowercase b)) same ∙ n

or_cases : (x y : Bool) → (x || y) ≡ true → (x ≡ true) ⊎ (y ≡ true)
or_cases true y h = inl refl
or_cases false y h = inr h

-- a directive that forbids something sets no lifetime
no_lifetime : (name : List ℕ) (d : CacheDirective)
    → bytes_eq (str_to_ascii_lowercase (codes "must-revalidate")) (str_to_ascii_lowercase name)
    ≡ false
    → bytes_eq (str_to_ascii_lowercase (codes "no-store")) (str_to_ascii_lowercase name) ≡ false
    → bytes_eq (str_to_ascii_lowercase (codes "no-cache")) (str_to_ascii_lowercase name) ≡ false
    → bytes_eq (str_to_ascii_lowercase (codes "private")) (str_to_ascii_lowercase name) ≡ false
    → bytes_eq (str_to_ascii_lowercase (codes "proxy-revalidate")) (str_to_ascii_lowercase name)
    ≡ false
    → bytes_eq (str_to_ascii_lowercase (codes "must-understand")) (str_to_ascii_lowercase name)
    ≡ false
    → forbids d ≡ true → is_named name d ≡ false
no_lifetime name d a b c e f g h =
    ⊎_elim (λ x. other_name (codes "must-revalidate") name d x a)
    (λ h. ⊎_elim (λ x. other_name (codes "no-store") name d x b)
    (λ h. ⊎_elim (λ x. other_name (codes "no-cache") name d x c)
    (λ h. ⊎_elim (λ x. other_name (codes "private") name d x e)
    (λ h. ⊎_elim (λ x. other_name (codes "proxy-revalidate") name d x f)
    (λ x. other_name (codes "must-understand") name d x g)
    (or_cases _ _ h)) (or_cases _ _ h)) (or_cases _ _ h)) (or_cases _ _ h)) (or_cases _ _ h)

values_without : (name : List ℕ) (before after : List CacheDirective) (d : CacheDirective)
    → is_named name d ≡ false
    → values name (before ++ d ∷ after) ≡ values name (before ++ after)
values_without name before after d n =
    ap (map seconds_of)
    (filter-append (is_named name) before (d ∷ after)
    ∙ rw n (sym (filter-append (is_named name) before after)))

swap_or : (x y z : Bool) → (x || (y || z)) ≡ (y || (x || z))
swap_or true true z = refl
swap_or true false z = refl
swap_or false y z = refl

present_more : (name : List ℕ) (before after : List CacheDirective) (d : CacheDirective)
    → is_present name (before ++ d ∷ after)
    ≡ (is_named name d || is_present name (before ++ after))
present_more name before after d =
    list_any-append (is_named name) before (d ∷ after)
    ∙ swap_or (is_present name before) (is_named name d) (is_present name after)
    ∙ ap (λ x. is_named name d || x) (sym (list_any-append (is_named name) before after))

rules_more : (before after : List CacheDirective) (d : CacheDirective) → forbids d ≡ true
    → cache_rules (before ++ d ∷ after)
    ≡ with_more (cache_rules (before ++ after))
    (is_named (codes "must-revalidate") d) (is_named (codes "no-store") d)
    (is_named (codes "no-cache") d) (is_named (codes "private") d)
    (is_named (codes "proxy-revalidate") d) (is_named (codes "must-understand") d)
    (is_named (codes "public") d)
rules_more before after d h =
    let m = values_without (codes "max-age") before after d
    (no_lifetime (codes "max-age") d refl refl refl refl refl refl h) in
    let s = values_without (codes "s-maxage") before after d
    (no_lifetime (codes "s-maxage") d refl refl refl refl refl refl h) in
    same_rules _ _ _ _ _ _ _ _ _ _ _ _
    (same_policy _ _ _ _ _ _ _ _ _ _ _ _ (ap agreed m) (ap agreed s)
    (present_more (codes "must-revalidate") before after d)
    (present_more (codes "no-store") before after d)
    (present_more (codes "no-cache") before after d)
    (present_more (codes "private") before after d))
    (ap disagree m) (ap disagree s)
    (present_more (codes "proxy-revalidate") before after d)
    (present_more (codes "must-understand") before after d)
    (present_more (codes "public") before after d)

pub forbidding_is_as_strict : ForbiddingIsAsStrict
forbidding_is_as_strict before after d h k other age =
    subst (λ q. IsAsStrict (reuse_of q k other age) (reuse_of (cache_rules (before ++ after)) k other age))
    (sym (rules_more before after d h))
    (more_is_as_strict (cache_rules (before ++ after))
    (is_named (codes "must-revalidate") d) (is_named (codes "no-store") d)
    (is_named (codes "no-cache") d) (is_named (codes "private") d)
    (is_named (codes "proxy-revalidate") d) (is_named (codes "must-understand") d)
    (is_named (codes "public") d) k other age)
