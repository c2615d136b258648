-- A cache decides that a response is stale, has to be validated or has no explicit expiration time,
-- and what changes no decision, as RFC 9111 states.
use Rattle.std.proofs.Common.{◌≡◌, ◌≢◌, ◌⊎◌, inl, inr, ⊎_elim, ℕ, ◌+◌, ◌-◌, ◌<◌, Bool, true, false}
use Rattle.std.proofs.Common.{List, [], ◌∷◌, ◌++◌, Option, Some, None, refl, sym, ap, subst, ◌∙◌}
use Rattle.std.proofs.Common.{arith, codes}
use Rattle.std.specs.Prelude.{◌&&◌, ◌||◌, if◌then◌else◌, nat_lt}
use Rattle.sf_use.specs.declared.caching.CacheKind.{CacheKind}
use Rattle.sf_use.specs.declared.caching.CacheKind.TheVariants as kind
use Rattle.sf_use.specs.declared.caching.CacheRules.{CacheRules}
use Rattle.sf_use.specs.declared.caching.Cause.{Cause}
use Rattle.sf_use.specs.declared.caching.Cause.TheVariants as cause
use Rattle.sf_use.specs.declared.caching.Decision.{Decision}
use Rattle.sf_use.specs.declared.caching.Lifetime.{Lifetime}
use Rattle.sf_use.specs.declared.caching.Lifetime.TheVariants as life
use Rattle.sf_use.specs.declared.caching.Reuse.{Reuse}
use Rattle.sf_use.specs.declared.caching.Reuse.TheVariants as reuse
use Rattle.sf_use.specs.CacheControl.{CacheDirective, HasCacheRules, agreed, cache_rules}
use Rattle.sf_use.specs.CacheControl.{disagree, is_named, is_present, seconds_of, values}
use Rattle.sf_use.specs.Caching.{by_lifetime, decided, decision, first_match, has_max_age}
use Rattle.sf_use.specs.Caching.{has_s_maxage, is_shared, lifetime, other_lifetime}
use Rattle.sf_use.specs.Caching.{permits_authorized, private_lifetime, saturated, stale, stored}
use Rattle.sf_use.specs.Caching.{understood, unless_refused}
use Rattle.sf_use.proofs.Decisions as decisions
use Rattle.sf_rfc_use.specs.CachingLaws.{AuthorizedAsAllowed, ExpiresAsStated, MaxAgeAsStated}
use Rattle.sf_rfc_use.specs.CachingLaws.{IsUse, IsUseOfText, StaleAsCalculated}
use Rattle.sf_rfc_use.specs.CachingLaws.{UnrecognizedIgnored, UnspecifiedAsStated, UsedAsStated}
use Rattle.sf_rfc_use.specs.CachingLaws.{ValidatedOnlyAsRequired, situation}
use Rattle.sf_rfc_use.specs.CachingLaws.{as_directive, as_directives, kind_of, rules_of, use_of}
use Rattle.sf_rfc_use.specs.Rfc9111.{AllowsAuthorized, HasExplicitTime, IsFreshBy}
use Rattle.sf_rfc_use.specs.Rfc9111.{IsLifetime, IsNamed, IsPresent, IsStale, MayStore}
use Rattle.sf_rfc_use.specs.Rfc9111.{MustValidate, ProhibitsStale, Situation, considered}
use Rattle.sf_rfc_use.proofs.DirectivesAgree.{has_it, named_is, present_by, present_is}
use Rattle.sf_rfc_use.proofs.CachingAgrees.{absent, absent_first, and_parts_true}
use Rattle.sf_rfc_use.proofs.CachingAgrees.{fresh_as_calculated, fresh_stored, is_effective}
use Rattle.sf_rfc_use.proofs.CachingAgrees.{lifetime_is, not_both, or_cases, or_first, or_second}
use Rattle.sf_rfc_use.proofs.CachingAgrees.{refusal_of, same_lifetime, shared_is, stale_by}
use Rattle.sf_rfc_use.proofs.CachingAgrees.{stale_as_permitted, stored_as_allowed}
use Rattle.sf_rfc_use.proofs.CachingAgrees.{validated_as_required}
use Rattle.sf_rfc_use.proofs.CachingAgrees.{stored_of, stored_or_not, stored_stale, use_is, used}

-- no rule sets a lifetime
first_unspecified : (invalid : Bool) (a : Cause) (seconds : Option ℕ) (b : Cause) (next : Lifetime)
    → first_match invalid a seconds b next ≡ life.Unspecified
    → (invalid ≡ false) × (seconds ≡ None) × (next ≡ life.Unspecified)
first_unspecified true a seconds b next h = absurd cc
first_unspecified false a None b next h = (refl, refl, h)
first_unspecified false a (Some n) b next h = absurd cc

other_unspecified : (other : Option ℕ) → other_lifetime other ≡ life.Unspecified → other ≡ None
other_unspecified None h = refl
other_unspecified (Some n) h = absurd cc

private_unspecified : (ds : List CacheDirective) (other : Option ℕ)
    → private_lifetime (cache_rules ds) other ≡ life.Unspecified
    → (IsPresent (codes "max-age") (as_directives ds) → ⊥) × (other ≡ None)
private_unspecified ds other h =
    let (d, a, next) = first_unspecified (disagree (values (codes "max-age") ds))
    cause.InvalidMaxAge (agreed (values (codes "max-age") ds)) cause.MaxAge
    (other_lifetime other) h in
    (absent (codes "max-age") ds d a, other_unspecified other next)

no_explicit_time : (s : Situation) (ds : List CacheDirective) (x : Bool) → s.shared ≡ x
    → lifetime (cache_rules ds) (kind_of x) s.expires ≡ life.Unspecified
    → HasExplicitTime s (as_directives ds) → ⊥
no_explicit_time s ds false e h (inl (shared, p)) = not_both s.shared shared e
no_explicit_time s ds false e h (inr (inl p)) = (private_unspecified ds s.expires h).0 p
no_explicit_time s ds false e h (inr (inr some)) = some (private_unspecified ds s.expires h).1
no_explicit_time s ds true e h x =
    let (d, a, next) = first_unspecified (disagree (values (codes "s-maxage") ds))
    cause.InvalidSMaxage (agreed (values (codes "s-maxage") ds)) cause.SMaxage
    (private_lifetime (cache_rules ds) s.expires) h in
    ⊎_elim (λ q. absent (codes "s-maxage") ds d a q.1)
    (⊎_elim (private_unspecified ds s.expires next).0
    (λ some. some (private_unspecified ds s.expires next).1)) x

-- a rule matches, or none does
lacks : (name : List ℕ) (ds : List CacheDirective) → is_present name ds ≡ false
    → IsPresent name (as_directives ds) → ⊥
lacks name ds e p = not_both (is_present name ds) (present_by name ds p) e

private_or_not : (s : Situation) (ds : List CacheDirective)
    → (IsPresent (codes "max-age") (as_directives ds) ⊎ (s.expires ≢ None))
    ⊎ (private_lifetime (cache_rules ds) s.expires ≡ life.Unspecified)
private_or_not s ds = by (is_present (codes "max-age") ds) refl s.expires refl
  where
    by : (x : Bool) → is_present (codes "max-age") ds ≡ x → (o : Option ℕ) → s.expires ≡ o
        → (IsPresent (codes "max-age") (as_directives ds) ⊎ (s.expires ≢ None))
        ⊎ (private_lifetime (cache_rules ds) s.expires ≡ life.Unspecified)
    by true e o f = inl (inl (present_is (codes "max-age") ds e))
    by false e (Some n) f = inl (inr (λ none. let clash : Some n ≡ None = sym f ∙ none in cc))
    by false e None f =
        inr (absent_first (codes "max-age") ds cause.InvalidMaxAge cause.MaxAge
        (other_lifetime s.expires) (lacks (codes "max-age") ds e) ∙ ap other_lifetime f)

explicit_or_not : (s : Situation) (ds : List CacheDirective) (x : Bool) → s.shared ≡ x
    → HasExplicitTime s (as_directives ds)
    ⊎ (lifetime (cache_rules ds) (kind_of x) s.expires ≡ life.Unspecified)
explicit_or_not s ds false e = ⊎_elim (λ p. inl (inr p)) (λ u. inr u) (private_or_not s ds)
explicit_or_not s ds true e =
    by (is_present (codes "s-maxage") ds) refl (private_or_not s ds)
  where
    by : (x : Bool) → is_present (codes "s-maxage") ds ≡ x
        → (IsPresent (codes "max-age") (as_directives ds) ⊎ (s.expires ≢ None))
        ⊎ (private_lifetime (cache_rules ds) s.expires ≡ life.Unspecified)
        → HasExplicitTime s (as_directives ds)
        ⊎ (lifetime (cache_rules ds) kind.Shared s.expires ≡ life.Unspecified)
    by true p o = inl (inl (e, present_is (codes "s-maxage") ds p))
    by false p (inl q) = inl (inr q)
    by false p (inr u) =
        inr (absent_first (codes "s-maxage") ds cause.InvalidSMaxage cause.SMaxage
        (private_lifetime (cache_rules ds) s.expires) (lacks (codes "s-maxage") ds p) ∙ u)

-- a decision about a response that is stale is specified
abbrev IsSpecified : Reuse → Type 0
IsSpecified reuse.Unspecified = ⊥
IsSpecified how = Unit {0}

stale_specified : (m p s : Bool) (by : Cause) → IsSpecified (stale_by m p s by).reuse
stale_specified true p s by = tt
stale_specified false true s by = tt
stale_specified false false true by = tt
stale_specified false false false by = tt

by_lifetime_unspecified : (r : CacheRules) (k : CacheKind) (age : ℕ) (l : Lifetime)
    → (by_lifetime r k age l).reuse ≡ reuse.Unspecified → l ≡ life.Unspecified
by_lifetime_unspecified r k age (life.Seconds n by) h =
    absurd (pick (nat_lt (saturated age) (saturated n)) h)
  where
    pick : (x : Bool)
        → (if x then decided (reuse.Fresh (saturated n - saturated age)) by
        else stale r k by).reuse ≡ reuse.Unspecified → ⊥
    pick true e = cc
    pick false e =
        subst IsSpecified e
        (stale_specified r.policy.must_revalidate (is_shared k && r.proxy_revalidate)
        (is_shared k && has_s_maxage r) by)
by_lifetime_unspecified r k age (life.Invalid by) h =
    absurd (subst IsSpecified h
    (stale_specified r.policy.must_revalidate (is_shared k && r.proxy_revalidate)
    (is_shared k && has_s_maxage r) by))
by_lifetime_unspecified r k age life.Unspecified h = refl

stored_unspecified : (r : CacheRules) (k : CacheKind) (other : Option ℕ) (age : ℕ)
    → (stored r k other age).reuse ≡ reuse.Unspecified → lifetime r k other ≡ life.Unspecified
stored_unspecified r k other age h = pick r.policy.no_cache h
  where
    pick : (x : Bool)
        → (if x then decided reuse.MustRevalidate cause.NoCache
        else by_lifetime r k age (lifetime r k other)).reuse ≡ reuse.Unspecified
        → lifetime r k other ≡ life.Unspecified
    pick true e = absurd cc
    pick false e = by_lifetime_unspecified r k age (lifetime r k other) e

-- a stale response is validated only if something prohibits to use it
abbrev Prohibited : CacheRules → CacheKind → Type 0
Prohibited r k =
    (r.policy.must_revalidate ≡ true)
    ⊎ (((is_shared k && r.proxy_revalidate) ≡ true) ⊎ ((is_shared k && has_s_maxage r) ≡ true))

stale_validated : (m p s : Bool) (by : Cause)
    → (stale_by m p s by).reuse ≡ reuse.MustRevalidate
    → (m ≡ true) ⊎ ((p ≡ true) ⊎ (s ≡ true))
stale_validated true p s by h = inl refl
stale_validated false true s by h = inr (inl refl)
stale_validated false false true by h = inr (inr refl)
stale_validated false false false by h = absurd cc

by_lifetime_validated : (r : CacheRules) (k : CacheKind) (age : ℕ) (l : Lifetime)
    → (by_lifetime r k age l).reuse ≡ reuse.MustRevalidate → Prohibited r k
by_lifetime_validated r k age (life.Seconds n by) h =
    pick (nat_lt (saturated age) (saturated n)) h
  where
    pick : (x : Bool)
        → (if x then decided (reuse.Fresh (saturated n - saturated age)) by
        else stale r k by).reuse ≡ reuse.MustRevalidate → Prohibited r k
    pick true e = absurd cc
    pick false e =
        stale_validated r.policy.must_revalidate (is_shared k && r.proxy_revalidate)
        (is_shared k && has_s_maxage r) by e
by_lifetime_validated r k age (life.Invalid by) h =
    stale_validated r.policy.must_revalidate (is_shared k && r.proxy_revalidate)
    (is_shared k && has_s_maxage r) by h
by_lifetime_validated r k age life.Unspecified h = absurd cc

prohibited_is : (s : Situation) (ds : List CacheDirective)
    → Prohibited (used s ds) (kind_of s.shared) → ProhibitsStale s (as_directives ds)
prohibited_is s ds (inl m) = inl (present_is (codes "must-revalidate") ds m)
prohibited_is s ds (inr (inl p)) =
    let q = and_parts_true (is_shared (kind_of s.shared)) (used s ds).proxy_revalidate p in
    inr (inl (sym (shared_is s.shared) ∙ q.0, present_is (codes "proxy-revalidate") ds q.1))
prohibited_is s ds (inr (inr p)) =
    let q = and_parts_true (is_shared (kind_of s.shared)) (has_s_maxage (used s ds)) p in
    inr (inr (inl (
      sym (shared_is s.shared) ∙ q.0,
      present_is (codes "s-maxage") ds (sym (has_it (codes "s-maxage") ds) ∙ q.1),
    )))

-- how a response that is stored is used
abbrev by_rules : Situation → List CacheDirective → Lifetime → Reuse
by_rules s ds l = (by_lifetime (used s ds) (kind_of s.shared) s.age l).reuse

abbrev lifetime_of : Situation → List CacheDirective → Lifetime
lifetime_of s ds = lifetime (cache_rules ds) (kind_of s.shared) s.expires

uncached : (s : Situation) (ds : List CacheDirective)
    → (used s ds).policy.no_cache ≡ false
    → (stored_of s ds).reuse ≡ by_rules s ds (lifetime_of s ds)
uncached s ds n =
    rw n (ap (by_rules s ds) (same_lifetime s.understands s.shared (cache_rules ds) s.expires))

used_as : (s : Situation) (ds : List CacheDirective) (how : Reuse) → use_of s ds ≡ how
    → how ≢ reuse.NotStored → (stored_of s ds).reuse ≡ how
used_as s ds how h n =
    ⊎_elim (λ e. absurd (n (sym h ∙ use_is s ds ∙ e))) (λ e. sym e ∙ sym (use_is s ds) ∙ h)
    (stored_or_not (refusal_of s ds) (stored_of s ds))

not_fresh : (s : Situation) (ds : List CacheDirective) (how : Reuse)
    → (used s ds).policy.no_cache ≡ false → (stored_of s ds).reuse ≡ how
    → ((left : ℕ) → how ≢ reuse.Fresh left)
    → (n : ℕ) → IsLifetime s (as_directives ds) n → IsFreshBy s n → ⊥
not_fresh s ds how c is other n h young =
    let sum : considered s.age + (considered n - considered s.age) ≡ considered n =
    omega (arith, young) in
    other (considered n - considered s.age)
    (sym is ∙ fresh_stored s ds n (considered n - considered s.age) h young sum c)

explicit_time : (s : Situation) (ds : List CacheDirective) (how : Reuse)
    → (used s ds).policy.no_cache ≡ false → (stored_of s ds).reuse ≡ how
    → how ≢ reuse.Unspecified → HasExplicitTime s (as_directives ds)
explicit_time s ds how c is other =
    ⊎_elim (λ x. x)
    (λ u. absurd (other (sym is ∙ uncached s ds c ∙ ap (by_rules s ds) u)))
    (explicit_or_not s ds s.shared refl)

unspecified_means : (s : Situation) (ds : List CacheDirective) → use_of s ds ≡ reuse.Unspecified
    → HasExplicitTime s (as_directives ds) → ⊥
unspecified_means s ds h x =
    let is = used_as s ds reuse.Unspecified h (λ e. cc) in
    let l : lifetime_of s ds ≡ life.Unspecified =
    sym (same_lifetime s.understands s.shared (cache_rules ds) s.expires)
    ∙ stored_unspecified (used s ds) (kind_of s.shared) s.expires s.age is in
    no_explicit_time s ds s.shared refl l x

pub stale_as_calculated : StaleAsCalculated
stale_as_calculated s ds = (there, λ h. back h (use_of s ds) refl)
  where
    there : use_of s ds ≡ reuse.Stale → IsStale s (as_directives ds)
    there h =
        let is = used_as s ds reuse.Stale h (λ e. cc) in
        let c = (stored_stale (used s ds) (kind_of s.shared) s.expires s.age is).0 in (
          explicit_time s ds reuse.Stale c is (λ e. cc),
          not_fresh s ds reuse.Stale c is (λ left e. cc),
        )

    back : IsStale s (as_directives ds) → (how : Reuse) → use_of s ds ≡ how
        → (use_of s ds ≡ reuse.Stale)
        ⊎ ((use_of s ds ≡ reuse.MustRevalidate) ⊎ (use_of s ds ≡ reuse.NotStored))
    back h (reuse.Fresh left) e =
        let (n, lasts, young, sum) = fresh_as_calculated s ds left e in
        absurd (h.1 n lasts young)
    back h reuse.Stale e = inl e
    back h reuse.MustRevalidate e = inr (inl e)
    back h reuse.NotStored e = inr (inr e)
    back h reuse.Unspecified e = absurd (unspecified_means s ds e h.0)

pub validated_only_as_required : ValidatedOnlyAsRequired
validated_only_as_required s ds h = by (is_present (codes "no-cache") ds) refl
  where
    is : (stored_of s ds).reuse ≡ reuse.MustRevalidate
    is = used_as s ds reuse.MustRevalidate h (λ e. cc)

    by : (x : Bool) → is_present (codes "no-cache") ds ≡ x
        → IsPresent (codes "no-cache") (as_directives ds)
        ⊎ (IsStale s (as_directives ds) × ProhibitsStale s (as_directives ds))
    by true c = inl (present_is (codes "no-cache") ds c)
    by false c =
        inr (
          (
            explicit_time s ds reuse.MustRevalidate c is (λ e. cc),
            not_fresh s ds reuse.MustRevalidate c is (λ left e. cc),
          ),
          prohibited_is s ds
              (by_lifetime_validated (used s ds) (kind_of s.shared) s.age (lifetime_of s ds)
              (sym (uncached s ds c) ∙ is)),
        )

pub unspecified_as_stated : UnspecifiedAsStated
unspecified_as_stated s ds = (
  unspecified_means s ds,
  λ none. by none (is_present (codes "no-cache") ds) refl
      (stored_or_not (refusal_of s ds) (stored_of s ds)) (explicit_or_not s ds s.shared refl),
)
  where
    by : (HasExplicitTime s (as_directives ds) → ⊥)
        → (x : Bool) → is_present (codes "no-cache") ds ≡ x
        → ((unless_refused (refusal_of s ds) (stored_of s ds)).reuse ≡ reuse.NotStored)
        ⊎ ((unless_refused (refusal_of s ds) (stored_of s ds)).reuse ≡ (stored_of s ds).reuse)
        → HasExplicitTime s (as_directives ds) ⊎ (lifetime_of s ds ≡ life.Unspecified)
        → (use_of s ds ≡ reuse.Unspecified)
        ⊎ ((use_of s ds ≡ reuse.NotStored) ⊎ IsPresent (codes "no-cache") (as_directives ds))
    by none true c o u = inr (inr (present_is (codes "no-cache") ds c))
    by none false c (inl e) u = inr (inl (use_is s ds ∙ e))
    by none false c (inr e) (inl x) = absurd (none x)
    by none false c (inr e) (inr u) =
        inl (use_is s ds ∙ e ∙ uncached s ds c ∙ ap (by_rules s ds) u)

pub max_age_as_stated : MaxAgeAsStated
max_age_as_stated s ds n left v missing h =
    let young = decisions.fresh_is_younger (rules_of s ds) (kind_of s.shared) s.expires s.age left h
    in
    let rule = lifetime_is s ds s.shared n refl (inr (inl (missing, v))) in
    let both : life.Seconds young.0 young.1 ≡ life.Seconds n rule.cause =
    sym young.2
    ∙ ap (λ q. lifetime q (kind_of s.shared) s.expires) (is_effective s.understands (cache_rules ds))
    ∙ same_lifetime s.understands s.shared (cache_rules ds) s.expires
    ∙ rule.set in
    let same : young.0 ≡ n = cc in
    let younger : considered s.age < considered n =
    subst (λ m. considered s.age < considered m) same young.3 in
    (λ older. omega (arith, older, younger), λ equal. omega (arith, equal, younger))

-- Expires
pub expires_as_stated : ExpiresAsStated
expires_as_stated s ds other (inl p) =
    let has : has_max_age (rules_of s ds) ≡ true =
    ap has_max_age (is_effective s.understands (cache_rules ds))
    ∙ has_it (codes "max-age") ds ∙ present_by (codes "max-age") ds p in
    ap (λ d. d.reuse)
    ((decisions.expires_is_ignored (rules_of s ds) s.expires s.age).0 (kind_of s.shared) has
    ∙ sym ((decisions.expires_is_ignored (rules_of s ds) other s.age).0 (kind_of s.shared) has))
expires_as_stated s ds other (inr (shared, p)) =
    let has : has_s_maxage (rules_of s ds) ≡ true =
    ap has_s_maxage (is_effective s.understands (cache_rules ds))
    ∙ has_it (codes "s-maxage") ds ∙ present_by (codes "s-maxage") ds p in
    let same : decision (rules_of s ds) kind.Shared s.expires s.age
    ≡ decision (rules_of s ds) kind.Shared other s.age =
    (decisions.expires_is_ignored (rules_of s ds) s.expires s.age).1 has
    ∙ sym ((decisions.expires_is_ignored (rules_of s ds) other s.age).1 has) in
    subst
    (λ x. (decision (rules_of s ds) (kind_of x) s.expires s.age).reuse
    ≡ (decision (rules_of s ds) (kind_of x) other s.age).reuse)
    (sym shared) (ap (λ d. d.reuse) same)

-- directives that are not recognized
unnamed : (name : List ℕ) (d : CacheDirective) → (IsNamed name (as_directive d) → ⊥)
    → is_named name d ≡ false
unnamed name d missing = by (is_named name d) refl
  where
    by : (x : Bool) → is_named name d ≡ x → is_named name d ≡ false
    by true e = absurd (missing (named_is name d e))
    by false e = e

same_present : (name : List ℕ) (before after : List CacheDirective) (d : CacheDirective)
    → is_named name d ≡ false
    → is_present name (before ++ d ∷ after) ≡ is_present name (before ++ after)
same_present name [] after d e = rw e refl
same_present name (b ∷ before) after d e =
    ap (λ x. is_named name b || x) (same_present name before after d e)

same_values : (name : List ℕ) (before after : List CacheDirective) (d : CacheDirective)
    → is_named name d ≡ false
    → values name (before ++ d ∷ after) ≡ values name (before ++ after)
same_values name [] after d e = rw e refl
same_values name (b ∷ before) after d e =
    by (is_named name b) refl (same_values name before after d e)
  where
    by : (x : Bool) → is_named name b ≡ x
        → values name (before ++ d ∷ after) ≡ values name (before ++ after)
        → values name (b ∷ before ++ d ∷ after) ≡ values name (b ∷ before ++ after)
    by true f ih = rw f (ap (λ vs. seconds_of b ∷ vs) ih)
    by false f ih = rw f ih

pub unrecognized_ignored : UnrecognizedIgnored
unrecognized_ignored before after d u =
    let same_seconds = λ (name : List ℕ) (missing : IsNamed name (as_directive d) → ⊥).
    same_values name before after d (unnamed name d missing) in
    let same = λ (name : List ℕ) (missing : IsNamed name (as_directive d) → ⊥).
    same_present name before after d (unnamed name d missing) in
    rw (
      same_seconds (codes "max-age") u.max_age,
      same_seconds (codes "s-maxage") u.s_maxage,
      same (codes "must-revalidate") u.must_revalidate,
      same (codes "no-store") u.no_store,
      same (codes "no-cache") u.no_cache,
      same (codes "private") u.is_private,
      same (codes "proxy-revalidate") u.proxy_revalidate,
      same (codes "must-understand") u.must_understand,
      same (codes "public") u.is_public,
    ) refl

-- what permits to use the response to a request with Authorization
pub authorized_as_allowed : AuthorizedAsAllowed
authorized_as_allowed ds = (there, back)
  where
    there : permits_authorized (cache_rules ds) ≡ true → AllowsAuthorized (as_directives ds)
    there h =
        ⊎_elim
        (λ p. ⊎_elim (λ q. inl (present_is (codes "must-revalidate") ds q))
        (λ q. inr (inl (present_is (codes "public") ds q))) (or_cases _ _ p))
        (λ p. inr (inr (present_is (codes "s-maxage") ds (sym (has_it (codes "s-maxage") ds) ∙ p))))
        (or_cases _ _ h)

    back : AllowsAuthorized (as_directives ds) → permits_authorized (cache_rules ds) ≡ true
    back (inl p) = or_first _ _ (or_first _ _ (present_by (codes "must-revalidate") ds p))
    back (inr (inl p)) = or_first _ _ (or_second _ _ (present_by (codes "public") ds p))
    back (inr (inr p)) =
        or_second _ _ (has_it (codes "s-maxage") ds ∙ present_by (codes "s-maxage") ds p)

-- how a response is used
pub used_as_stated : UsedAsStated
used_as_stated s ds = by (use_of s ds) refl
  where
    may : (how : Reuse) → use_of s ds ≡ how → how ≢ reuse.NotStored
        → MayStore s (as_directives ds)
    may how e other = (stored_as_allowed s ds).0 (λ f. other (sym e ∙ f))

    free : (how : Reuse) → use_of s ds ≡ how → how ≢ reuse.NotStored
        → how ≢ reuse.MustRevalidate → MustValidate (as_directives ds) → ⊥
    free how e not_stored not_validated h =
        ⊎_elim (λ f. not_stored (sym e ∙ f)) (λ f. not_validated (sym e ∙ f))
        (validated_as_required s ds h)

    by : (how : Reuse) → use_of s ds ≡ how → IsUse s (as_directives ds) how
    by reuse.NotStored e = λ m. (stored_as_allowed s ds).1 m e
    by (reuse.Fresh left) e =
        let (n, lasts, young, sum) = fresh_as_calculated s ds left e in (
          may (reuse.Fresh left) e (λ f. cc),
          free (reuse.Fresh left) e (λ f. cc) (λ f. cc),
          n,
          lasts,
          young,
          sum,
        )
    by reuse.Stale e = (
      may reuse.Stale e (λ f. cc),
      (stale_as_calculated s ds).0 e,
      stale_as_permitted s ds e,
    )
    by reuse.MustRevalidate e =
        (may reuse.MustRevalidate e (λ f. cc), validated_only_as_required s ds e)
    by reuse.Unspecified e = (
      may reuse.Unspecified e (λ f. cc),
      free reuse.Unspecified e (λ f. cc) (λ f. cc),
      unspecified_means s ds e,
    )

-- how the response with a text of Cache-Control is used
kind_is : (k : CacheKind) → kind_of (is_shared k) ≡ k
kind_is kind.Shared = refl
kind_is kind.Private = refl

pub text_used : (k : CacheKind) (u : Bool) (age : ℕ) (other : Option ℕ) (t : List ℕ) (r : CacheRules)
    (d : Decision)
    → HasCacheRules t r
    → d ≡ decision (if u then understood r else r) k other age
    → IsUseOfText (situation k u age other) t d.reuse
text_used k u age other t r d (ds, spelled, is) e =
    (ds, spelled, subst (IsUse s (as_directives ds)) (sym same) (used_as_stated s ds))
  where
    s : Situation
    s = situation k u age other

    same : d.reuse ≡ use_of s ds
    same =
        ap (λ (d : Decision). d.reuse) e
        ∙ ap (λ q. (decision (if u then understood q else q) k other age).reuse) is
        ∙ ap (λ j. (decision (if u then understood (cache_rules ds) else cache_rules ds) j other
        age).reuse) (sym (kind_is k))
