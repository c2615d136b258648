-- The laws of what a cache decides.
use Rattle.std.proofs.Common.{◌≡◌, ◌≢◌, ℕ, ◌+◌, ◌-◌, ◌<◌, ◌≤◌, Bool, true, false, Option, Some}
use Rattle.std.proofs.Common.{None, min}
use Rattle.std.proofs.Common.{refl, sym, ap, subst, ◌∙◌, arith}
use Rattle.std.specs.Prelude.{nat_lt, if◌then◌else◌, ◌&&◌, ◌||◌, is_some}
use Rattle.std.proofs.lemmas.Bool.{ltb-true, lt-ltb}
use Rattle.sf_use.specs.declared.targeted.Policy.{Policy}
use Rattle.sf_use.specs.declared.caching.CacheKind.{CacheKind}
use Rattle.sf_use.specs.declared.caching.CacheKind.TheVariants as kind
use Rattle.sf_use.specs.declared.caching.CacheRules.{CacheRules}
use Rattle.sf_use.specs.declared.caching.Cause.{Cause}
use Rattle.sf_use.specs.declared.caching.Cause.TheVariants as cause
use Rattle.sf_use.specs.declared.caching.Decision.{Decision}
use Rattle.sf_use.specs.declared.caching.Lifetime.{Lifetime}
use Rattle.sf_use.specs.declared.caching.Lifetime.TheVariants as life
use Rattle.sf_use.specs.declared.caching.Reuse.{Reuse}
use Rattle.sf_use.specs.declared.caching.Reuse.TheVariants as reuse
use Rattle.sf_use.specs.Caching.{decision, decided, stale, aged, by_lifetime, stored, refusal}
use Rattle.sf_use.specs.Caching.{unless_refused, lifetime, saturated, has_s_maxage, has_max_age}
use Rattle.sf_use.specs.Caching.{private_lifetime, first_match, other_lifetime, is_shared}
use Rattle.sf_use.specs.CachingLaws.{IsFresh, IsValidated, reuse_of}
use Rattle.sf_use.specs.CachingLaws as law

pub no_store_is_not_stored : law.NoStoreIsNotStored
no_store_is_not_stored r c other age h = rw h refl

-- with private in a shared cache, or with must-understand, there is a refusal, whatever else is set
refused_private : (a b : Bool) (d : Decision)
    → (unless_refused (if a then Some cause.NoStore
    else (if true && true then Some cause.Private
    else (if b then Some cause.MustUnderstand else None))) d).reuse ≡ reuse.NotStored
refused_private true b d = refl
refused_private false b d = refl

pub private_is_not_shared : law.PrivateIsNotShared
private_is_not_shared r other age h =
    rw h (refused_private r.policy.no_store r.must_understand (stored r kind.Shared other age))

refused_understand : (a b : Bool) (d : Decision)
    → (unless_refused (if a then Some cause.NoStore
    else (if b then Some cause.Private
    else (if true then Some cause.MustUnderstand else None))) d).reuse ≡ reuse.NotStored
refused_understand true b d = refl
refused_understand false true d = refl
refused_understand false false d = refl

pub must_be_understood : law.MustBeUnderstood
must_be_understood r c other age h =
    rw h (refused_understand r.policy.no_store (r.policy.is_private && is_shared c)
    (stored r c other age))

pub no_store_alone : law.NoStoreAlone
no_store_alone r c other age h = rw h refl

-- what is not stored is validated
validated : (o : Option Cause) (d : Decision) → IsValidated d.reuse
    → IsValidated (unless_refused o d).reuse
validated (Some by) d v = tt
validated None d v = v

pub no_cache_is_validated : law.NoCacheIsValidated
no_cache_is_validated r c other age h =
    validated (refusal r c) (stored r c other age)
    (subst (λ b. IsValidated (if b then decided reuse.MustRevalidate cause.NoCache
    else by_lifetime r c age (lifetime r c other)).reuse) (sym h) tt)

-- it is not served stale
abbrev NotStale : Reuse → Type 0
NotStale reuse.Stale = ⊥
NotStale how = Unit {0}

not_stale : (how : Reuse) → NotStale how → how ≢ reuse.Stale
not_stale how n e = subst NotStale e n

unless : (o : Option Cause) (d : Decision) → NotStale d.reuse
    → NotStale (unless_refused o d).reuse
unless (Some by) d n = tt
unless None d n = n

-- if what is stale is not served, nothing stale is
aged_not : (r : CacheRules) (c : CacheKind) (n : ℕ) (by : Cause) (age : ℕ)
    → NotStale (stale r c by).reuse → NotStale (aged r c n by age).reuse
aged_not r c n by age h = pick (nat_lt (saturated age) (saturated n))
  where
    pick : (b : Bool)
        → NotStale (if b then decided (reuse.Fresh (saturated n - saturated age)) by
        else stale r c by).reuse
    pick true = tt
    pick false = h

by_lifetime_not : (r : CacheRules) (c : CacheKind) (age : ℕ) (l : Lifetime)
    → ((by : Cause) → NotStale (stale r c by).reuse) → NotStale (by_lifetime r c age l).reuse
by_lifetime_not r c age (life.Seconds n by) h = aged_not r c n by age (h by)
by_lifetime_not r c age (life.Invalid by) h = h by
by_lifetime_not r c age life.Unspecified h = tt

never_stale : (r : CacheRules) (c : CacheKind) (other : Option ℕ) (age : ℕ)
    → ((by : Cause) → NotStale (stale r c by).reuse) → reuse_of r c other age ≢ reuse.Stale
never_stale r c other age h =
    not_stale _ (unless (refusal r c) (stored r c other age) (pick r.policy.no_cache))
  where
    pick : (b : Bool)
        → NotStale (if b then decided reuse.MustRevalidate cause.NoCache
        else by_lifetime r c age (lifetime r c other)).reuse
    pick true = tt
    pick false = by_lifetime_not r c age (lifetime r c other) h

pub must_revalidate_is_not_served_stale : law.MustRevalidateIsNotServedStale
must_revalidate_is_not_served_stale r c other age h =
    never_stale r c other age (λ by. rw h tt)

stale_by : (a b s : Bool) (by : Cause) → (b || s) ≡ true
    → NotStale (if a then decided reuse.MustRevalidate cause.MustRevalidate
    else (if true && b then decided reuse.MustRevalidate cause.ProxyRevalidate
    else (if true && s then decided reuse.MustRevalidate by
    else decided reuse.Stale by))).reuse
stale_by true b s by h = tt
stale_by false true s by h = tt
stale_by false false true by h = tt
stale_by false false false by h = absurd cc

pub proxy_revalidate_is_not_served_stale : law.ProxyRevalidateIsNotServedStale
proxy_revalidate_is_not_served_stale r other age h =
    never_stale r kind.Shared other age
    (λ by. stale_by r.policy.must_revalidate r.proxy_revalidate (has_s_maxage r) by
    (rw h refl))

or_true : (a b : Bool) → b ≡ true → (a || b) ≡ true
or_true true b h = refl
or_true false b h = h

pub s_maxage_is_not_served_stale : law.SMaxageIsNotServedStale
s_maxage_is_not_served_stale r other age h =
    never_stale r kind.Shared other age
    (λ by. stale_by r.policy.must_revalidate r.proxy_revalidate (has_s_maxage r) by
    (or_true r.proxy_revalidate (has_s_maxage r) h))

-- what is stale is not fresh
stale_not_fresh : (r : CacheRules) (c : CacheKind) (by : Cause) → IsFresh (stale r c by).reuse → ⊥
stale_not_fresh r c by = pick r.policy.must_revalidate (is_shared c && r.proxy_revalidate)
    (is_shared c && has_s_maxage r)
  where
    pick : (a b s : Bool)
        → IsFresh (if a then decided reuse.MustRevalidate cause.MustRevalidate
        else (if b then decided reuse.MustRevalidate cause.ProxyRevalidate
        else (if s then decided reuse.MustRevalidate by
        else decided reuse.Stale by))).reuse
        → ⊥
    pick true b s f = f
    pick false true s f = f
    pick false false true f = f
    pick false false false f = f

-- what is fresh by its lifetime
aged_fresh : (r : CacheRules) (c : CacheKind) (n : ℕ) (by : Cause) (age : ℕ)
    → IsFresh (aged r c n by age).reuse → saturated age < saturated n
aged_fresh r c n by age f = pick (nat_lt (saturated age) (saturated n)) refl f
  where
    pick : (b : Bool) → nat_lt (saturated age) (saturated n) ≡ b
        → IsFresh (if b then decided (reuse.Fresh (saturated n - saturated age)) by
        else stale r c by).reuse
        → saturated age < saturated n
    pick true e f = ltb-true _ _ e
    pick false e f = absurd (stale_not_fresh r c by f)

aged_young : (r : CacheRules) (c : CacheKind) (n : ℕ) (by : Cause) (age : ℕ)
    → saturated age < saturated n
    → aged r c n by age ≡ decided (reuse.Fresh (saturated n - saturated age)) by
aged_young r c n by age h = rw (lt-ltb (saturated age) (saturated n) h) refl

-- the parts of a decision that is fresh
is_fresh : (r : CacheRules) (c : CacheKind) (other : Option ℕ) (age : ℕ)
    → IsFresh (reuse_of r c other age)
    → (refusal r c ≡ None)
    × (r.policy.no_cache ≡ false)
    × (seconds : ℕ)
    × (by : Cause)
    × (lifetime r c other ≡ life.Seconds seconds by)
    × (saturated age < saturated seconds)
is_fresh r c other age f =
    at_refusal (refusal r c) refl f
  where
    at_lifetime : (l : Lifetime) → lifetime r c other ≡ l → IsFresh (by_lifetime r c age l).reuse
        → (seconds : ℕ)
        × (by : Cause)
        × (lifetime r c other ≡ life.Seconds seconds by)
        × (saturated age < saturated seconds)
    at_lifetime (life.Seconds n by) e f = (n, by, e, aged_fresh r c n by age f)
    at_lifetime (life.Invalid by) e f = absurd (stale_not_fresh r c by f)
    at_lifetime life.Unspecified e f = absurd f

    at_no_cache : (b : Bool) → r.policy.no_cache ≡ b
        → IsFresh (if b then decided reuse.MustRevalidate cause.NoCache
        else by_lifetime r c age (lifetime r c other)).reuse
        → (r.policy.no_cache ≡ false)
        × (seconds : ℕ)
        × (by : Cause)
        × (lifetime r c other ≡ life.Seconds seconds by)
        × (saturated age < saturated seconds)
    at_no_cache true e f = absurd f
    at_no_cache false e f =
        let p = at_lifetime (lifetime r c other) refl f in (e, p.0, p.1, p.2, p.3)

    at_refusal : (o : Option Cause) → refusal r c ≡ o
        → IsFresh (unless_refused o (stored r c other age)).reuse
        → (refusal r c ≡ None)
        × (r.policy.no_cache ≡ false)
        × (seconds : ℕ)
        × (by : Cause)
        × (lifetime r c other ≡ life.Seconds seconds by)
        × (saturated age < saturated seconds)
    at_refusal (Some by) e f = absurd f
    at_refusal None e f =
        let p = at_no_cache r.policy.no_cache refl f in (e, p.0, p.1, p.2, p.3, p.4)

-- a decision with these parts
young : (r : CacheRules) (c : CacheKind) (other : Option ℕ) (age seconds : ℕ) (by : Cause)
    → refusal r c ≡ None → r.policy.no_cache ≡ false
    → lifetime r c other ≡ life.Seconds seconds by → saturated age < saturated seconds
    → decision r c other age ≡ decided (reuse.Fresh (saturated seconds - saturated age)) by
young r c other age seconds by refused cached lasts younger =
    let d : stored r c other age ≡ by_lifetime r c age (lifetime r c other) =
    ap (λ b. if b then decided reuse.MustRevalidate cause.NoCache
    else by_lifetime r c age (lifetime r c other)) cached in
    ap (λ o. unless_refused o (stored r c other age)) refused
    ∙ d ∙ ap (by_lifetime r c age) lasts ∙ aged_young r c seconds by age younger

pub fresh_is_younger : law.FreshIsYounger
fresh_is_younger r c other age seconds e =
    let f : IsFresh (reuse_of r c other age) = subst IsFresh (sym e) tt in
    let p = is_fresh r c other age f in
    let same : reuse.Fresh (saturated p.2 - saturated age) ≡ reuse.Fresh seconds =
    sym (ap (λ d. d.reuse) (young r c other age p.2 p.3 p.0 p.1 p.4 p.5)) ∙ e in
    let left : saturated p.2 - saturated age ≡ seconds = cc in
    (p.2, p.3, p.4, p.5, omega (arith, p.5, left))

pub older_is_not_fresher : law.OlderIsNotFresher
older_is_not_fresher r c other age later h f =
    let p = is_fresh r c other later f in
    let younger : saturated age < saturated p.2 = omega (arith, p.5) in
    subst (λ d. IsFresh d.reuse)
    (sym (young r c other age p.2 p.3 p.0 p.1 p.4 younger)) tt

pub invalid_is_not_fresh : law.InvalidIsNotFresh
invalid_is_not_fresh r c other age by e f =
    let p = is_fresh r c other age f in
    let z : life.Invalid by ≡ life.Seconds p.2 p.3 = sym e ∙ p.4 in
    absurd cc

or_false : (a b : Bool) → (a || b) ≡ false → (a ≡ false) × (b ≡ false)
or_false true b h = absurd cc
or_false false b h = (refl, h)

absent : (o : Option ℕ) → is_some o ≡ false → o ≡ None
absent None h = refl
absent (Some n) h = absurd cc

pub invalid_is_not_absent : law.InvalidIsNotAbsent
invalid_is_not_absent r other age = (
  λ h. invalid_is_not_fresh r kind.Private other age cause.InvalidMaxAge (rw h refl),
  λ h s.
      let p = or_false r.invalid_s_maxage (is_some r.policy.s_maxage) s in
      invalid_is_not_fresh r kind.Shared other age cause.InvalidMaxAge
      (rw (p.0, absent r.policy.s_maxage p.1, h) refl),
  λ h. invalid_is_not_fresh r kind.Shared other age cause.InvalidSMaxage (rw h refl),
)

-- a directive that is present is the first match
matched : (invalid : Bool) (a b : Cause) (seconds : Option ℕ) (l m : Lifetime)
    → (invalid || is_some seconds) ≡ true
    → first_match invalid a seconds b l ≡ first_match invalid a seconds b m
matched true a b seconds l m h = refl
matched false a b (Some n) l m h = refl
matched false a b None l m h = absurd cc

same_lifetime : (r : CacheRules) (c : CacheKind) (o p : Option ℕ) (age : ℕ)
    → lifetime r c o ≡ lifetime r c p → decision r c o age ≡ decision r c p age
same_lifetime r c o p age e =
    ap (λ l. unless_refused (refusal r c)
    (if r.policy.no_cache then decided reuse.MustRevalidate cause.NoCache
    else by_lifetime r c age l)) e

pub expires_is_ignored : law.ExpiresIsIgnored
expires_is_ignored r other age = (
  λ c h. same_lifetime r c other None age (by c h),
  λ h. same_lifetime r kind.Shared other None age
      (matched r.invalid_s_maxage cause.InvalidSMaxage cause.SMaxage r.policy.s_maxage
      (private_lifetime r other) (private_lifetime r None) h),
)
  where
    same_private : has_max_age r ≡ true → private_lifetime r other ≡ private_lifetime r None
    same_private h =
        matched r.invalid_max_age cause.InvalidMaxAge cause.MaxAge r.policy.max_age
        (other_lifetime other) (other_lifetime None) h

    by : (c : CacheKind) → has_max_age r ≡ true → lifetime r c other ≡ lifetime r c None
    by kind.Private h = same_private h
    by kind.Shared h =
        ap (first_match r.invalid_s_maxage cause.InvalidSMaxage r.policy.s_maxage cause.SMaxage)
        (same_private h)

and_false : (a : Bool) → (a && false) ≡ false
and_false true = refl
and_false false = refl

pub others_do_not_decide : law.OthersDoNotDecide
others_do_not_decide r other age seconds a b c d = (
  λ k. by k,
  rw (and_false b, and_false r.policy.is_private) refl,
)
  where
    by : (k : CacheKind)
        → decision (record r { is_public = a }) k other age ≡ decision r k other age
    by kind.Shared = refl
    by kind.Private = refl
