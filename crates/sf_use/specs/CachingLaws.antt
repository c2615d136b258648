-- The laws of what a cache decides: sentences of RFC 9111, whose sections are named, each about all
-- directives, caches, other lifetimes and ages. Each is the contract of a function in
-- `src/laws.rt`.
use Rattle.std.specs.Prelude.{◌≡◌, ◌≢◌, ℕ, ◌+◌, ◌<◌, ◌≤◌, Bool, true, false, Option, Some, None}
use Rattle.sf_use.specs.declared.caching.CacheKind.{CacheKind}
use Rattle.sf_use.specs.declared.caching.CacheKind.TheVariants as kind
use Rattle.sf_use.specs.declared.caching.CacheRules.{CacheRules}
use Rattle.sf_use.specs.declared.caching.Cause.{Cause}
use Rattle.sf_use.specs.declared.caching.Lifetime.TheVariants as life
use Rattle.sf_use.specs.declared.caching.Reuse.{Reuse}
use Rattle.sf_use.specs.declared.caching.Reuse.TheVariants as reuse
use Rattle.sf_use.specs.Caching.{decision, has_max_age, has_s_maxage, lifetime, saturated}
use Rattle.sf_use.specs.Caching.{understood}

-- what is decided of how the response is used
abbrev pub reuse_of : CacheRules → CacheKind → Option ℕ → ℕ → Reuse
reuse_of r c other age = (decision r c other age).reuse

-- it is used without validation
abbrev pub IsFresh : Reuse → Type 0
IsFresh (reuse.Fresh seconds) = Unit {0}
IsFresh how = ⊥

-- it is not used without validation, whoever would permit it
abbrev pub IsValidated : Reuse → Type 0
IsValidated reuse.NotStored = Unit {0}
IsValidated reuse.MustRevalidate = Unit {0}
IsValidated how = ⊥

-- "a cache MUST NOT store any part of either the immediate request or the response" (5.2.2.5)
abbrev pub NoStoreIsNotStored : Type 0
NoStoreIsNotStored =
    (r : CacheRules) (c : CacheKind) (other : Option ℕ) (age : ℕ)
    → r.policy.no_store ≡ true → reuse_of r c other age ≡ reuse.NotStored

-- "a shared cache MUST NOT store the response" (5.2.2.7)
abbrev pub PrivateIsNotShared : Type 0
PrivateIsNotShared =
    (r : CacheRules) (other : Option ℕ) (age : ℕ)
    → r.policy.is_private ≡ true → reuse_of r kind.Shared other age ≡ reuse.NotStored

-- "limits caching of the response to a cache that understands and conforms to the requirements for
-- that response's status code" (5.2.2.3)
abbrev pub MustBeUnderstood : Type 0
MustBeUnderstood =
    (r : CacheRules) (c : CacheKind) (other : Option ℕ) (age : ℕ)
    → r.must_understand ≡ true → reuse_of r c other age ≡ reuse.NotStored

-- no-store stays in force for a cache that understands the status code, unless must-understand is
-- present (5.2.2.3, 5.2.2.5)
abbrev pub NoStoreAlone : Type 0
NoStoreAlone =
    (r : CacheRules) (c : CacheKind) (other : Option ℕ) (age : ℕ)
    → r.must_understand ≡ false → decision (understood r) c other age ≡ decision r c other age

-- "the response MUST NOT be used to satisfy any other request without forwarding it for validation"
-- (5.2.2.4)
abbrev pub NoCacheIsValidated : Type 0
NoCacheIsValidated =
    (r : CacheRules) (c : CacheKind) (other : Option ℕ) (age : ℕ)
    → r.policy.no_cache ≡ true → IsValidated (reuse_of r c other age)

-- "once the response has become stale, a cache MUST NOT reuse that response to satisfy another
-- request until it has been successfully validated by the origin" (5.2.2.2)
abbrev pub MustRevalidateIsNotServedStale : Type 0
MustRevalidateIsNotServedStale =
    (r : CacheRules) (c : CacheKind) (other : Option ℕ) (age : ℕ)
    → r.policy.must_revalidate ≡ true → reuse_of r c other age ≢ reuse.Stale

-- "once the response has become stale, a shared cache MUST NOT reuse that response" (5.2.2.8)
abbrev pub ProxyRevalidateIsNotServedStale : Type 0
ProxyRevalidateIsNotServedStale =
    (r : CacheRules) (other : Option ℕ) (age : ℕ)
    → r.proxy_revalidate ≡ true → reuse_of r kind.Shared other age ≢ reuse.Stale

-- "A shared cache MUST NOT reuse a stale response with s-maxage" (5.2.2.10)
abbrev pub SMaxageIsNotServedStale : Type 0
SMaxageIsNotServedStale =
    (r : CacheRules) (other : Option ℕ) (age : ℕ)
    → has_s_maxage r ≡ true → reuse_of r kind.Shared other age ≢ reuse.Stale

-- "response_is_fresh = (freshness_lifetime > current_age)" (4.2), and what is left of the lifetime
abbrev pub FreshIsYounger : Type 0
FreshIsYounger =
    (r : CacheRules) (c : CacheKind) (other : Option ℕ) (age seconds : ℕ)
    → reuse_of r c other age ≡ reuse.Fresh seconds
    → (most : ℕ)
    × (by : Cause)
    × (lifetime r c other ≡ life.Seconds most by)
    × (saturated age < saturated most)
    × (saturated age + seconds ≡ saturated most)

-- "Caches are encouraged to consider responses that have invalid freshness information .. to be
-- stale" (4.2.1): of the directive that the first matching rule names
abbrev pub InvalidIsNotFresh : Type 0
InvalidIsNotFresh =
    (r : CacheRules) (c : CacheKind) (other : Option ℕ) (age : ℕ) (by : Cause)
    → lifetime r c other ≡ life.Invalid by → ¬ IsFresh (reuse_of r c other age)

-- an invalid max-age is not taken as absent, and an invalid s-maxage is not in a shared cache
abbrev pub InvalidIsNotAbsent : Type 0
InvalidIsNotAbsent =
    (r : CacheRules) (other : Option ℕ) (age : ℕ)
    → ((r.invalid_max_age ≡ true → ¬ IsFresh (reuse_of r kind.Private other age))
    × (r.invalid_max_age ≡ true → has_s_maxage r ≡ false
    → ¬ IsFresh (reuse_of r kind.Shared other age))
    × (r.invalid_s_maxage ≡ true → ¬ IsFresh (reuse_of r kind.Shared other age)))

-- a response that is not fresh is not fresh when it is older
abbrev pub OlderIsNotFresher : Type 0
OlderIsNotFresher =
    (r : CacheRules) (c : CacheKind) (other : Option ℕ) (age later : ℕ)
    → age ≤ later → IsFresh (reuse_of r c other later) → IsFresh (reuse_of r c other age)

-- "a recipient MUST ignore the Expires header field", for max-age, and in a shared cache for
-- s-maxage (5.3)
abbrev pub ExpiresIsIgnored : Type 0
ExpiresIsIgnored =
    (r : CacheRules) (other : Option ℕ) (age : ℕ)
    → ((c : CacheKind) → has_max_age r ≡ true
    → decision r c other age ≡ decision r c None age)
    × (has_s_maxage r ≡ true
    → decision r kind.Shared other age ≡ decision r kind.Shared None age)

-- a private cache takes no notice of s-maxage, proxy-revalidate and private, which are for shared
-- caches (5.2.2.7, 5.2.2.8, 5.2.2.10), and no decision depends on public
abbrev pub OthersDoNotDecide : Type 0
OthersDoNotDecide =
    (r : CacheRules) (other : Option ℕ) (age : ℕ) (seconds : Option ℕ) (a b c d : Bool)
    → ((k : CacheKind)
    → decision (record r { is_public = a }) k other age ≡ decision r k other age)
    × (decision
    (record r {
      policy = record r.policy { s_maxage = seconds; is_private = b };
      invalid_s_maxage = c;
      proxy_revalidate = d;
    }) kind.Private other age
    ≡ decision r kind.Private other age)
