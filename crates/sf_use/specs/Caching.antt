-- What a cache decides about a response by its directives, its age and the kind of the cache. The
-- sections named are those of RFC 9111.
use Rattle.std.specs.Prelude.{ℕ, ◌-◌, ◌^◌, min, nat_lt, if◌then◌else◌, Bool, true, false}
use Rattle.std.specs.Prelude.{◌&&◌, ◌||◌, not, Option, Some, None, is_some}
use Rattle.sf_use.specs.declared.targeted.Policy.{Policy}
use Rattle.sf_use.specs.declared.caching.CacheKind.{CacheKind}
use Rattle.sf_use.specs.declared.caching.CacheKind.TheVariants as kind
use Rattle.sf_use.specs.declared.caching.CacheRules.{CacheRules}
use Rattle.sf_use.specs.declared.caching.Cause.{Cause}
use Rattle.sf_use.specs.declared.caching.Cause.TheVariants as cause
use Rattle.sf_use.specs.declared.caching.Decision.{Decision}
use Rattle.sf_use.specs.declared.caching.Lifetime.{Lifetime}
use Rattle.sf_use.specs.declared.caching.Lifetime.TheVariants as life
use Rattle.sf_use.specs.declared.caching.Reuse.{Reuse}
use Rattle.sf_use.specs.declared.caching.Reuse.TheVariants as reuse

-- a number of seconds "greater than the greatest integer it can represent" is 2147483648 (1.2.2);
-- the choice of that number is ours, so that all caches decide the same
abbrev pub saturated : ℕ → ℕ
saturated n = min n 2147483648

abbrev pub is_shared : CacheKind → Bool
is_shared kind.Shared = true
is_shared kind.Private = false

-- the directive is present, even if it can't be used
abbrev pub has_max_age : CacheRules → Bool
has_max_age r = r.invalid_max_age || is_some r.policy.max_age

abbrev pub has_s_maxage : CacheRules → Bool
has_s_maxage r = r.invalid_s_maxage || is_some r.policy.s_maxage

-- the lifetime by a directive that may be invalid, set or absent; if it is absent, by the next rule
abbrev pub first_match : Bool → Cause → Option ℕ → Cause → Lifetime → Lifetime
first_match true invalid seconds by next = life.Invalid invalid
first_match false invalid (Some n) by next = life.Seconds n by
first_match false invalid None by next = next

-- "Expires .. minus the value of the Date response header field" or a heuristic (4.2.1, 4.2.2)
abbrev pub other_lifetime : Option ℕ → Lifetime
other_lifetime (Some n) = life.Seconds n cause.Expires
other_lifetime None = life.Unspecified

-- "If the max-age response directive is present, use its value" (4.2.1)
abbrev pub private_lifetime : CacheRules → Option ℕ → Lifetime
private_lifetime r other =
    first_match r.invalid_max_age cause.InvalidMaxAge r.policy.max_age cause.MaxAge
    (other_lifetime other)

-- "If the cache is shared and the s-maxage response directive is present, use its value" (4.2.1)
abbrev pub lifetime : CacheRules → CacheKind → Option ℕ → Lifetime
lifetime r kind.Private other = private_lifetime r other
lifetime r kind.Shared other =
    first_match r.invalid_s_maxage cause.InvalidSMaxage r.policy.s_maxage cause.SMaxage
    (private_lifetime r other)

-- "A cache MUST NOT store a response .. unless .. the no-store cache directive is not present", nor
-- private "if the cache is shared", nor must-understand unless "the cache understands the response
-- status code" (3); of several that forbid it, the first in this order is named
abbrev pub refusal : CacheRules → CacheKind → Option Cause
refusal r c =
    if r.policy.no_store then Some cause.NoStore
    else (if r.policy.is_private && is_shared c then Some cause.Private
    else (if r.must_understand then Some cause.MustUnderstand else None))

abbrev pub decided : Reuse → Cause → Decision
decided how by = record { reuse = how; by = by }

-- "A cache MUST NOT generate a stale response if it is prohibited by .. a must-revalidate response
-- directive, or an applicable s-maxage or proxy-revalidate response directive" (4.2.4)
abbrev pub stale : CacheRules → CacheKind → Cause → Decision
stale r c by =
    if r.policy.must_revalidate then decided reuse.MustRevalidate cause.MustRevalidate
    else (if is_shared c && r.proxy_revalidate
    then decided reuse.MustRevalidate cause.ProxyRevalidate
    else (if is_shared c && has_s_maxage r then decided reuse.MustRevalidate by
    else decided reuse.Stale by))

-- "response_is_fresh = (freshness_lifetime > current_age)" (4.2)
abbrev pub aged : CacheRules → CacheKind → ℕ → Cause → ℕ → Decision
aged r c seconds by age =
    if nat_lt (saturated age) (saturated seconds)
    then decided (reuse.Fresh (saturated seconds - saturated age)) by
    else stale r c by

-- by the lifetime; "responses that have invalid freshness information" are stale (4.2.1)
abbrev pub by_lifetime : CacheRules → CacheKind → ℕ → Lifetime → Decision
by_lifetime r c age (life.Seconds n by) = aged r c n by age
by_lifetime r c age (life.Invalid by) = stale r c by
by_lifetime r c age life.Unspecified = decided reuse.Unspecified cause.Nothing

-- no-cache: "the response MUST NOT be used to satisfy any other request without forwarding it for
-- validation" (5.2.2.4), with field names too, which is our choice
abbrev pub stored : CacheRules → CacheKind → Option ℕ → ℕ → Decision
stored r c other age =
    if r.policy.no_cache then decided reuse.MustRevalidate cause.NoCache
    else by_lifetime r c age (lifetime r c other)

abbrev pub unless_refused : Option Cause → Decision → Decision
unless_refused (Some by) d = decided reuse.NotStored by
unless_refused None d = d

-- the decision; "the most restrictive directive should be honored" (4.2.1)
abbrev pub decision : CacheRules → CacheKind → Option ℕ → ℕ → Decision
decision r c other age = unless_refused (refusal r c) (stored r c other age)

-- must-understand: "the cache SHOULD ignore the no-store directive if it understands and implements
-- the status code's caching requirements" (5.2.2.3)
abbrev pub understood : CacheRules → CacheRules
understood r =
    if r.must_understand
    then record r { policy = record r.policy { no_store = false }; must_understand = false }
    else r

-- "the response contains at least one of the following" directives (3)
abbrev pub permits_storing : CacheRules → CacheKind → Bool
permits_storing r kind.Shared = r.is_public || has_max_age r || has_s_maxage r
permits_storing r kind.Private = r.is_public || has_max_age r || r.policy.is_private

-- "the following response directives have such an effect: must-revalidate, public, and s-maxage"
-- (3.5)
abbrev pub permits_authorized : CacheRules → Bool
permits_authorized r = r.policy.must_revalidate || r.is_public || has_s_maxage r
