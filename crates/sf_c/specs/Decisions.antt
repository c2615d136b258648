-- What a cache decides about a response, as structs (RFC 9111 sections 3 and 4.2).
use Rattle.std.specs.Prelude.{◌≡◌, ℕ, ◌==◌, ◌&&◌, ◌||◌, not, if◌then◌else◌, Bool, true, false}
use Rattle.std.specs.Prelude.{Option, Some, None}
use Rattle.sf_use.specs.declared.caching.CacheKind.{CacheKind}
use Rattle.sf_use.specs.declared.caching.CacheKind.TheVariants.{Shared, Private}
use Rattle.sf_use.specs.declared.caching.CacheRules.{CacheRules}
use Rattle.sf_use.specs.declared.caching.Cause.{Cause}
use Rattle.sf_use.specs.declared.caching.Cause.TheVariants as cause
use Rattle.sf_use.specs.declared.caching.Decision.{Decision}
use Rattle.sf_use.specs.declared.caching.Reuse.{Reuse}
use Rattle.sf_use.specs.declared.caching.Reuse.TheVariants as reuse
use Rattle.sf_use.specs.Caching.{decision, permits_authorized, permits_storing, understood}
use Rattle.sf_c.specs.declared.decide.DecisionFlags.{DecisionFlags}
use Rattle.sf_c.specs.declared.decide.Response.{Response}
use Rattle.sf_c.specs.declared.cache_rules.RulesFlags.{RulesFlags}
use Rattle.sf_c.specs.declared.status.Status.{Status}
use Rattle.sf_c.specs.declared.status.Status.TheVariants.{Answered, BadCall, Invalid}
use Rattle.sf_c.specs.Policies.{seconds_at}
use Rattle.sf_c.specs.Refusals.{flag_number}
use Rattle.sf_c.specs.Rules.{rules_by}

-- the kind of a cache of a number
abbrev pub cache_at : ℕ → Option CacheKind
cache_at n = if n == 31 then Some Shared else (if n == 32 then Some Private else None)

-- how a response may be used, as a number
abbrev pub reuse_number : Reuse → ℕ
reuse_number reuse.NotStored = 41
reuse_number (reuse.Fresh seconds) = 42
reuse_number reuse.Stale = 43
reuse_number reuse.MustRevalidate = 44
reuse_number reuse.Unspecified = 45

-- for how long it stays fresh; 0 if it isn't
abbrev pub fresh_seconds : Reuse → ℕ
fresh_seconds (reuse.Fresh seconds) = seconds
fresh_seconds r = 0

-- the directive that decided, as a number
abbrev pub cause_number : Cause → ℕ
cause_number cause.Nothing = 51
cause_number cause.NoStore = 52
cause_number cause.Private = 53
cause_number cause.MustUnderstand = 54
cause_number cause.NoCache = 55
cause_number cause.MaxAge = 56
cause_number cause.SMaxage = 57
cause_number cause.InvalidMaxAge = 58
cause_number cause.InvalidSMaxage = 59
cause_number cause.Expires = 60
cause_number cause.MustRevalidate = 61
cause_number cause.ProxyRevalidate = 62

-- the struct has the decision
abbrev pub SaysDecision : DecisionFlags → Decision → Type 0
SaysDecision n d =
    (n.seconds ≡ fresh_seconds d.reuse)
    × (n.reuse ≡ reuse_number d.reuse)
    × (n.cause ≡ cause_number d.by)

-- the lifetime by Expires, or by a heuristic
abbrev pub other_lifetime : Response → Option ℕ
other_lifetime r = seconds_at r.has_lifetime r.lifetime

-- the directives that count: those of a cache that understands the status code, if it does
abbrev pub rules_for : Response → CacheRules → CacheRules
rules_for r rules = if r.is_understood == 0 then rules else understood rules

-- seconds that the flag does not set
abbrev pub are_unset : ℕ → ℕ → Bool
are_unset says n = (says == 0) && not (n == 0)

-- a struct has seconds that it does not set, so that they would not count
abbrev pub has_unset_seconds : RulesFlags → Response → Bool
has_unset_seconds n r =
    are_unset n.policy.has_max_age n.policy.max_age
    || are_unset n.policy.has_s_maxage n.policy.s_maxage
    || are_unset r.has_lifetime r.lifetime

-- the decision of a cache by its rules
abbrev pub DecidesBy : DecisionFlags → CacheRules → CacheKind → Response → Type 0
DecidesBy new rules cache r =
    SaysDecision new (decision rules cache (other_lifetime r) r.age)
    × (new.allows_storing ≡ flag_number (permits_storing rules cache))
    × (new.allows_authorized ≡ flag_number (permits_authorized rules))

-- the decision by the directives that count; or there is no such kind of a cache; or the structs
-- have seconds that they do not set. Unless it is decided, everything is unchanged
abbrev pub Decides : DecisionFlags → DecisionFlags → RulesFlags → Option CacheKind → Response
    → Option Status → Type 0
Decides old new n (Some cache) r (Some Answered) =
    (has_unset_seconds n r ≡ false) × DecidesBy new (rules_for r (rules_by n)) cache r
Decides old new n (Some cache) r (Some Invalid) = (has_unset_seconds n r ≡ true) × (new ≡ old)
Decides old new n (Some cache) r status = ⊥
Decides old new n None r status = (status ≡ Some BadCall) × (new ≡ old)
