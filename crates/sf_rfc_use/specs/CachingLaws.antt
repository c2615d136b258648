-- What it means that a cache decides as RFC 9111 states.
use Rattle.std.specs.Prelude.{◌≡◌, ◌≢◌, ◌⊎◌, ◌↔◌, ℕ, ◌+◌, Bool, true, false, if◌then◌else◌}
use Rattle.std.specs.Prelude.{List, ◌∷◌, ◌++◌, map, codes, Option}
use Rattle.sf_use.specs.declared.caching.CacheKind.{CacheKind}
use Rattle.sf_use.specs.declared.caching.CacheKind.TheVariants as kind
use Rattle.sf_use.specs.declared.caching.CacheRules.{CacheRules}
use Rattle.sf_use.specs.declared.caching.Reuse.{Reuse}
use Rattle.sf_use.specs.declared.caching.Reuse.TheVariants as reuse
use Rattle.sf_use.specs.CacheControl.{CacheDirective, SpellsCacheControl, cache_rules}
use Rattle.sf_use.specs.Caching.{is_shared, permits_authorized, permits_storing, understood}
use Rattle.sf_use.specs.CachingLaws.{reuse_of}
use Rattle.sf_rfc_use.specs.Rfc9111.{AllowsAuthorized, AllowsStoring, Directive, HasExplicitTime}
use Rattle.sf_rfc_use.specs.Rfc9111.{HasValue, IgnoresExpires, IsForShared, IsFreshBy, IsLifetime}
use Rattle.sf_rfc_use.specs.Rfc9111.{IsOlder, IsPresent, IsQualified, IsStale, IsUnrecognized}
use Rattle.sf_rfc_use.specs.Rfc9111.{MayStore, MustValidate, ProhibitsStale, Situation, considered}

-- the directives as the RFC's
abbrev pub as_directive : CacheDirective → Directive
as_directive d = record { name = d.name; argument = d.argument }

abbrev pub as_directives : List CacheDirective → List Directive
as_directives ds = map as_directive ds

-- how a response with these directives is used
abbrev pub kind_of : Bool → CacheKind
kind_of true = kind.Shared
kind_of false = kind.Private

abbrev pub rules_of : Situation → List CacheDirective → CacheRules
rules_of s ds = if s.understands then understood (cache_rules ds) else cache_rules ds

abbrev pub use_of : Situation → List CacheDirective → Reuse
use_of s ds = reuse_of (rules_of s ds) (kind_of s.shared) s.expires s.age

-- for all directives, caches, ages and Expires: what is stored may be stored. Ours: private with
-- field names counts as without them, so a shared cache does not store what it may, but only then
abbrev pub StoredAsAllowed : Type 0
StoredAsAllowed =
    (s : Situation) (ds : List CacheDirective)
    → (use_of s ds ≢ reuse.NotStored → MayStore s (as_directives ds))
    × (MayStore s (as_directives ds) → use_of s ds ≡ reuse.NotStored
    → (s.shared ≡ true) × IsQualified (codes "private") (as_directives ds))

-- what permits a cache to store the response
abbrev pub StoringAsAllowed : Type 0
StoringAsAllowed =
    (s : Situation) (ds : List CacheDirective)
    → (permits_storing (cache_rules ds) (kind_of s.shared) ≡ true)
    ↔ AllowsStoring s (as_directives ds)

-- a response that must be validated is never fresh or stale
abbrev pub ValidatedAsRequired : Type 0
ValidatedAsRequired =
    (s : Situation) (ds : List CacheDirective)
    → MustValidate (as_directives ds)
    → (use_of s ds ≡ reuse.NotStored) ⊎ (use_of s ds ≡ reuse.MustRevalidate)

-- a stale response is served only if no directive prohibits it
abbrev pub StaleAsPermitted : Type 0
StaleAsPermitted =
    (s : Situation) (ds : List CacheDirective)
    → use_of s ds ≡ reuse.Stale → ProhibitsStale s (as_directives ds) → ⊥

-- a response that is used as fresh is so by its lifetime, for as many seconds as are left of it
abbrev pub FreshAsCalculated : Type 0
FreshAsCalculated =
    (s : Situation) (ds : List CacheDirective) (left : ℕ)
    → use_of s ds ≡ reuse.Fresh left
    → (lifetime : ℕ)
    × IsLifetime s (as_directives ds) lifetime
    × IsFreshBy s lifetime
    × (considered s.age + left ≡ considered lifetime)

-- a response that is fresh by its lifetime is used so. Ours: with no-cache it is not, also with
-- field names ("the most restrictive directive should be honored", 4.2.1), nor if it is not stored
abbrev pub FreshIsUsed : Type 0
FreshIsUsed =
    (s : Situation) (ds : List CacheDirective) (lifetime left : ℕ)
    → IsLifetime s (as_directives ds) lifetime
    → IsFreshBy s lifetime
    → considered s.age + left ≡ considered lifetime
    → (use_of s ds ≡ reuse.Fresh left)
    ⊎ ((use_of s ds ≡ reuse.NotStored) ⊎ IsPresent (codes "no-cache") (as_directives ds))

-- a response that is used as stale is stale; and a stale one is used so, or not without validation,
-- or not stored. Ours: of what section 4.2.1 leaves open, one with invalid freshness information,
-- or with more than one value of the directive that sets its lifetime, is stale
abbrev pub StaleAsCalculated : Type 0
StaleAsCalculated =
    (s : Situation) (ds : List CacheDirective)
    → (use_of s ds ≡ reuse.Stale → IsStale s (as_directives ds))
    × (IsStale s (as_directives ds)
    → (use_of s ds ≡ reuse.Stale)
    ⊎ ((use_of s ds ≡ reuse.MustRevalidate) ⊎ (use_of s ds ≡ reuse.NotStored)))

-- a response is validated only if that is required. Ours: no-cache with field names counts as
-- without them, while section 5.2.2.4 permits to use such a response without these fields
abbrev pub ValidatedOnlyAsRequired : Type 0
ValidatedOnlyAsRequired =
    (s : Situation) (ds : List CacheDirective)
    → use_of s ds ≡ reuse.MustRevalidate
    → IsPresent (codes "no-cache") (as_directives ds)
    ⊎ (IsStale s (as_directives ds) × ProhibitsStale s (as_directives ds))

-- nothing is decided exactly if no explicit expiration time is present, unless the response is not
-- stored or has no-cache
abbrev pub UnspecifiedAsStated : Type 0
UnspecifiedAsStated =
    (s : Situation) (ds : List CacheDirective)
    → (use_of s ds ≡ reuse.Unspecified → HasExplicitTime s (as_directives ds) → ⊥)
    × ((HasExplicitTime s (as_directives ds) → ⊥)
    → (use_of s ds ≡ reuse.Unspecified)
    ⊎ ((use_of s ds ≡ reuse.NotStored) ⊎ IsPresent (codes "no-cache") (as_directives ds)))

-- after its age is greater than max-age, a response is not fresh. Ours: nor when it is equal, by
-- the formula of section 4.2, while by section 5.2.2.1 it would be stale only afterwards
abbrev pub MaxAgeAsStated : Type 0
MaxAgeAsStated =
    (s : Situation) (ds : List CacheDirective) (n left : ℕ)
    → HasValue (codes "max-age") (as_directives ds) n
    → (IsForShared s (as_directives ds) → ⊥)
    → use_of s ds ≡ reuse.Fresh left
    → (IsOlder s n → ⊥) × (considered s.age ≢ considered n)

-- Expires changes nothing where it is ignored
abbrev pub ExpiresAsStated : Type 0
ExpiresAsStated =
    (s : Situation) (ds : List CacheDirective) (other : Option ℕ)
    → IgnoresExpires s (as_directives ds)
    → use_of s ds ≡ use_of (record s { expires = other }) ds

-- a directive that is not recognized changes nothing, wherever it is in the list
abbrev pub UnrecognizedIgnored : Type 0
UnrecognizedIgnored =
    (before after : List CacheDirective) (d : CacheDirective)
    → IsUnrecognized (as_directive d)
    → cache_rules (before ++ d ∷ after) ≡ cache_rules (before ++ after)

-- what permits a shared cache to use the response to a request with Authorization
abbrev pub AuthorizedAsAllowed : Type 0
AuthorizedAsAllowed =
    (ds : List CacheDirective)
    → (permits_authorized (cache_rules ds) ≡ true) ↔ AllowsAuthorized (as_directives ds)

-- how a cache uses a response, by the sentences of the RFC and the choices above
abbrev pub IsUse : Situation → List Directive → Reuse → Type 0
IsUse s ds reuse.NotStored =
    MayStore s ds → (s.shared ≡ true) × IsQualified (codes "private") ds
IsUse s ds (reuse.Fresh left) =
    MayStore s ds
    × (MustValidate ds → ⊥)
    × (lifetime : ℕ)
    × IsLifetime s ds lifetime
    × IsFreshBy s lifetime
    × (considered s.age + left ≡ considered lifetime)
IsUse s ds reuse.Stale = MayStore s ds × IsStale s ds × (ProhibitsStale s ds → ⊥)
IsUse s ds reuse.MustRevalidate =
    MayStore s ds
    × (IsPresent (codes "no-cache") ds ⊎ (IsStale s ds × ProhibitsStale s ds))
IsUse s ds reuse.Unspecified =
    MayStore s ds × (MustValidate ds → ⊥) × (HasExplicitTime s ds → ⊥)

-- all of these together, for one response
abbrev pub UsedAsStated : Type 0
UsedAsStated =
    (s : Situation) (ds : List CacheDirective) → IsUse s (as_directives ds) (use_of s ds)

-- what a cache of this kind knows
abbrev pub situation : CacheKind → Bool → ℕ → Option ℕ → Situation
situation cache understands age expires = record {
  shared = is_shared cache;
  understands = understands;
  age = age;
  expires = expires;
}

-- the response with this text of Cache-Control is used so
abbrev pub IsUseOfText : Situation → List ℕ → Reuse → Type 0
IsUseOfText s t how =
    (ds : List CacheDirective) × SpellsCacheControl t ds × IsUse s (as_directives ds) how
