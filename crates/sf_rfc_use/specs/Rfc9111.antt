-- RFC 9111 sections 1.2.2, 3, 3.5, 4.2, 4.2.1, 4.2.4, 5.2, 5.2.2, 5.2.3 and 5.3, sentence by
-- sentence: what the directives of a response require of a cache that stores it and uses it again.
-- Above each definition are the sentences that it states. Left out are those that ask something of
-- who sends a response, those about requests, methods, status codes and other fields, and those
-- that only explain.
use Rattle.std.specs.Prelude.{◌≡◌, ◌≢◌, ◌⊎◌, ℕ, ◌+◌, ◌-◌, ◌*◌, ◌<◌, ◌≤◌, min, Bool, true, false}
use Rattle.std.specs.Prelude.{List, [], ◌∷◌, map, codes, Option, Some, None}
use Rattle.std.specs.Char.{to_ascii_lowercase}

-- 5.2: "Cache directives are identified by a token, [..] and have an optional argument"
pub record Directive : Type 0 where
  pub name : List ℕ
  pub argument : Option (List ℕ)

-- 5.2: "to be compared case-insensitively"
abbrev pub IsNamed : List ℕ → Directive → Type 0
IsNamed name d = map to_ascii_lowercase d.name ≡ map to_ascii_lowercase name

-- it holds of a directive that is present, and of each one
abbrev pub SomeOf : (Directive → Type 0) → List Directive → Type 0
SomeOf P [] = ⊥
SomeOf P (d ∷ ds) = P d ⊎ SomeOf P ds

abbrev pub EachOf : (Directive → Type 0) → List Directive → Type 0
EachOf P [] = Unit {0}
EachOf P (d ∷ ds) = P d × EachOf P ds

abbrev pub IsPresent : List ℕ → List Directive → Type 0
IsPresent name ds = SomeOf (IsNamed name) ds

-- 5.2.2.4, 5.2.2.7: "in its unqualified form (without an argument)"; "The qualified form of the
-- [..] directive, with an argument that lists one or more field names"
abbrev pub IsUnqualified : List ℕ → List Directive → Type 0
IsUnqualified name ds = SomeOf (λ d. IsNamed name d × (d.argument ≡ None)) ds

abbrev pub IsQualified : List ℕ → List Directive → Type 0
IsQualified name ds = SomeOf (λ d. IsNamed name d × (d.argument ≢ None)) ds

-- what a cache knows: whether it is shared (1), whether "the cache understands the response status
-- code" (3), the response's age (4.2.3), and "the Expires response header field [..] minus the
-- value of the Date response header field" (4.2.1), if it is present
pub record Situation : Type 0 where
  pub shared : Bool
  pub understands : Bool
  pub age : ℕ
  pub expires : Option ℕ

-- 1.2.2: "If a cache receives a delta-seconds value greater than the greatest integer it can
-- represent, or if any of its subsequent calculations overflows, the cache MUST consider the value
-- to be 2147483648 (2^31)"
abbrev pub considered : ℕ → ℕ
considered n = min n 2147483648

-- 1.2.2: "The delta-seconds rule specifies a non-negative integer, representing time in seconds.
-- delta-seconds = 1*DIGIT"
abbrev pub AreDigits : List ℕ → Type 0
AreDigits [] = Unit {0}
AreDigits (b ∷ t) = ((48 ≤ b) × (b ≤ 57)) × AreDigits t

abbrev pub number_after : ℕ → List ℕ → ℕ
number_after n [] = n
number_after n (b ∷ t) = number_after (10 * n + (b - 48)) t

abbrev pub IsDeltaSeconds : List ℕ → ℕ → Type 0
IsDeltaSeconds t n = (t ≢ []) × AreDigits t × (n ≡ considered (number_after 0 t))

abbrev pub Sets : ℕ → Directive → Type 0
Sets n d = (t : List ℕ) × (d.argument ≡ Some t) × IsDeltaSeconds t n

-- 4.2.1: "When there is more than one value present for a given directive [..], either the first
-- occurrence should be used or the response should be considered stale. [..] Caches are encouraged
-- to consider responses that have invalid freshness information [..] to be stale.": the value of a
-- directive that is present, if each of its occurrences has it
abbrev pub HasValue : List ℕ → List Directive → ℕ → Type 0
HasValue name ds n = IsPresent name ds × EachOf (λ d. IsNamed name d → Sets n d) ds

-- 3: "A cache MUST NOT store a response to a request unless: [..] if [..] the must-understand cache
-- directive [..] is present: the cache understands the response status code; the no-store cache
-- directive is not present in the response [..]; if the cache is shared: the private response
-- directive is either not present or allows a shared cache to store a modified response"
-- 5.2.2.5: "The no-store response directive indicates that a cache MUST NOT store any part of
-- either the immediate request or the response and MUST NOT use the response to satisfy any other
-- request."
-- 5.2.2.7: "The unqualified private response directive indicates that a shared cache MUST NOT
-- store the response"
-- 5.2.2.3: "When a cache that implements the must-understand directive receives a response that
-- includes it, the cache SHOULD ignore the no-store directive if it understands and implements the
-- status code's caching requirements."
pub record MayStore (s : Situation) (ds : List Directive) : Type 0 where
  pub understood : IsPresent (codes "must-understand") ds → s.understands ≡ true
  pub no_store :
      IsPresent (codes "no-store") ds
      → IsPresent (codes "must-understand") ds × (s.understands ≡ true)
  pub is_private : s.shared ≡ true → IsUnqualified (codes "private") ds → ⊥

-- 4.2.1: "by evaluating the following rules and using the first match: If the cache is shared and
-- the s-maxage response directive [..] is present, use its value, or If the max-age response
-- directive [..] is present, use its value, or If the Expires response header field [..] is
-- present, use its value minus the value of the Date response header field"
-- 5.2.2.10: "for a shared cache, the maximum age specified by this directive overrides the maximum
-- age specified by either the max-age directive or the Expires header field"
abbrev pub IsForShared : Situation → List Directive → Type 0
IsForShared s ds = (s.shared ≡ true) × IsPresent (codes "s-maxage") ds

abbrev pub IsLifetime : Situation → List Directive → ℕ → Type 0
IsLifetime s ds n =
    ((s.shared ≡ true) × HasValue (codes "s-maxage") ds n)
    ⊎ (((IsForShared s ds → ⊥) × HasValue (codes "max-age") ds n)
    ⊎ ((IsForShared s ds → ⊥)
    × (IsPresent (codes "max-age") ds → ⊥)
    × (s.expires ≡ Some n)))

-- 4.2.1: "Otherwise, no explicit expiration time is present in the response.": it is present if one
-- of the other rules matches
abbrev pub HasExplicitTime : Situation → List Directive → Type 0
HasExplicitTime s ds =
    IsForShared s ds ⊎ (IsPresent (codes "max-age") ds ⊎ (s.expires ≢ None))

-- 4.2: "response_is_fresh = (freshness_lifetime > current_age)"
abbrev pub IsFreshBy : Situation → ℕ → Type 0
IsFreshBy s lifetime = considered s.age < considered lifetime

-- 4.2.4: "A "stale" response is one that either has explicit expiry information or is allowed to
-- have heuristic expiry calculated, but is not fresh according to the calculations in Section 4.2."
-- 4.2.1: "Caches are encouraged to consider responses that have invalid freshness information [..]
-- to be stale.": one without a lifetime by the rule that matches is not fresh by any
abbrev pub IsStale : Situation → List Directive → Type 0
IsStale s ds = HasExplicitTime s ds × ((n : ℕ) → IsLifetime s ds n → IsFreshBy s n → ⊥)

-- 5.2.2.1: "the response is to be considered stale after its age is greater than the specified
-- number of seconds"
abbrev pub IsOlder : Situation → ℕ → Type 0
IsOlder s seconds = considered seconds < considered s.age

-- 5.3: "If a response includes a Cache-Control header field with the max-age directive [..], a
-- recipient MUST ignore the Expires header field. Likewise, if a response includes the s-maxage
-- directive [..], a shared cache recipient MUST ignore the Expires header field."
abbrev pub IgnoresExpires : Situation → List Directive → Type 0
IgnoresExpires s ds = IsPresent (codes "max-age") ds ⊎ IsForShared s ds

-- 5.2.2.4: "the response MUST NOT be used to satisfy any other request without forwarding it for
-- validation and receiving a successful response"
abbrev pub MustValidate : List Directive → Type 0
MustValidate ds = IsUnqualified (codes "no-cache") ds

-- 4.2.4: "A cache MUST NOT generate a stale response if it is prohibited by an explicit in-protocol
-- directive (e.g., by a no-cache response directive, a must-revalidate response directive, or an
-- applicable s-maxage or proxy-revalidate response directive; see Section 5.2.2)."
-- 5.2.2.2: "once the response has become stale, a cache MUST NOT reuse that response to satisfy
-- another request until it has been successfully validated by the origin [..]. In all
-- circumstances, a cache MUST NOT ignore the must-revalidate directive; in particular, if a cache
-- is disconnected, the cache MUST generate an error response rather than reuse the stale response."
-- 5.2.2.8: "once the response has become stale, a shared cache MUST NOT reuse that response [..]
-- proxy-revalidate does not apply to private caches."
-- 5.2.2.10: "A shared cache MUST NOT reuse a stale response with s-maxage to satisfy another
-- request until it has been successfully validated by the origin"
abbrev pub ProhibitsStale : Situation → List Directive → Type 0
ProhibitsStale s ds =
    IsPresent (codes "must-revalidate") ds
    ⊎ (((s.shared ≡ true) × IsPresent (codes "proxy-revalidate") ds)
    ⊎ (((s.shared ≡ true) × IsPresent (codes "s-maxage") ds) ⊎ MustValidate ds))

-- 3: "the response contains at least one of the following: a public response directive [..]; a
-- private response directive, if the cache is not shared [..]; [..] a max-age response directive
-- [..]; if the cache is shared: an s-maxage response directive"
abbrev pub AllowsStoring : Situation → List Directive → Type 0
AllowsStoring s ds =
    IsPresent (codes "public") ds
    ⊎ (((s.shared ≡ false) × IsPresent (codes "private") ds)
    ⊎ (IsPresent (codes "max-age") ds
    ⊎ ((s.shared ≡ true) × IsPresent (codes "s-maxage") ds)))

-- 3.5: "A shared cache MUST NOT use a cached response to a request with an Authorization header
-- field [..] unless the response contains a Cache-Control field with a response directive [..] that
-- allows it to be stored by a shared cache [..]. In this specification, the following response
-- directives have such an effect: must-revalidate [..], public [..], and s-maxage"
abbrev pub AllowsAuthorized : List Directive → Type 0
AllowsAuthorized ds =
    IsPresent (codes "must-revalidate") ds
    ⊎ (IsPresent (codes "public") ds ⊎ IsPresent (codes "s-maxage") ds)

-- 5.2.3: "A cache MUST ignore unrecognized cache directives.": those that are none of these
pub record IsUnrecognized (d : Directive) : Type 0 where
  pub max_age : IsNamed (codes "max-age") d → ⊥
  pub s_maxage : IsNamed (codes "s-maxage") d → ⊥
  pub must_revalidate : IsNamed (codes "must-revalidate") d → ⊥
  pub no_store : IsNamed (codes "no-store") d → ⊥
  pub no_cache : IsNamed (codes "no-cache") d → ⊥
  pub is_private : IsNamed (codes "private") d → ⊥
  pub proxy_revalidate : IsNamed (codes "proxy-revalidate") d → ⊥
  pub must_understand : IsNamed (codes "must-understand") d → ⊥
  pub is_public : IsNamed (codes "public") d → ⊥
