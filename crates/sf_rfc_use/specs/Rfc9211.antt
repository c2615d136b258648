-- RFC 9211 section 2, sentence by sentence: what a Cache-Status field says. Above each definition
-- are the sentences that it states. Left out are those that ask something of who writes the field,
-- and those that only explain.
use Rattle.std.specs.Prelude.{◌≡◌, ℕ, ℤ, Bool, true, false, List as Seq, [], ◌∷◌, ◌++◌, codes}
use Rattle.std.specs.Prelude.{Option, Some, None}
use Rattle.sf_value.specs.declared.value.Bare.{Bare}
use Rattle.sf_value.specs.declared.value.Bare.TheVariants.{Integer, Text, Token, Boolean}
use Rattle.sf_value.specs.declared.value.Member.{Member}
use Rattle.sf_value.specs.declared.value.Member.TheVariants as member
use Rattle.sf_rfc.specs.Rfc9651.Words.{and_then}
use Rattle.sf_rfc_use.specs.OrderedMaps.{value_of}

-- 2: "Each List member identifies the cache that inserted it, and this identifier MUST be a String
-- or Token."
-- 2.8: "The value of "detail" is either a String or a Token"
pub data Words : Type 0 where
  AString : Seq ℕ → Words
  AToken : Seq ℕ → Words

-- 2: "Each member of the list can have parameters that describe that cache's handling of the
-- request. While these parameters are OPTIONAL [..]": one is absent, or has a value of the type
-- that its section states. No sentence says what a value of another type means
pub data Parameter (X : Type 0) : Type 0 where
  Absent : Parameter X
  Is : X → Parameter X
  Mistyped : Parameter X

-- 2: "Each member of the List represents a cache that has handled the request.": the cache, and how
-- it handled the request
pub record Handling : Type 0 where
  pub cache : Words
  pub hit : Parameter Bool
  pub fwd : Parameter (Seq ℕ)
  pub fwd_status : Parameter ℤ
  pub ttl : Parameter ℤ
  pub stored : Parameter Bool
  pub collapsed : Parameter Bool
  pub key : Parameter (Seq ℕ)
  pub detail : Parameter Words

-- the values of each type
abbrev pub a_boolean : Bare → Option Bool
a_boolean (Boolean b) = Some b
a_boolean x = None

abbrev pub an_integer : Bare → Option ℤ
an_integer (Integer n) = Some n
an_integer x = None

abbrev pub a_token : Bare → Option (Seq ℕ)
a_token (Token t) = Some t
a_token x = None

abbrev pub a_string : Bare → Option (Seq ℕ)
a_string (Text t) = Some t
a_string x = None

abbrev pub a_string_or_token : Bare → Option Words
a_string_or_token (Text t) = Some (AString t)
a_string_or_token (Token t) = Some (AToken t)
a_string_or_token x = None

-- a value by its type
abbrev pub of_type : {X : Type 0} → Option X → Parameter X
of_type (Some x) = Is x
of_type None = Mistyped

abbrev pub typed : {X : Type 0} → (Bare → Option X) → Option Bare → Parameter X
typed type (Some x) = of_type (type x)
typed type None = Absent

-- 2.1: "The value of "hit" is a Boolean"
-- 2.2: ""fwd" [..]; its value is a Token"
-- 2.3: "The value of "fwd-status" is an Integer"
-- 2.4: "The value of "ttl" is an Integer [..]. It may be negative"
-- 2.5: "The value of "stored" is a Boolean"
-- 2.6: "The value of "collapsed" is a Boolean"
-- 2.7: "The value of "key" is a String"
-- 2.8: "The value of "detail" is either a String or a Token"
abbrev pub described : Words → Seq (Seq ℕ × Bare) → Handling
described cache parameters = record {
  cache = cache;
  hit = typed a_boolean (value_of (codes "hit") parameters);
  fwd = typed a_token (value_of (codes "fwd") parameters);
  fwd_status = typed an_integer (value_of (codes "fwd-status") parameters);
  ttl = typed an_integer (value_of (codes "ttl") parameters);
  stored = typed a_boolean (value_of (codes "stored") parameters);
  collapsed = typed a_boolean (value_of (codes "collapsed") parameters);
  key = typed a_string (value_of (codes "key") parameters);
  detail = typed a_string_or_token (value_of (codes "detail") parameters);
}

-- 2: "Each List member identifies the cache that inserted it, and this identifier MUST be a String
-- or Token.": any other member breaks the rule
abbrev pub handling : Member → Option Handling
handling (member.Item i) = and_then (a_string_or_token i.bare) (λ cache.
    Some (described cache i.params))
handling (member.Inner l) = None

-- 2: "Its value is a List. Each member of the List represents a cache that has handled the request.
-- The first member represents the cache closest to the origin server, and the last member
-- represents the cache closest to the user": in this order
abbrev pub handlings : Seq Member → Option (Seq Handling)
handlings [] = Some []
handlings (m ∷ ms) = and_then (handling m) (λ h. and_then (handlings ms) (λ hs. Some (h ∷ hs)))

-- 2.1: "when true, indicates that the request was satisfied by the cache; that is, it was not
-- forwarded, and the response was obtained from the cache."
abbrev pub IsSatisfied : Handling → Type 0
IsSatisfied h = h.hit ≡ Is true

-- 2.2: ""fwd", when present, indicates that the request went forward towards the origin; its value
-- is a Token that indicates why."
abbrev pub WentForward : Handling → Type 0
WentForward h = (why : Seq ℕ) × (h.fwd ≡ Is why)

-- 2.2: "The following parameter values are defined to explain why the request went forward"
pub data Reason : Type 0 where
  Bypass : Reason
  Method : Reason
  UriMiss : Reason
  VaryMiss : Reason
  Miss : Reason
  Request : Reason
  Stale : Reason
  Partial : Reason

-- 2.2: "bypass: [..] method: [..] uri-miss: [..] vary-miss: [..] miss: [..] request: [..]
-- stale: [..] partial:"
abbrev pub defined : Seq (Seq ℕ × Reason)
defined =
    (codes "bypass", Bypass)
    ∷ (codes "method", Method)
    ∷ (codes "uri-miss", UriMiss)
    ∷ (codes "vary-miss", VaryMiss)
    ∷ (codes "miss", Miss)
    ∷ (codes "request", Request)
    ∷ (codes "stale", Stale)
    ∷ (codes "partial", Partial)
    ∷ []

abbrev pub reason : Seq ℕ → Option Reason
reason token = value_of token defined

-- 2.3: "The value of "fwd-status" is an Integer that indicates which status code [..] the next-hop
-- server returned in response to the forwarded request. The fwd-status parameter is only meaningful
-- when fwd is present. If fwd-status is not present but the fwd parameter is, it defaults to the
-- status code sent in the response."
abbrev pub next_hop_status : ℤ → Parameter (Seq ℕ) → Parameter ℤ → Option ℤ
next_hop_status sent (Is why) (Is n) = Some n
next_hop_status sent (Is why) Absent = Some sent
next_hop_status sent fwd status = None

-- 2.6: "The value of "collapsed" is a Boolean that indicates whether this request was collapsed
-- together with one or more other forward requests [..]. If not present, the request was not
-- collapsed with others. The collapsed parameter is only meaningful when fwd is present."
abbrev pub was_collapsed : Parameter (Seq ℕ) → Parameter Bool → Option Bool
was_collapsed (Is why) (Is b) = Some b
was_collapsed (Is why) Absent = Some false
was_collapsed fwd collapsed = None

-- 2.5: "The value of "stored" is a Boolean that indicates whether the cache stored the response
-- [..]; a true value indicates that it did. The stored parameter is only meaningful when fwd is
-- present."
abbrev pub was_stored : Parameter (Seq ℕ) → Parameter Bool → Option Bool
was_stored (Is why) (Is b) = Some b
was_stored fwd stored = None

-- whether a parameter appears, with a value of whatever type
abbrev pub Appears : {X : Type 0} → Parameter X → Type 0
Appears Absent = ⊥
Appears (Is x) = Unit {0}
Appears Mistyped = Unit {0}

-- 2.1: ""hit" and "fwd" are exclusive; only one of them should appear on each list member."
abbrev pub AreExclusive : Handling → Type 0
AreExclusive h = Appears h.hit → Appears h.fwd → ⊥

-- 2: "When adding a value to the Cache-Status header field, caches SHOULD preserve the existing
-- field value, to allow debugging of the entire chain of caches handling the request."
-- 2: "the last member represents the cache closest to the user": the cache that adds its own
pub record Adds (existing new : Seq Member) (own : Handling) : Type 0 where
  pub value : Member
  pub preserves : new ≡ existing ++ value ∷ []
  pub represents : handling value ≡ Some own
