-- RFC 9213 sections 2.1 and 2.2, sentence by sentence: which targeted field a cache obeys, and what
-- its directives are. Above each definition are the sentences that it states. Left out are those
-- that ask something of who writes a field, and those that only explain.
use Rattle.std.specs.Prelude.{◌≡◌, ◌≢◌, ℕ, pos, negsuc, Bool, true, false, ◌||◌, List as Seq, [], ◌∷◌, ◌++◌}
use Rattle.std.specs.Prelude.{All, codes, Option, Some, None}
use Rattle.http_header.specs.HeaderMap.{ContainsKey}
use Rattle.sf_value.specs.declared.dialect.Dialect.{Dialect}
use Rattle.sf_value.specs.declared.value.Bare.{Bare}
use Rattle.sf_value.specs.declared.value.Bare.TheVariants.{Integer, Decimal, Text, Token, Boolean}
use Rattle.sf_value.specs.declared.value.Member.{Member}
use Rattle.sf_value.specs.declared.value.Member.TheVariants as member
use Rattle.sf_value.specs.declared.value.Field.TheVariants as field
use Rattle.sf_value.specs.declared.value.Kind.TheVariants as kind
use Rattle.sf_field.specs.Headers.{Headers, lines_under}
use Rattle.sf_rfc.specs.Rfc9651.Parsing.{Map, parse_field, combine}
use Rattle.sf_rfc.specs.Rfc9651.SerialisingBare.{serialise_decimal, serialise_integer, thousandths}
use Rattle.sf_rfc_use.specs.OrderedMaps.{value_of}
use Rattle.sf_rfc_use.specs.Rfc9111.{AreDigits, number_after}
use Rattle.sf_rfc_use.specs.Rfc9111.{Directive as ResponseDirective}

-- 2.1: "Targeted fields are Dictionary Structured Fields [..]. Each member of the Dictionary is an
-- HTTP cache response directive": the members that the field of this name in the response parses as
abbrev pub Parses : Dialect → Headers → Seq ℕ → Map Member → Type 0
Parses d response name members =
    parse_field d kind.Dict (combine (lines_under response name))
    ≡ Some (field.Dict (record { members = members }))

-- 2.1: "If a targeted field in a given response is empty, or a parsing error is encountered, that
-- field MUST be ignored by the cache (i.e., it behaves as if the field were not present [..])."
-- 2.2: "a valid, non-empty value is available"
pub record IsAvailable (d : Dialect) (response : Headers) (name : Seq ℕ) (members : Map Member)
    : Type 0 where
  pub present : ContainsKey response name
  pub valid : Parses d response name members
  pub non_empty : members ≢ []

abbrev pub IsIgnored : Dialect → Headers → Seq ℕ → Type 0
IsIgnored d response name = (members : Map Member) → IsAvailable d response name members → ⊥

-- 2.2: "A target list is an ordered list of the targeted field names that it uses for caching
-- policy, with the order reflecting priority from most applicable to least."
-- 2.2: "When a cache that implements this specification receives a response with one or more of the
-- header field names on its target list, the cache MUST select the first (in target-list order)
-- field with a valid, non-empty value and use its value to determine the caching policy for the
-- response"
pub record Selects (d : Dialect) (targets : Seq (Seq ℕ)) (response : Headers) (name : Seq ℕ)
    (members : Map Member) : Type 0 where
  pub before : Seq (Seq ℕ)
  pub after : Seq (Seq ℕ)
  pub listed : targets ≡ before ++ name ∷ after
  pub first : All (IsIgnored d response) before
  pub available : IsAvailable d response name members

-- 2.2: "it MUST ignore the Cache-Control and Expires header fields in that response, unless no
-- valid, non-empty value is available from the listed header fields."
-- 2.2: "if no member of the cache's target list is present, valid, and non-empty, a cache falls
-- back to other cache control mechanisms"
abbrev pub FallsBack : Dialect → Seq (Seq ℕ) → Headers → Type 0
FallsBack d targets response = All (IsIgnored d response) targets

-- 2.1: "cache directives that have no value will be mapped to a Boolean [..]. When the value is a
-- quoted-string, it will be mapped to a String [..], and when it is a token, it will map to a Token
-- [..], an Integer [..], or a Decimal [..], depending on the content of the value.": a directive is
-- not there, or has a value that keeps to its constraint, or one that violates it
pub data Directive (X : Type 0) : Type 0 where
  NotThere : Directive X
  Has : X → Directive X
  Violates : Directive X

-- 2.1: "Parameters received on cache directives are to be ignored": the value of a directive
abbrev pub constrained : {X : Type 0} → (Bare → Directive X) → Option Member → Directive X
constrained of_value None = NotThere
constrained of_value (Some (member.Item i)) = of_value i.bare
constrained of_value (Some (member.Inner l)) = Violates

-- 2.1: "the max-age directive (Section 5.2.2.1 of [HTTP-CACHING]) has an integer value"; RFC 9111
-- section 1.2.2: "The delta-seconds rule specifies a non-negative integer, representing time in
-- seconds."
abbrev pub delta_seconds : Bare → Directive ℕ
delta_seconds (Integer (pos n)) = Has n
delta_seconds x = Violates

-- 2.1: "no-store (Section 5.2.2.5 of [HTTP-CACHING]) always has a Boolean true value"; so have
-- must-revalidate, must-understand, proxy-revalidate and public (RFC 9111 sections 5.2.2.2, 5.2.2.3,
-- 5.2.2.8 and 5.2.2.9)
abbrev pub always_true : Bare → Directive (Option (Seq ℕ))
always_true (Boolean true) = Has None
always_true x = Violates

-- 2.1: "no-cache (Section 5.2.2.4 of [HTTP-CACHING]) has a value that can be either Boolean true or
-- a string containing a comma-delimited list of field names."; so has private (RFC 9111 section
-- 5.2.2.7)
abbrev pub true_or_names : Bare → Directive (Option (Seq ℕ))
true_or_names (Boolean true) = Has None
true_or_names (Text names) = Has (Some names)
true_or_names x = Violates

-- 2.2: "Caches that use a targeted field MUST implement the semantics of the following cache
-- directives: max-age, must-revalidate, no-store, no-cache, private. Furthermore, they SHOULD
-- implement other cache directives [..] that they support in the Cache-Control response header
-- field." (s-maxage, proxy-revalidate, must-understand and public are such) "[..] unrecognized
-- extension directives are ignored."
pub record Directives : Type 0 where
  pub max_age : Directive ℕ
  pub s_maxage : Directive ℕ
  pub must_revalidate : Directive (Option (Seq ℕ))
  pub no_store : Directive (Option (Seq ℕ))
  pub no_cache : Directive (Option (Seq ℕ))
  pub is_private : Directive (Option (Seq ℕ))
  pub proxy_revalidate : Directive (Option (Seq ℕ))
  pub must_understand : Directive (Option (Seq ℕ))
  pub is_public : Directive (Option (Seq ℕ))

abbrev pub directives : Map Member → Directives
directives members = record {
  max_age = constrained delta_seconds (value_of (codes "max-age") members);
  s_maxage = constrained delta_seconds (value_of (codes "s-maxage") members);
  must_revalidate = constrained always_true (value_of (codes "must-revalidate") members);
  no_store = constrained always_true (value_of (codes "no-store") members);
  no_cache = constrained true_or_names (value_of (codes "no-cache") members);
  is_private = constrained true_or_names (value_of (codes "private") members);
  proxy_revalidate = constrained always_true (value_of (codes "proxy-revalidate") members);
  must_understand = constrained always_true (value_of (codes "must-understand") members);
  is_public = constrained always_true (value_of (codes "public") members);
}

-- 2.1: "Implementations SHOULD NOT consume values that violate these inferred constraints.": the
-- value, if it is consumed
abbrev pub consumed : {X : Type 0} → Directive X → Option X
consumed (Has x) = Some x
consumed NotThere = None
consumed Violates = None

-- whether a directive is there with a value that violates its constraint
abbrev pub violates : {X : Type 0} → Directive X → Bool
violates (Has x) = false
violates NotThere = false
violates Violates = true

-- whether a directive is in effect
abbrev pub in_effect : {X : Type 0} → Directive X → Bool
in_effect (Has x) = true
in_effect NotThere = false
in_effect Violates = false

-- 2.2: "no-store and no-cache make max-age inoperative"
abbrev pub unless_inoperative : Bool → Option ℕ → Option ℕ
unless_inoperative true age = None
unless_inoperative false age = age

abbrev pub makes_inoperative : Directives → Bool
makes_inoperative s = in_effect s.no_store || in_effect s.no_cache

abbrev pub operative_max_age : Directives → Option ℕ
operative_max_age s = unless_inoperative (makes_inoperative s) (consumed s.max_age)

-- 2.1: "This means that cache directives that have no value will be mapped to a Boolean [..]. When
-- the value is a quoted-string, it will be mapped to a String [..], and when it is a token, it will
-- map to a Token [..], an Integer [..], or a Decimal [..], depending on the content of the value.":
-- no value to the Boolean true, and a token of digits to the Integer with these digits
abbrev pub MapsTo : Option (Seq ℕ) → Bare → Type 0
MapsTo None (Boolean b) = b ≡ true
MapsTo (Some value) (Text s) = value ≡ s
MapsTo (Some value) (Token t) = value ≡ t
MapsTo (Some value) (Integer (pos n)) =
    (value ≢ []) × AreDigits value × (n ≡ number_after 0 value)
MapsTo (Some value) (Integer (negsuc n)) = serialise_integer (negsuc n) ≡ Some value
MapsTo (Some value) (Decimal n) = serialise_decimal (thousandths n) ≡ Some value
MapsTo value x = ⊥

-- 2.1: "Parameters received on cache directives are to be ignored"; no directive maps to an Inner
-- List
abbrev pub MapsToMember : Option (Seq ℕ) → Member → Type 0
MapsToMember value (member.Item i) = MapsTo value i.bare
MapsToMember value (member.Inner l) = ⊥

-- 2.1: "Each member of the Dictionary is an HTTP cache response directive"
abbrev pub AreDirectives : Map Member → Seq ResponseDirective → Type 0
AreDirectives [] [] = Unit {0}
AreDirectives (m ∷ ms) (d ∷ ds) =
    ((d.name ≡ m.0) × MapsToMember d.argument m.1) × AreDirectives ms ds
AreDirectives ms ds = ⊥
