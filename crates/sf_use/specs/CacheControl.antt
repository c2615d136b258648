-- The text of Cache-Control by its own grammar (RFC 9111 section 5.2), and the rules of its
-- directives.
use Rattle.std.specs.Prelude.{◌≡◌, ℕ, nat_le, Bool, true, false, ◌==◌, ◌&&◌, ◌||◌, not, min, ⊤}
use Rattle.std.specs.Prelude.{◌⊎◌, if◌then◌else◌, List, [], ◌∷◌, ◌++◌, map, filter, codes}
use Rattle.std.specs.Prelude.{Option, Some, None, is_none, option_and_then}
use Rattle.std.specs.List.{list_all, list_any}
use Rattle.std.specs.Str.{str_eq_ignore_ascii_case}
use Rattle.sf_value.specs.Ascii.{tab, space, quote, comma, equals, backslash, del}
use Rattle.sf_value.specs.Grammar.Classes.{is_digit, is_ows, is_tchar}
use Rattle.sf_value.specs.Grammar.Numbers.{value_from}
use Rattle.sf_value.specs.Grammar.Words.{Every, IsWord}
use Rattle.sf_field.specs.Headers.{Headers, lines_under}
use Rattle.sf_use.specs.declared.caching.CacheRules.{CacheRules}
use Rattle.sf_use.specs.Caching.{saturated}

-- a directive: its name as it is spelled, and the value of its argument, if it has one
pub record CacheDirective : Type 0 where
  pub name : List ℕ
  pub argument : Option (List ℕ)

-- "token = 1*tchar" (RFC 9110 section 5.6.2)
abbrev pub IsToken : List ℕ → Type 0
IsToken = IsWord is_tchar is_tchar

-- what a backslash may be before: "quoted-pair = "\" ( HTAB / SP / VCHAR / obs-text )" (RFC 9110
-- section 5.6.4)
abbrev pub is_quotable : ℕ → Bool
is_quotable b = b == tab || (nat_le space b && not (b == del))

-- "qdtext = HTAB / SP / %x21 / %x23-5B / %x5D-7E / obs-text" (RFC 9110 section 5.6.4)
abbrev pub is_qdtext : ℕ → Bool
is_qdtext b = is_quotable b && (not (b == quote) && not (b == backslash))

-- "quoted-string = DQUOTE *( qdtext / quoted-pair ) DQUOTE": the text between the quotes, and its
-- value, which has "a quoted-pair as if it were replaced by the octet following the backslash" (RFC
-- 9110 section 5.6.4)
abbrev pub SpellsChars : List ℕ → List ℕ → Type 0
SpellsChars t [] = t ≡ []
SpellsChars t (b ∷ v) =
    (u : List ℕ)
    × (((t ≡ b ∷ u) × (is_qdtext b ≡ true)) ⊎ ((t ≡ backslash ∷ b ∷ u) × (is_quotable b ≡ true)))
    × SpellsChars u v

abbrev pub SpellsQuoted : List ℕ → List ℕ → Type 0
SpellsQuoted t v = (u : List ℕ) × (t ≡ quote ∷ (u ++ quote ∷ [])) × SpellsChars u v

-- "[ "=" ( token / quoted-string ) ]", of which "recipients ought to accept both forms" for every
-- directive (5.2)
abbrev pub SpellsArgument : List ℕ → Option (List ℕ) → Type 0
SpellsArgument t None = t ≡ []
SpellsArgument t (Some v) =
    (u : List ℕ) × (t ≡ equals ∷ u) × (((u ≡ v) × IsToken v) ⊎ SpellsQuoted u v)

-- "cache-directive = token [ "=" ( token / quoted-string ) ]" (5.2)
abbrev pub SpellsDirective : List ℕ → CacheDirective → Type 0
SpellsDirective t d =
    (u : List ℕ) × (t ≡ d.name ++ u) × IsToken d.name × SpellsArgument u d.argument

-- an element of the list, a directive or an empty one, with white space around it
abbrev pub SpellsElement : List ℕ → Option CacheDirective → Type 0
SpellsElement t None = Every is_ows t
SpellsElement t (Some d) =
    (before : List ℕ) × (body : List ℕ) × (after : List ℕ)
    × (t ≡ before ++ (body ++ after))
    × Every is_ows before
    × Every is_ows after
    × SpellsDirective body d

-- "#element => [ element ] *( OWS "," OWS [ element ] )" (RFC 9110 section 5.6.1.2). Ours: white
-- space at the ends of the text, which is no part of a field's value (section 5.5), is skipped too
abbrev pub SpellsElements : List ℕ → List (Option CacheDirective) → Type 0
SpellsElements t [] = ⊥
SpellsElements t (e ∷ []) = SpellsElement t e
SpellsElements t (e ∷ f ∷ es) =
    (first : List ℕ) × (rest : List ℕ)
    × (t ≡ first ++ comma ∷ rest)
    × SpellsElement first e
    × SpellsElements rest (f ∷ es)

-- "A recipient MUST parse and ignore a reasonable number of empty list elements" (RFC 9110 section
-- 5.6.1.2)
abbrev pub directives : List (Option CacheDirective) → List CacheDirective
directives [] = []
directives (None ∷ es) = directives es
directives (Some d ∷ es) = d ∷ directives es

-- "Cache-Control = #cache-directive" (5.2)
abbrev pub SpellsCacheControl : List ℕ → List CacheDirective → Type 0
SpellsCacheControl t ds =
    (es : List (Option CacheDirective)) × SpellsElements t es × (ds ≡ directives es)

-- a directive of this name: "identified by a token, to be compared case-insensitively" (5.2)
abbrev pub is_named : List ℕ → CacheDirective → Bool
is_named name d = str_eq_ignore_ascii_case d.name name

-- whether one of the directives has this name
abbrev pub is_present : List ℕ → List CacheDirective → Bool
is_present name ds = list_any (is_named name) ds

-- "delta-seconds = 1*DIGIT", which is 2^31 from there on (1.2.2); None for another text
abbrev pub delta_seconds : List ℕ → Option ℕ
delta_seconds [] = None
delta_seconds (b ∷ t) =
    if list_all is_digit (b ∷ t) then Some (saturated (value_from 0 (b ∷ t))) else None

abbrev pub seconds_of : CacheDirective → Option ℕ
seconds_of d = option_and_then delta_seconds d.argument

-- the seconds of each directive of this name, in order; None for one without a number of seconds
abbrev pub values : List ℕ → List CacheDirective → List (Option ℕ)
values name ds = map seconds_of (filter (is_named name) ds)

abbrev pub is_value : ℕ → Option ℕ → Bool
is_value n (Some m) = m == n
is_value n None = false

-- the seconds that all of them set. "When there is more than one value present for a given
-- directive .. either the first occurrence should be used or the response should be considered
-- stale" (4.2.1): stale is our choice; equal values are one value
abbrev pub agreed : List (Option ℕ) → Option ℕ
agreed [] = None
agreed (None ∷ vs) = None
agreed (Some n ∷ vs) = if list_all (is_value n) vs then Some n else None

-- the directive is present, and sets no such seconds: "invalid freshness information" (4.2.1)
abbrev pub disagree : List (Option ℕ) → Bool
disagree [] = false
disagree (v ∷ vs) = is_none (agreed (v ∷ vs))

-- the rules of a list of directives. A directive without a number is set if it is present, whatever
-- its argument; "A cache MUST ignore unrecognized cache directives" (5.2.3)
abbrev pub cache_rules : List CacheDirective → CacheRules
cache_rules ds = record {
  policy = record {
    max_age = agreed (values (codes "max-age") ds);
    s_maxage = agreed (values (codes "s-maxage") ds);
    must_revalidate = is_present (codes "must-revalidate") ds;
    no_store = is_present (codes "no-store") ds;
    no_cache = is_present (codes "no-cache") ds;
    is_private = is_present (codes "private") ds;
  };
  invalid_max_age = disagree (values (codes "max-age") ds);
  invalid_s_maxage = disagree (values (codes "s-maxage") ds);
  proxy_revalidate = is_present (codes "proxy-revalidate") ds;
  must_understand = is_present (codes "must-understand") ds;
  is_public = is_present (codes "public") ds;
}

-- the text is that of a Cache-Control with these rules
abbrev pub HasCacheRules : List ℕ → CacheRules → Type 0
HasCacheRules t r = (ds : List CacheDirective) × SpellsCacheControl t ds × (r ≡ cache_rules ds)

-- the text is no list of directives
abbrev pub IsNoCacheControl : List ℕ → Type 0
IsNoCacheControl t = (ds : List CacheDirective) → SpellsCacheControl t ds → ⊥

-- the lines of the field, each a list of directives: "appending each subsequent field line value to
-- the initial field line value in order" (RFC 9110 section 5.3)
abbrev pub SpellsCacheControlLines : List (List ℕ) → List CacheDirective → Type 0
SpellsCacheControlLines [] ds = ds ≡ []
SpellsCacheControlLines (line ∷ lines) ds =
    (es : List CacheDirective) × (fs : List CacheDirective)
    × SpellsCacheControl line es
    × SpellsCacheControlLines lines fs
    × (ds ≡ es ++ fs)

abbrev pub HaveCacheRules : List (List ℕ) → CacheRules → Type 0
HaveCacheRules lines r =
    (ds : List CacheDirective) × SpellsCacheControlLines lines ds × (r ≡ cache_rules ds)

abbrev pub AreNoCacheControl : List (List ℕ) → Type 0
AreNoCacheControl lines = (ds : List CacheDirective) → SpellsCacheControlLines lines ds → ⊥

-- ours: a field that is refused may have lost a directive that forbids to store the response
abbrev pub refused_rules : CacheRules
refused_rules = cache_rules (record { name = codes "no-store"; argument = None } ∷ [])

-- the rules of the field of a response; it may be absent
abbrev pub IsFallback : Headers → CacheRules → Type 0
IsFallback headers r =
    HaveCacheRules (lines_under headers (codes "cache-control")) r
    ⊎ (AreNoCacheControl (lines_under headers (codes "cache-control")) × (r ≡ refused_rules))
