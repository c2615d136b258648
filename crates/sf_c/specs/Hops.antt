-- What the structs of hops describe (RFC 9211 section 2).
use Rattle.std.specs.Prelude.{◌≡◌, ℕ, ℤ, pos, ◌+◌, ◌≤◌, Bool, true, false, List, [], ◌∷◌, ◌++◌}
use Rattle.std.specs.Prelude.{length, take, map, Option, is_some, unwrap_or}
use Rattle.std.specs.Option.{option_and_then, option_map}
use Rattle.sf_use.specs.declared.cache_status.hop.Name.{Name}
use Rattle.sf_use.specs.declared.cache_status.hop.Name.TheVariants as name
use Rattle.sf_use.specs.declared.cache_status.hop.Forward.{Forward}
use Rattle.sf_use.specs.declared.cache_status.hop.Forward.TheVariants.{Bypass, Method, UriMiss}
use Rattle.sf_use.specs.declared.cache_status.hop.Forward.TheVariants.{VaryMiss, Miss, Request}
use Rattle.sf_use.specs.declared.cache_status.hop.Forward.TheVariants.{Stale, Partial, Other}
use Rattle.sf_use.specs.declared.cache_status.hop.Passed.{Passed}
use Rattle.sf_use.specs.declared.cache_status.hop.Outcome.{Outcome}
use Rattle.sf_use.specs.declared.cache_status.hop.Outcome.TheVariants.{Hit, Forwarded, Conflict}
use Rattle.sf_use.specs.declared.cache_status.hop.Outcome.TheVariants.{Unsaid}
use Rattle.sf_use.specs.declared.cache_status.hop.Hop.{Hop}
use Rattle.sf_use.specs.CacheStatus.Members.{passed_by}
use Rattle.sf_use.specs.CacheStatus.Reasons.{token_of}
use Rattle.sf_c.specs.declared.span.Span.{Span}
use Rattle.sf_c.specs.declared.hops.HopNode.{HopNode}
use Rattle.sf_c.specs.Refusals.{flag_number}
use Rattle.sf_c.specs.Spans.{IsSpanWithin, span_bytes}

-- the numbers of a hop; an absent one is 0
pub record HopSays : Type 0 where
  pub outcome : ℕ
  pub why : ℕ
  pub status : ℕ
  pub has_status : ℕ
  pub stored : ℕ
  pub has_stored : ℕ
  pub collapsed : ℕ
  pub has_collapsed : ℕ
  pub ttl : ℤ
  pub has_ttl : ℕ
  pub has_key : ℕ
  pub has_detail : ℕ
  pub name_is_token : ℕ
  pub detail_is_token : ℕ

-- the contents of a hop; absent bytes are empty
pub record HopContent : Type 0 where
  pub name : List ℕ
  pub why_token : List ℕ
  pub key : List ℕ
  pub detail : List ℕ
  pub says : HopSays

-- the numbers of a struct
abbrev pub says_by : HopNode → HopSays
says_by n = record {
  outcome = n.outcome;
  why = n.why;
  status = n.status;
  has_status = n.has_status;
  stored = n.stored;
  has_stored = n.has_stored;
  collapsed = n.collapsed;
  has_collapsed = n.has_collapsed;
  ttl = n.ttl;
  has_ttl = n.has_ttl;
  has_key = n.has_key;
  has_detail = n.has_detail;
  name_is_token = n.name_is_token;
  detail_is_token = n.detail_is_token;
}

-- what a struct describes, which points into these bytes
abbrev pub hop_content_by : List ℕ → HopNode → HopContent
hop_content_by bytes n = record {
  name = span_bytes bytes n.name;
  why_token = span_bytes bytes n.why_token;
  key = span_bytes bytes n.key;
  detail = span_bytes bytes n.detail;
  says = says_by n;
}

-- a name, or a detail: its bytes, and whether it is a Token
abbrev pub bytes_of : Name → List ℕ
bytes_of (name.Text t) = t
bytes_of (name.Token t) = t

abbrev pub is_token : Name → Bool
is_token (name.Text t) = false
is_token (name.Token t) = true

abbrev pub detail_bytes : Option Name → List ℕ
detail_bytes detail = unwrap_or (option_map bytes_of detail) []

abbrev pub detail_is_token : Option Name → Bool
detail_is_token detail = unwrap_or (option_map is_token detail) false

-- what the cache did
abbrev pub outcome_number : Outcome → ℕ
outcome_number Unsaid = 0
outcome_number Hit = 1
outcome_number (Forwarded passed) = 2
outcome_number (Conflict passed) = 3

-- why it forwarded the request
abbrev pub reason_number : Forward → ℕ
reason_number Bypass = 1
reason_number Method = 2
reason_number UriMiss = 3
reason_number VaryMiss = 4
reason_number Miss = 5
reason_number Request = 6
reason_number Stale = 7
reason_number Partial = 8
reason_number (Other token) = 9

abbrev pub why_number : Option Passed → ℕ
why_number passed = unwrap_or (option_map (λ p. reason_number p.why) passed) 0

abbrev pub why_token : Option Passed → List ℕ
why_token passed = unwrap_or (option_map (λ p. token_of p.why) passed) []

-- the numbers of a hop
abbrev pub says_passed : Option Passed → Hop → HopSays
says_passed passed h = record {
  outcome = outcome_number h.outcome;
  why = why_number passed;
  status = unwrap_or (option_and_then (λ p. p.status) passed) 0;
  has_status = flag_number (is_some (option_and_then (λ p. p.status) passed));
  stored = flag_number (unwrap_or (option_and_then (λ p. p.stored) passed) false);
  has_stored = flag_number (is_some (option_and_then (λ p. p.stored) passed));
  collapsed = flag_number (unwrap_or (option_and_then (λ p. p.collapsed) passed) false);
  has_collapsed = flag_number (is_some (option_and_then (λ p. p.collapsed) passed));
  ttl = unwrap_or h.ttl (pos 0);
  has_ttl = flag_number (is_some h.ttl);
  has_key = flag_number (is_some h.key);
  has_detail = flag_number (is_some h.detail);
  name_is_token = flag_number (is_token h.name);
  detail_is_token = flag_number (detail_is_token h.detail);
}

abbrev pub says_of : Hop → HopSays
says_of h = says_passed (passed_by h.outcome) h

-- what a hop says
abbrev pub hop_content : Hop → HopContent
hop_content h = record {
  name = bytes_of h.name;
  why_token = why_token (passed_by h.outcome);
  key = unwrap_or h.key [];
  detail = detail_bytes h.detail;
  says = says_of h;
}

-- the struct points to bytes that are there
abbrev pub IsHopWithin : List ℕ → HopNode → Type 0
IsHopWithin bytes n =
    IsSpanWithin bytes n.name
    × IsSpanWithin bytes n.why_token
    × IsSpanWithin bytes n.key
    × IsSpanWithin bytes n.detail

-- each struct points to bytes that are there
abbrev pub AreHopsWithin : List ℕ → List HopNode → Type 0
AreHopsWithin bytes [] = Unit {0}
AreHopsWithin bytes (n ∷ ns) = IsHopWithin bytes n × AreHopsWithin bytes ns

-- how many bytes a hop has
abbrev pub hop_size : HopContent → ℕ
hop_size t = length t.name + length t.why_token + length t.key + length t.detail

-- how many bytes hops have together
abbrev pub hops_size : List HopContent → ℕ
hops_size [] = 0
hops_size (t ∷ ts) = hop_size t + hops_size ts

-- the bytes of a hop, in the order of the struct
abbrev pub hop_bytes : HopContent → List ℕ
hop_bytes t = t.name ++ (t.why_token ++ (t.key ++ t.detail))

abbrev pub hops_bytes : List HopContent → List ℕ
hops_bytes [] = []
hops_bytes (t ∷ ts) = hop_bytes t ++ hops_bytes ts

-- where a span ends
abbrev pub end_of : Span → ℕ
end_of p = p.at + p.length

-- the spans of a hop are one after another, the first at this place
abbrev pub IsHopInOrder : ℕ → HopNode → Type 0
IsHopInOrder at n =
    (n.name.at ≡ at)
    × (n.why_token.at ≡ end_of n.name)
    × (n.key.at ≡ end_of n.why_token)
    × (n.detail.at ≡ end_of n.key)

-- the spans of hops are one after another, from the first place to the second
abbrev pub AreHopsInOrder : ℕ → List HopNode → ℕ → Type 0
AreHopsInOrder at [] end = at ≡ end
AreHopsInOrder at (n ∷ ns) end = IsHopInOrder at n × AreHopsInOrder (end_of n.detail) ns end

-- the structs point to bytes that are there, one span after another, and each byte belongs to a
-- span
abbrev pub HopsHoldUp : List ℕ → List HopNode → Type 0
HopsHoldUp bytes ns =
    AreHopsWithin bytes ns
    × (length bytes ≡ hops_size (map (hop_content_by bytes) ns))
    × AreHopsInOrder 0 ns (length bytes)
    × (bytes ≡ hops_bytes (map (hop_content_by bytes) ns))

-- the text is after the bytes that were there, and the span is that of it
abbrev pub PutsSpan : List ℕ → List ℕ → List ℕ → Span → Type 0
PutsSpan old new text p =
    (new ≡ old ++ text) × (p.at ≡ length old) × (p.length ≡ length text)

-- the structs and the bytes at the start of two buffers describe these hops: the bytes are their
-- spans in order, and no other
pub record HopsAtStart (ts : List HopContent) (hops : List HopNode) (bytes : List ℕ) : Type 0 where
  pub hops_fit : length ts ≤ length hops
  pub bytes_fit : hops_size ts ≤ length bytes
  pub describes : map (hop_content_by (take (hops_size ts) bytes)) (take (length ts) hops) ≡ ts
  pub held : HopsHoldUp (take (hops_size ts) bytes) (take (length ts) hops)
