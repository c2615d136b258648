-- The hop that a struct describes, to be written (RFC 9211 section 2). Any number but 0 sets a
-- flag, and a field of the struct whose flag is not set is ignored.
use Rattle.std.specs.Prelude.{◌≡◌, ◌≢◌, ℕ, ℤ, ◌==◌, not, Bool}
use Rattle.std.specs.Prelude.{true, false, List, [], ◌∷◌, Option, Some, None, Result, Ok, Err}
use Rattle.sf_value.specs.declared.dialect.Dialect.TheVariants.{Rfc9651}
use Rattle.sf_value.specs.declared.fault.TextFault.{TextFault}
use Rattle.sf_value.specs.declared.fault.TextFault.TheVariants as text_fault
use Rattle.sf_value.specs.declared.value.Bare.TheVariants.{Integer}
use Rattle.sf_value.specs.declared.value.Field.{Field}
use Rattle.sf_value.specs.declared.value.Field.TheVariants as field
use Rattle.sf_value.specs.declared.value.Kind.TheVariants as kind
use Rattle.sf_value.specs.Grammar.Canonical.{canon}
use Rattle.sf_value.specs.Grammar.Classes.{is_visible}
use Rattle.sf_value.specs.Grammar.Tokens.{IsToken}
use Rattle.sf_value.specs.Grammar.Valid.{ValidBare}
use Rattle.sf_value.specs.Grammar.Words.{Every}
use Rattle.sf_parse.specs.Parsers.{IsOnly}
use Rattle.sf_use.specs.declared.cache_status.hop.Name.{Name}
use Rattle.sf_use.specs.declared.cache_status.hop.Name.TheVariants as name
use Rattle.sf_use.specs.declared.cache_status.hop.Forward.{Forward}
use Rattle.sf_use.specs.declared.cache_status.hop.Forward.TheVariants.{Bypass, Method, UriMiss}
use Rattle.sf_use.specs.declared.cache_status.hop.Forward.TheVariants.{VaryMiss, Miss, Request}
use Rattle.sf_use.specs.declared.cache_status.hop.Forward.TheVariants.{Stale, Partial, Other}
use Rattle.sf_use.specs.declared.cache_status.hop.Passed.{Passed}
use Rattle.sf_use.specs.declared.cache_status.hop.Outcome.{Outcome}
use Rattle.sf_use.specs.declared.cache_status.hop.Outcome.TheVariants.{Hit, Forwarded, Conflict}
use Rattle.sf_use.specs.declared.cache_status.hop.Outcome.TheVariants.{Unsaid}
use Rattle.sf_use.specs.declared.cache_status.hop.Hop.{Hop}
use Rattle.sf_use.specs.CacheStatus.Hops.{hops}
use Rattle.sf_use.specs.CacheStatus.Laws.{canonical_hop}
use Rattle.sf_use.specs.CacheStatus.Members.{entry}
use Rattle.sf_use.specs.Ranges.{IsHopStatus}
use Rattle.sf_c.specs.declared.span.Span.{Span}
use Rattle.sf_c.specs.declared.hops.HopNode.{HopNode}
use Rattle.sf_c.specs.declared.status.Status.{Status}
use Rattle.sf_c.specs.declared.status.Status.TheVariants.{Answered, Short, OutOfMemory, Invalid}
use Rattle.sf_c.specs.Spans.{IsSpanWithin, span_bytes}
use Rattle.sf_c.specs.TextBuffers.{PutsText, TextBuffer}

-- the span is within the bytes, and these are its bytes
abbrev pub AreBytes : List ℕ → Span → List ℕ → Type 0
AreBytes bytes p text = IsSpanWithin bytes p × (text ≡ span_bytes bytes p)

-- a value that is present if its flag is set
abbrev pub GivesMaybe : {X : Type 0} → ℕ → (X → Type 0) → Option X → Type 0
GivesMaybe flag P None = flag ≡ 0
GivesMaybe flag P (Some x) = (flag ≢ 0) × P x

-- the bytes of a String
abbrev pub GivesString : List ℕ → Span → List ℕ → Type 0
GivesString bytes p text = AreBytes bytes p text × Every is_visible text

-- the bytes of a Token
abbrev pub GivesToken : List ℕ → Span → List ℕ → Type 0
GivesToken bytes p token = AreBytes bytes p token × IsToken token

-- a name or a detail: a Token if the flag is set, otherwise a String
abbrev pub GivesName : List ℕ → Span → ℕ → Name → Type 0
GivesName bytes p flag (name.Text text) = (flag ≡ 0) × GivesString bytes p text
GivesName bytes p flag (name.Token token) = (flag ≢ 0) × GivesToken bytes p token

-- why the request was forwarded (2.2)
abbrev pub GivesWhy : List ℕ → HopNode → Forward → Type 0
GivesWhy bytes n Bypass = n.why ≡ 1
GivesWhy bytes n Method = n.why ≡ 2
GivesWhy bytes n UriMiss = n.why ≡ 3
GivesWhy bytes n VaryMiss = n.why ≡ 4
GivesWhy bytes n Miss = n.why ≡ 5
GivesWhy bytes n Request = n.why ≡ 6
GivesWhy bytes n Stale = n.why ≡ 7
GivesWhy bytes n Partial = n.why ≡ 8
GivesWhy bytes n (Other token) = (n.why ≡ 9) × GivesToken bytes n.why_token token

-- a status code (2.3)
abbrev pub GivesStatus : ℕ → ℕ → Type 0
GivesStatus number status = (status ≡ number) × IsHopStatus number

-- a flag: any number but 0 is true
abbrev pub GivesFlag : ℕ → Bool → Type 0
GivesFlag number flag = flag ≡ not (number == 0)

-- the parameters of a request that was forwarded
abbrev pub GivesPassed : List ℕ → HopNode → Passed → Type 0
GivesPassed bytes n p =
    GivesWhy bytes n p.why
    × GivesMaybe n.has_status (GivesStatus n.status) p.status
    × GivesMaybe n.has_stored (GivesFlag n.stored) p.stored
    × GivesMaybe n.has_collapsed (GivesFlag n.collapsed) p.collapsed

-- what the cache did (2.1 and 2.2)
abbrev pub GivesOutcome : List ℕ → HopNode → Outcome → Type 0
GivesOutcome bytes n Unsaid = n.outcome ≡ 0
GivesOutcome bytes n Hit = n.outcome ≡ 1
GivesOutcome bytes n (Forwarded p) = (n.outcome ≡ 2) × GivesPassed bytes n p
GivesOutcome bytes n (Conflict p) = (n.outcome ≡ 3) × GivesPassed bytes n p

-- a number in the range of an Integer (RFC 9651 section 3.3.1)
abbrev pub GivesInteger : ℤ → ℤ → Type 0
GivesInteger number n = (n ≡ number) × ValidBare Rfc9651 (Integer number)

-- the hop that a struct describes, whose spans are in these bytes
abbrev pub GivesHop : List ℕ → HopNode → Hop → Type 0
GivesHop bytes n h =
    GivesName bytes n.name n.name_is_token h.name
    × GivesOutcome bytes n h.outcome
    × GivesMaybe n.has_ttl (GivesInteger n.ttl) h.ttl
    × GivesMaybe n.has_key (GivesString bytes n.key) h.key
    × GivesMaybe n.has_detail (GivesName bytes n.detail n.detail_is_token) h.detail

-- why there is no value: the struct describes none, or it describes one and an allocation failed
abbrev pub GivesNone : {X : Type 0} → (X → Type 0) → Status → Type 0
GivesNone P Invalid = (x : _) → P x → ⊥
GivesNone P OutOfMemory = (x : _) × P x
GivesNone P status = ⊥

-- the struct describes no value, whatever memory there is
abbrev pub is_invalid : {X : Type 0} → Result X Status → Bool
is_invalid (Err Invalid) = true
is_invalid r = false

-- the status for bytes that are not a String or a Token
abbrev pub fault_status : TextFault → Status
fault_status text_fault.Empty = Invalid
fault_status (text_fault.BadByte place) = Invalid
fault_status text_fault.OutOfMemory = OutOfMemory

-- the text of a Cache-Status field whose only member is that of the hop
abbrev pub hop_text : Hop → List ℕ
hop_text h = canon (field.List (record { members = entry h ∷ [] }))

-- the text is a Cache-Status field that is read as this hop alone; a token of fwd that the RFC
-- defines is read as its reason
abbrev pub IsReadAs : List ℕ → Hop → Type 0
IsReadAs text h =
    (v : Field) × IsOnly Rfc9651 kind.List text v × (hops v ≡ Ok (canonical_hop h ∷ []))

-- the text of a Cache-Status field with the hop that the struct gives as its only member; Invalid
-- exactly if it gives none, since an allocation fails only for a hop
abbrev pub WritesHop : TextBuffer → TextBuffer → List ℕ → HopNode → Option Status → Type 0
WritesHop old new bytes n (Some Invalid) = ((h : Hop) → GivesHop bytes n h → ⊥) × (new ≡ old)
WritesHop old new bytes n (Some Answered) =
    (h : Hop)
    × GivesHop bytes n h
    × IsReadAs (hop_text h) h
    × PutsText old new (hop_text h) (Some Answered)
WritesHop old new bytes n (Some Short) =
    (h : Hop)
    × GivesHop bytes n h
    × PutsText old new (hop_text h) (Some Short)
WritesHop old new bytes n (Some OutOfMemory) = ((h : Hop) × GivesHop bytes n h) × (new ≡ old)
WritesHop old new bytes n status = ⊥
