-- What it means that Cache-Status has the meaning that RFC 9211 states.
use Rattle.std.specs.Prelude.{◌≡◌, ◌↔◌, ℕ, suc, ℤ}
use Rattle.std.specs.Prelude.{pos, Bool, true, false, List as Seq, []}
use Rattle.std.specs.Prelude.{map, take, drop, slice_get, All, Option, Some, None, Result, Ok, Err}
use Rattle.std.specs.Prelude.{unwrap_or, nat_le, ◌&&◌, ⊤}
use Rattle.std.specs.Option.{option_map}
use Rattle.sf_value.specs.declared.dialect.Dialect.{Dialect}
use Rattle.sf_value.specs.declared.value.Member.{Member}
use Rattle.sf_value.specs.declared.value.Field.{Field}
use Rattle.sf_value.specs.declared.value.Field.TheVariants as field
use Rattle.sf_value.specs.declared.value.Kind.TheVariants as kind
use Rattle.sf_value.specs.Grammar.Fields.{list_of}
use Rattle.sf_field.specs.Asking.{MeansIn}
use Rattle.sf_field.specs.declared.consumer.UseFault.{UseFault}
use Rattle.sf_field.specs.declared.consumer.UseFault.TheVariants.{NotACache, OutOfMemory}
use Rattle.sf_use.specs.declared.cache_status.hop.Name.{Name}
use Rattle.sf_use.specs.declared.cache_status.hop.Name.TheVariants as name
use Rattle.sf_use.specs.declared.cache_status.hop.Forward.{Forward}
use Rattle.sf_use.specs.declared.cache_status.hop.Forward.TheVariants as forward
use Rattle.sf_use.specs.declared.cache_status.hop.Passed.{Passed}
use Rattle.sf_use.specs.declared.cache_status.hop.Outcome.{Outcome}
use Rattle.sf_use.specs.declared.cache_status.hop.Outcome.TheVariants as outcome
use Rattle.sf_use.specs.declared.cache_status.hop.Hop.{Hop}
use Rattle.sf_use.specs.declared.cache_status.appended.Appended.{Appended}
use Rattle.sf_use.specs.declared.cache_status.appended.Appended.TheVariants.{Joined, Apart}
use Rattle.sf_use.specs.declared.cache_status.appended.AppendFault.{AppendFault}
use Rattle.sf_use.specs.declared.cache_status.appended.AppendFault.TheVariants as append_fault
use Rattle.sf_use.specs.CacheStatus.Appended.{AppendsIn}
use Rattle.sf_use.specs.CacheStatus.Hops.{hops}
use Rattle.sf_use.specs.CacheStatus.Laws.{HasStatusInRange, canonical_hop}
use Rattle.sf_use.specs.CacheStatus.Served.{served}
use Rattle.sf_rfc.specs.Rfc9651.Words.{only_if}
use Rattle.sf_rfc.specs.Rfc9651.Parsing.{parse_field, combine}
use Rattle.sf_rfc_use.specs.Rfc9211.{Words, AString, AToken, Parameter, Absent, Is, Mistyped}
use Rattle.sf_rfc_use.specs.Rfc9211.{Handling, handling, handlings, IsSatisfied, WentForward}
use Rattle.sf_rfc_use.specs.Rfc9211.{Reason, Bypass, Method, UriMiss, VaryMiss, Miss, Request}
use Rattle.sf_rfc_use.specs.Rfc9211.{Stale, Partial, reason, next_hop_status, was_collapsed}
use Rattle.sf_rfc_use.specs.Rfc9211.{was_stored, Adds, AreExclusive}

-- the value of a parameter. Ours: one of another type than the RFC states counts as absent, while
-- by default the whole field would be ignored (RFC 8941 section 2)
abbrev pub given : {X : Type 0} → Parameter X → Option X
given (Is x) = Some x
given Absent = None
given Mistyped = None

-- a String or a Token, as a name
abbrev pub as_name : Words → Name
as_name (AString t) = name.Text t
as_name (AToken t) = name.Token t

-- a reason, and a token. Ours: one that the RFC does not define is kept
abbrev pub as_forward : Reason → Forward
as_forward Bypass = forward.Bypass
as_forward Method = forward.Method
as_forward UriMiss = forward.UriMiss
as_forward VaryMiss = forward.VaryMiss
as_forward Miss = forward.Miss
as_forward Request = forward.Request
as_forward Stale = forward.Stale
as_forward Partial = forward.Partial

abbrev pub why_by : Seq ℕ → Option Reason → Forward
why_by token (Some r) = as_forward r
why_by token None = forward.Other token

abbrev pub why_of : Seq ℕ → Forward
why_of token = why_by token (reason token)

-- whether a number has three digits (RFC 9110 section 15)
abbrev pub three_digits : ℕ → Bool
three_digits n = nat_le 100 n && nat_le n 999

-- a status code. Ours: a number that has not three digits counts as absent
abbrev pub as_status : Option ℤ → Option ℕ
as_status (Some (pos n)) = only_if (three_digits n) n
as_status n = None

-- what is only meaningful when fwd is present
abbrev pub as_passed : Handling → Option Passed
as_passed h = option_map
    (λ token. record {
      why = why_of token;
      status = as_status (given h.fwd_status);
      stored = given h.stored;
      collapsed = given h.collapsed;
    })
    (given h.fwd)

-- whether hit is true, and what fwd says. Ours: if a member has both, which the RFC says should not
-- be, it is neither a hit nor a plain forward
abbrev pub as_outcome : Parameter Bool → Option Passed → Outcome
as_outcome (Is true) None = outcome.Hit
as_outcome (Is true) (Some passed) = outcome.Conflict passed
as_outcome hit (Some passed) = outcome.Forwarded passed
as_outcome hit None = outcome.Unsaid

-- the hop that stands for a cache's handling
abbrev pub as_hop : Handling → Hop
as_hop h = record {
  name = as_name h.cache;
  outcome = as_outcome h.hit (as_passed h);
  ttl = given h.ttl;
  key = given h.key;
  detail = option_map as_name (given h.detail);
}

-- the index is that of the first member that identifies no cache
abbrev pub IsFirstNameless : Seq Member → ℕ → Type 0
IsFirstNameless ms index =
    (m : Member) × (slice_get ms index ≡ Some m) × (handling m ≡ None)
    × All (λ n. (h : Handling) × (handling n ≡ Some h)) (take index ms)

-- for every List: if each member identifies a cache, the meaning is their handlings, in order;
-- otherwise it is the index of the first that does not
abbrev pub HopsAgree : Type 0
HopsAgree =
    (ms : Seq Member)
    → ((hs : Seq Handling) → handlings ms ≡ Some hs → hops (list_of ms) ≡ Ok (map as_hop hs))
    × (handlings ms ≡ None
    → (index : ℕ) × (hops (list_of ms) ≡ Err index) × IsFirstNameless ms index)

-- for each dialect and every field: what its lines mean is what the RFC reads in the List that they
-- parse as (RFC 9651 section 4.2). The RFC cites RFC 8941, which is one of the dialects
abbrev pub LinesAgree : Type 0
LinesAgree =
    (d : Dialect) (lines : Seq (Seq ℕ)) (ms : Seq Member) (hs : Seq Handling)
    → parse_field d kind.List (combine lines) ≡ Some (list_of ms) → handlings ms ≡ Some hs
    → MeansIn d kind.List hops lines (Ok (map as_hop hs))

-- 2.1 and 2.2 for each outcome: a hit was satisfied by the cache and did not go forward; a
-- forwarded request went forward and was not satisfied by it; a conflict says both, of which "only
-- one [..] should appear" (2.1)
abbrev pub OutcomesAgree : Type 0
OutcomesAgree =
    (h : Handling)
    → (IsSatisfied h → (WentForward h → ⊥) → (as_hop h).outcome ≡ outcome.Hit)
    × ((IsSatisfied h → ⊥) → WentForward h
    → (passed : Passed) × ((as_hop h).outcome ≡ outcome.Forwarded passed))
    × (IsSatisfied h → WentForward h
    → (passed : Passed) × ((as_hop h).outcome ≡ outcome.Conflict passed))
    × ((IsSatisfied h → ⊥) → (WentForward h → ⊥) → (as_hop h).outcome ≡ outcome.Unsaid)

-- 2.2: "its value is a Token that indicates why": for each of the defined tokens, its reason
abbrev pub ReasonsAgree : Type 0
ReasonsAgree =
    (h : Handling) (token : Seq ℕ) → h.fwd ≡ Is token
    → (passed : Passed) × (as_passed h ≡ Some passed)
    × ((r : Reason) → reason token ≡ Some r → passed.why ≡ as_forward r)
    × (reason token ≡ None → passed.why ≡ forward.Other token)

-- 2.3, 2.5, 2.6: the other parameters of a request that went forward. The caller has the status
-- code sent in the response, and fills it in for an absent fwd-status; so with an absent collapsed.
-- What is mistyped has no meaning in the RFC, and counts as absent here
abbrev pub PassedAgrees : Type 0
PassedAgrees =
    (h : Handling) (sent : ℤ)
    → ((passed : Passed) → as_passed h ≡ Some passed
    → (h.fwd_status ≡ Absent
    → next_hop_status sent h.fwd h.fwd_status ≡ Some (unwrap_or (option_map pos passed.status) sent))
    × ((n : ℕ) → three_digits n ≡ true → h.fwd_status ≡ Is (pos n)
    → next_hop_status sent h.fwd h.fwd_status ≡ option_map pos passed.status)
    × (was_stored h.fwd h.stored ≡ passed.stored)
    × ((h.collapsed ≡ Mistyped → ⊥)
    → was_collapsed h.fwd h.collapsed ≡ Some (unwrap_or passed.collapsed false)))
    × ((as_passed h ≡ None) ↔ (WentForward h → ⊥))

-- 2, 2.1: the response was obtained from the cache at this place, and no cache closer to the user
-- says that it was satisfied there without going forward
abbrev pub IsAnswer : Handling → Type 0
IsAnswer h = IsSatisfied h × (WentForward h → ⊥)

abbrev pub IsServedBy : Seq Handling → Option ℕ → Type 0
IsServedBy hs None = All (λ h. IsAnswer h → ⊥) hs
IsServedBy hs (Some place) =
    (h : Handling) × (slice_get hs place ≡ Some h) × IsAnswer h
    × All (λ g. IsAnswer g → ⊥) (drop (suc place) hs)

-- the cache that served the response is the last of those, the one closest to the user
abbrev pub ServedAgrees : Type 0
ServedAgrees = (hs : Seq Handling) → IsServedBy hs (served (map as_hop hs))

-- a result for a field that is a List: the hops are those of the handlings that the RFC reads in
-- it; the fault is that of the first member that identifies no cache; or an allocation failed, and
-- each member identifies one
abbrev pub IsPathOf : Field → Result (Seq Hop) UseFault → Type 0
IsPathOf (field.List l) (Ok path) =
    (hs : Seq Handling) × (handlings l.members ≡ Some hs) × (path ≡ map as_hop hs)
IsPathOf (field.List l) (Err (NotACache index)) = IsFirstNameless l.members index
IsPathOf (field.List l) (Err OutOfMemory) = (hs : Seq Handling) × (handlings l.members ≡ Some hs)
IsPathOf v r = ⊥

-- the own handling is that of the hop, and one of hit and fwd appears at most
abbrev pub IsOwn : Hop → Handling → Type 0
IsOwn hop own = (as_hop own ≡ canonical_hop hop) × AreExclusive own

-- a result of adding a hop to a field: the value that its lines parse as is preserved, and the own
-- member is the last. Ours: lines that don't parse have no value, so the own member is then the only
-- one, apart from them, while section 2 says without a condition that the value SHOULD be preserved.
-- A hop whose member would have both hit and fwd is not added
abbrev pub IsAdded : Dialect → Seq (Seq ℕ) → Hop → Result Appended AppendFault → Type 0
IsAdded d lines hop (Ok (Joined list)) =
    (existing : Seq Member)
    × (own : Handling)
    × (parse_field d kind.List (combine lines) ≡ Some (list_of existing))
    × Adds existing list.members own
    × IsOwn hop own
IsAdded d lines hop (Ok (Apart list refusal)) =
    (own : Handling)
    × (parse_field d kind.List (combine lines) ≡ None)
    × Adds [] list.members own
    × IsOwn hop own
IsAdded d lines hop (Err append_fault.Conflict) = (own : Handling) → IsOwn hop own → ⊥
IsAdded d lines hop (Err append_fault.OutOfMemory) = ⊤

-- for each dialect, all lines and every hop: what is appended is added as the RFC states
abbrev pub AddingAgrees : Type 0
AddingAgrees =
    (d : Dialect) (lines : Seq (Seq ℕ)) (hop : Hop) (r : Result Appended AppendFault)
    → HasStatusInRange hop → AppendsIn d lines hop r → IsAdded d lines hop r
