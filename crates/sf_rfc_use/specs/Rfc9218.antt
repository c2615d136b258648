-- RFC 9218 sections 4, 5 and 8, sentence by sentence: what a Priority field sets, and what it means
-- in a request and in a response. Above each definition are the sentences that it states. Left out
-- are those that ask something of who writes a field, and those that only explain.
use Rattle.std.specs.Prelude.{◌≡◌, ℕ, pos, Bool, false, nat_le, List as Seq}
use Rattle.std.specs.Prelude.{codes, Option, Some, None}
use Rattle.sf_value.specs.declared.dialect.Dialect.{Dialect}
use Rattle.sf_value.specs.declared.value.Bare.{Bare}
use Rattle.sf_value.specs.declared.value.Bare.TheVariants.{Integer, Boolean}
use Rattle.sf_value.specs.declared.value.Member.{Member}
use Rattle.sf_value.specs.declared.value.Member.TheVariants as member
use Rattle.sf_value.specs.declared.value.Field.TheVariants as field
use Rattle.sf_value.specs.declared.value.Kind.TheVariants as kind
use Rattle.sf_rfc.specs.Rfc9651.Words.{only_if}
use Rattle.sf_rfc.specs.Rfc9651.Parsing.{Map, parse_field}
use Rattle.sf_rfc_use.specs.OrderedMaps.{value_of}

-- 4: "Receivers parse the Dictionary as described in Section 4.2 of [STRUCTURED-FIELDS]."
-- 5: "The Priority HTTP header field is a Dictionary that carries priority parameters"
abbrev pub Carries : Dialect → Seq ℕ → Map Member → Type 0
Carries d text members =
    parse_field d kind.Dict text ≡ Some (field.Dict (record { members = members }))

-- 4: "This document defines the urgency (u) and incremental (i) priority parameters."
pub record Parameters : Type 0 where
  pub u : Option ℕ
  pub i : Option Bool

-- 4.1: "The urgency (u) parameter value is Integer [..], between 0 and 7 inclusive"
abbrev pub urgency_value : Bare → Option ℕ
urgency_value (Integer (pos n)) = only_if (nat_le n 7) n
urgency_value x = None

-- 4.2: "The incremental (i) parameter value is Boolean"
abbrev pub incremental_value : Bare → Option Bool
incremental_value (Boolean b) = Some b
incremental_value x = None

-- 4: "priority parameters with out-of-range values, or values of unexpected types MUST be ignored"
abbrev pub unless_ignored : {X : Type 0} → (Bare → Option X) → Option Member → Option X
unless_ignored value (Some (member.Item item)) = value item.bare
unless_ignored value (Some (member.Inner l)) = None
unless_ignored value None = None

-- 4: "Where the Dictionary is successfully parsed, this document places the additional requirement
-- that unknown priority parameters [..] MUST be ignored."
abbrev pub parameters : Map Member → Parameters
parameters members = record {
  u = unless_ignored urgency_value (value_of (codes "u") members);
  i = unless_ignored incremental_value (value_of (codes "i") members);
}

-- 4: "When receiving an HTTP request that does not carry these priority parameters, a server SHOULD
-- act as if their default values were specified."
abbrev pub or_default : {X : Type 0} → X → Option X → X
or_default default (Some x) = x
or_default default None = default

-- 4.1: "The default is 3."
abbrev pub request_urgency : Parameters → ℕ
request_urgency p = or_default 3 p.u

-- 4.2: "The default value of the incremental parameter is false (0)."
abbrev pub request_incremental : Parameters → Bool
request_incremental p = or_default false p.i

-- 8: "The absence of a priority parameter in an HTTP response indicates the server's disinterest in
-- changing the client-provided value. This is different from the request header field, in which
-- omission of a priority parameter implies the use of its default value (see Section 4)."
-- 8: "No guidance is provided for merging priorities; this is left as an implementation decision.":
-- a merged parameter keeps the client's where the server has none, and is free otherwise
abbrev pub KeepsClients : {X : Type 0} → Option X → Option X → Option X → Type 0
KeepsClients client None merged = merged ≡ client
KeepsClients client (Some x) merged = Unit {0}

-- 8, the example: "the intermediary might alter its understanding of the urgency from 5 to 1,
-- because it prefers the server-provided value over the client's. The incremental value continues
-- to be true, i.e., the value specified by the client, as the server did not specify the
-- incremental (i) parameter."
abbrev pub PrefersServers : {X : Type 0} → Option X → Option X → Option X → Type 0
PrefersServers client None merged = merged ≡ client
PrefersServers client (Some x) merged = merged ≡ Some x

-- 8: "The absence of a priority parameter in an HTTP response indicates the server's disinterest in
-- changing the client-provided value. This is different from the request header field, in which
-- omission of a priority parameter implies the use of its default value (see Section 4).": for a
-- request, a parameter that the server does not set is the client's or the default, and is free
-- otherwise
abbrev pub IsUnchanged : {X : Type 0} → X → Option X → Option X → X → Type 0
IsUnchanged default client None x = x ≡ or_default default client
IsUnchanged default client (Some y) x = Unit {0}

-- 8, the example: "it prefers the server-provided value over the client's"
abbrev pub IsServers : {X : Type 0} → Option X → X → Type 0
IsServers None x = Unit {0}
IsServers (Some y) x = x ≡ y

-- 4: "For both the Priority header field and the PRIORITY_UPDATE frame, the set of priority
-- parameters is encoded as a Dictionary"
abbrev pub Encodes : Dialect → Seq ℕ → Parameters → Type 0
Encodes d text p = (members : Map Member) × Carries d text members × (parameters members ≡ p)
