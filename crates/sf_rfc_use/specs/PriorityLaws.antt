-- What it means that priorities are read, filled in and merged as RFC 9218 states.
use Rattle.std.specs.Prelude.{◌≡◌, ℕ, false, List as Seq, codes, Ok}
use Rattle.sf_value.specs.declared.dialect.Dialect.{Dialect}
use Rattle.sf_value.specs.declared.dialect.Dialect.TheVariants.{Rfc9651}
use Rattle.sf_value.specs.declared.value.Field.TheVariants as field
use Rattle.sf_value.specs.declared.value.Member.{Member}
use Rattle.sf_value.specs.declared.value.Kind.TheVariants as kind
use Rattle.sf_value.specs.Grammar.Canonical.{canon}
use Rattle.sf_field.specs.Asking.{MeansIn}
use Rattle.sf_use.specs.declared.priority.Asked.{Asked}
use Rattle.sf_use.specs.declared.priority.Priority.{Priority}
use Rattle.sf_use.specs.Priority.{params_of_dict, params_of_field, priority_with_defaults}
use Rattle.sf_use.specs.Priority.{merge_params, prio}
use Rattle.sf_use.specs.Ranges.{IsUrgency}
use Rattle.sf_use.specs.ResponsePriority.{HasUrgencyInRange, response_dict, response_of_dict}
use Rattle.sf_use.specs.ResponsePriority.{response_to}
use Rattle.sf_use.specs.declared.response_priority.ResponsePriority.{ResponsePriority}
use Rattle.sf_rfc.specs.Rfc9651.Parsing.{Map, combine}
use Rattle.sf_rfc_use.specs.OrderedMaps.{value_of}
use Rattle.sf_rfc_use.specs.Rfc9218.{Carries, Parameters, parameters, request_urgency}
use Rattle.sf_rfc_use.specs.Rfc9218.{request_incremental, KeepsClients, PrefersServers}
use Rattle.sf_rfc_use.specs.Rfc9218.{Encodes, IsServers, IsUnchanged}

-- the parameters, as what was asked for
abbrev pub as_asked : Parameters → Asked
as_asked p = record { urgency = p.u; incremental = p.i }

-- for every Dictionary: what it sets are its priority parameters
abbrev pub ParametersAgree : Type 0
ParametersAgree =
    (members : Map Member)
    → params_of_dict (record { members = members }) ≡ as_asked (parameters members)

-- for each dialect and every field: what its lines mean are the parameters that they carry. The RFC
-- cites RFC 8941, which is one of the dialects
abbrev pub LinesAgree : Type 0
LinesAgree =
    (d : Dialect) (lines : Seq (Seq ℕ)) (members : Map Member)
    → Carries d (combine lines) members
    → MeansIn d kind.Dict (λ f. Ok (params_of_field f)) lines (Ok (as_asked (parameters members)))

-- unknown parameters are ignored: Dictionaries with the same members u and i set the same
abbrev pub UnknownIgnored : Type 0
UnknownIgnored =
    (these those : Map Member) → value_of (codes "u") these ≡ value_of (codes "u") those
    → value_of (codes "i") these ≡ value_of (codes "i") those
    → params_of_dict (record { members = these }) ≡ params_of_dict (record { members = those })

-- for every Dictionary of a request: the priority is that of its parameters, with the defaults
abbrev pub RequestsAgree : Type 0
RequestsAgree =
    (members : Map Member)
    → priority_with_defaults (params_of_dict (record { members = members }))
    ≡ record {
      urgency = request_urgency (parameters members);
      incremental = request_incremental (parameters members);
    }

-- a merged parameter keeps the client's where the response has none. Ours, as in the RFC's example:
-- otherwise it is the response's
abbrev pub MergingAgrees : Type 0
MergingAgrees =
    (client server : Map Member)
    → let c : Parameters = parameters client in
    let s : Parameters = parameters server in
    let merged : Asked =
    merge_params (params_of_dict (record { members = client }))
    (params_of_dict (record { members = server })) in
    KeepsClients c.u s.u merged.urgency
    × KeepsClients c.i s.i merged.incremental
    × PrefersServers c.u s.u merged.urgency
    × PrefersServers c.i s.i merged.incremental

-- what a request and its response set together, as in the RFC's example
abbrev pub IsMerged : Parameters → Parameters → Asked → Type 0
IsMerged client server merged =
    PrefersServers client.u server.u merged.urgency
    × PrefersServers client.i server.i merged.incremental

-- what a response sets, as parameters
abbrev pub as_parameters : ResponsePriority → Parameters
as_parameters r = record { u = r.urgency; i = r.incremental }

-- for every Dictionary of a response: it sets its priority parameters, and no defaults
abbrev pub ResponsesAgree : Type 0
ResponsesAgree =
    (members : Map Member)
    → as_parameters (response_of_dict (record { members = members })) ≡ parameters members

-- for all Dictionaries of a request and its response: a parameter that the response does not have is
-- the client's, or its default. Ours, as in the RFC's example: otherwise it is the response's
abbrev pub RepliesAgree : Type 0
RepliesAgree =
    (client server : Map Member)
    → let c : Parameters = parameters client in
    let s : Parameters = parameters server in
    let priority : Priority =
    response_to (params_of_dict (record { members = client }))
    (response_of_dict (record { members = server })) in
    IsUnchanged 3 c.u s.u priority.urgency
    × IsUnchanged false c.i s.i priority.incremental
    × IsServers s.u priority.urgency
    × IsServers s.i priority.incremental

-- the field that is written for a response has the parameters that are set, and no other, in each
-- dialect
abbrev pub ResponsesEncode : Type 0
ResponsesEncode =
    (d : Dialect) (r : ResponsePriority) → HasUrgencyInRange r
    → Encodes d (canon (field.Dict (response_dict r))) (as_parameters r)

-- the field that is written for a request has parameters that mean its priority, with the defaults
-- for those that it omits
abbrev pub RequestsEncode : Type 0
RequestsEncode =
    (p : Priority) → IsUrgency p.urgency
    → (written : Parameters)
    × Encodes Rfc9651 (canon (field.Dict (prio p))) written
    × (request_urgency written ≡ p.urgency)
    × (request_incremental written ≡ p.incremental)
