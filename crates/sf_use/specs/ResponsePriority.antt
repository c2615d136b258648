-- The priority of a response (RFC 9218 sections 5 and 8).
use Rattle.std.specs.Prelude.{◌≡◌, ℕ, pos, Bool, false, [], ◌∷◌, ◌++◌, Ok, codes}
use Rattle.std.specs.Prelude.{Option, Some, None}
use Rattle.std.specs.Option.{ForSome}
use Rattle.sf_value.specs.declared.value.Bare.TheVariants.{Integer, Boolean}
use Rattle.sf_value.specs.declared.value.Dict.{Dict}
use Rattle.sf_value.specs.declared.value.Field.{Field}
use Rattle.sf_value.specs.declared.value.Field.TheVariants as field
use Rattle.sf_value.specs.declared.value.Kind.TheVariants as kind
use Rattle.sf_value.specs.declared.value.Member.{Member}
use Rattle.sf_value.specs.declared.dialect.Dialect.{Dialect}
use Rattle.sf_value.specs.Grammar.Canonical.{canon}
use Rattle.sf_value.specs.Grammar.Pairs.{Pairs}
use Rattle.sf_field.specs.Asking.{MeansIn}
use Rattle.sf_use.specs.Ranges.{IsUrgency, usual_urgency}
use Rattle.sf_use.specs.Priority.{bare_member, merge_params, params_of_dict, params_of_field}
use Rattle.sf_use.specs.Priority.{priority_with_defaults}
use Rattle.sf_use.specs.declared.priority.Asked.{Asked}
use Rattle.sf_use.specs.declared.priority.Priority.{Priority}
use Rattle.sf_use.specs.declared.response_priority.ResponsePriority.{ResponsePriority}

-- what a response sets by the parameters of its field; one that is absent, or ignored (section 4),
-- is not set: "The absence of a priority parameter in an HTTP response indicates the server's
-- disinterest in changing the client-provided value" (section 8)
abbrev pub set_by : Asked → ResponsePriority
set_by a = record { urgency = a.urgency; incremental = a.incremental }

-- what is set, as parameters
abbrev pub asked_of : ResponsePriority → Asked
asked_of r = record { urgency = r.urgency; incremental = r.incremental }

-- what the Dictionary of a response sets
abbrev pub response_of_dict : Dict → ResponsePriority
response_of_dict d = set_by (params_of_dict d)

-- what the field of a response sets
abbrev pub response_of_field : Field → ResponsePriority
response_of_field f = set_by (params_of_field f)

-- a parameter of the response: what the server set, otherwise "the client-provided value" (section
-- 8); "omission of a priority parameter" in the request "implies the use of its default value"
abbrev pub for_request : {A : Type 0} → Option A → Option A → A → A
for_request (Some server) client default = server
for_request None (Some client) default = client
for_request None None default = default

-- the priority of the response to a request that asked for this
abbrev pub response_to : Asked → ResponsePriority → Priority
response_to request response = record {
  urgency = for_request response.urgency request.urgency usual_urgency;
  incremental = for_request response.incremental request.incremental false;
}

-- the member u, if the urgency is set, also if it is the default
abbrev pub urgency_set : Option ℕ → Pairs Member
urgency_set None = []
urgency_set (Some n) = (codes "u", bare_member (Integer (pos n))) ∷ []

-- the member i, if it is set, also if it is the default
abbrev pub incremental_set : Option Bool → Pairs Member
incremental_set None = []
incremental_set (Some b) = (codes "i", bare_member (Boolean b)) ∷ []

-- the Dictionary of a response: a parameter that is set is present, and any other is absent
abbrev pub response_dict : ResponsePriority → Dict
response_dict r = record { members = urgency_set r.urgency ++ incremental_set r.incremental }

-- a response that sets both parameters of a priority
abbrev pub fixed : Priority → ResponsePriority
fixed p = record { urgency = Some p.urgency; incremental = Some p.incremental }

-- the urgency is one, as each `Urgency` is
abbrev pub HasUrgencyInRange : ResponsePriority → Type 0
HasUrgencyInRange r = ForSome r.urgency IsUrgency

-- the priority of a response is read as it was written
abbrev pub ResponseReadAsWritten : Type 0
ResponseReadAsWritten =
    (r : ResponsePriority) → HasUrgencyInRange r → response_of_dict (response_dict r) ≡ r

-- in each dialect the text that is written, as the only line, means what was written
abbrev pub ResponseReadFromText : Type 0
ResponseReadFromText =
    (d : Dialect) (r : ResponsePriority) → HasUrgencyInRange r
    → MeansIn d kind.Dict (λ f. Ok (response_of_field f))
    (canon (field.Dict (response_dict r)) ∷ []) (Ok r)

-- whatever the request asks for, what was written is read and merged as it was meant
abbrev pub ResponseIsMeant : Type 0
ResponseIsMeant =
    (r : ResponsePriority) (request : Asked) → HasUrgencyInRange r
    → priority_with_defaults (merge_params request (params_of_dict (response_dict r)))
    ≡ response_to request r

-- a response that sets both parameters has them for every request
abbrev pub FixedIsKept : Type 0
FixedIsKept =
    (p : Priority) (request : Asked) → IsUrgency p.urgency
    → priority_with_defaults (merge_params request (params_of_dict (response_dict (fixed p)))) ≡ p
