-- What a Priority field sets, and how it is written (RFC 9218 sections 4, 5 and 8).
use Rattle.std.specs.Prelude.{ℕ, pos, nat_le, ◌==◌, if◌then◌else◌, Bool, true, false}
use Rattle.std.specs.Prelude.{[], ◌∷◌, ◌++◌, Option, Some, None, unwrap_or, codes}
use Rattle.std.specs.Option.{option_or}
use Rattle.sf_value.specs.declared.value.Bare.{Bare}
use Rattle.sf_value.specs.declared.value.Bare.TheVariants.{Integer, Boolean}
use Rattle.sf_value.specs.declared.value.Dict.{Dict}
use Rattle.sf_value.specs.declared.value.Field.{Field}
use Rattle.sf_value.specs.declared.value.Field.TheVariants as field
use Rattle.sf_value.specs.declared.value.Member.{Member}
use Rattle.sf_value.specs.declared.value.Member.TheVariants as member
use Rattle.sf_value.specs.Grammar.Items.{item}
use Rattle.sf_value.specs.Grammar.Pairs.{Pairs, value_at}
use Rattle.sf_use.specs.Ranges.{least_urgent, usual_urgency}
use Rattle.sf_use.specs.declared.priority.Asked.{Asked}
use Rattle.sf_use.specs.declared.priority.Priority.{Priority}

-- an Integer that is an urgency (section 4.1)
abbrev pub urgency_in : Bare → Option ℕ
urgency_in (Integer (pos n)) = if nat_le n least_urgent then Some n else None
urgency_in x = None

-- the urgency that a member sets, whatever its parameters
abbrev pub urgency : Option Member → Option ℕ
urgency (Some (member.Item i)) = urgency_in i.bare
urgency m = None

-- a Boolean (section 4.2)
abbrev pub boolean : Bare → Option Bool
boolean (Boolean b) = Some b
boolean x = None

-- whether a member sets that the response is incremental, whatever its parameters
abbrev pub incremental : Option Member → Option Bool
incremental (Some (member.Item i)) = boolean i.bare
incremental m = None

-- what a Dictionary sets (section 4); a member that is unknown, of another type or out of range
-- sets nothing
abbrev pub params_of_dict : Dict → Asked
params_of_dict d = record {
  urgency = urgency (value_at (codes "u") d.members);
  incremental = incremental (value_at (codes "i") d.members);
}

-- what a field sets; a field that is no Dictionary is never passed, and would set nothing
abbrev pub params_of_field : Field → Asked
params_of_field (field.Dict d) = params_of_dict d
params_of_field f = record { urgency = None; incremental = None }

-- each parameter is the server's if the server sets it, otherwise the client's (section 8)
abbrev pub merge_params : Asked → Asked → Asked
merge_params client server = record {
  urgency = option_or server.urgency client.urgency;
  incremental = option_or server.incremental client.incremental;
}

-- the defaults for absent parameters (sections 4.1 and 4.2)
abbrev pub priority_with_defaults : Asked → Priority
priority_with_defaults a = record {
  urgency = unwrap_or a.urgency usual_urgency;
  incremental = unwrap_or a.incremental false;
}

-- a member that is an Item without parameters
abbrev pub bare_member : Bare → Member
bare_member x = member.Item (item x [])

-- the member u, unless it is the default
abbrev pub urgency_written : ℕ → Pairs Member
urgency_written n =
    if n == usual_urgency then [] else (codes "u", bare_member (Integer (pos n))) ∷ []

-- the member i, unless it is the default
abbrev pub incremental_written : Bool → Pairs Member
incremental_written true = (codes "i", bare_member (Boolean true)) ∷ []
incremental_written false = []

-- the Dictionary of a priority
abbrev pub prio : Priority → Dict
prio p = record {
  members = urgency_written p.urgency ++ incremental_written p.incremental;
}
