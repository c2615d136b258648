-- The laws of priorities. Each is the contract of a function in `src/laws.rt`.
use Rattle.std.specs.Prelude.{◌≡◌, [], ◌∷◌, Ok}
use Rattle.sf_value.specs.declared.value.Field.TheVariants as field
use Rattle.sf_value.specs.declared.value.Kind.TheVariants as kind
use Rattle.sf_value.specs.Grammar.Canonical.{canon}
use Rattle.sf_field.specs.Asking.{Means}
use Rattle.sf_use.specs.declared.priority.Asked.{Asked}
use Rattle.sf_use.specs.declared.priority.Priority.{Priority}
use Rattle.sf_use.specs.Ranges.{IsUrgency}
use Rattle.sf_use.specs.Priority.{params_of_dict, params_of_field, priority_with_defaults}
use Rattle.sf_use.specs.Priority.{merge_params, prio}

-- a priority is read as it was written
abbrev pub ReadAsWritten : Type 0
ReadAsWritten =
    (p : Priority) → IsUrgency p.urgency → priority_with_defaults (params_of_dict (prio p)) ≡ p

-- the text that is written for a priority, as the only line, means what its Dictionary sets
abbrev pub ReadFromText : Type 0
ReadFromText =
    (p : Priority) → IsUrgency p.urgency
    → Means kind.Dict (λ f. Ok (params_of_field f)) (canon (field.Dict (prio p)) ∷ [])
    (Ok (params_of_dict (prio p)))

-- three priorities may be merged in any grouping
abbrev pub MergesInParts : Type 0
MergesInParts =
    (a b c : Asked) → merge_params (merge_params a b) c ≡ merge_params a (merge_params b c)
