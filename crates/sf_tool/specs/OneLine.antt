-- The steps of reading an input's fields, for one line.
use Rattle.std.specs.Prelude.{◌≡◌, ◌⊎◌, ℕ, true, false, List, [], ◌∷◌}
use Rattle.http_header.specs.FieldValue.{plain_value}
use Rattle.http_header.specs.HeaderMap.{append_all, RefusesAppend}
use Rattle.sf_field.specs.Headers.{Headers}
use Rattle.sf_tool.specs.declared.fields.LineFault.{LineFault}
use Rattle.sf_tool.specs.declared.fields.LineFault.TheVariants as fault
use Rattle.sf_tool.specs.declared.fields.FieldLine.{FieldLine}
use Rattle.sf_tool.specs.declared.fields.FieldLine.TheVariants.{Dropped, Refused, Listed}
use Rattle.sf_tool.specs.Fields.{Targets, is_of_listed, is_refused, name_of, value_of}
use Rattle.sf_tool.specs.Fields.{listed_fields, IsTaken}

-- what the line is
abbrev pub IsLine : Targets → List ℕ → FieldLine → Type 0
IsLine targets line Dropped =
    (is_refused targets line ≡ false) × (is_of_listed targets line ≡ false)
IsLine targets line Refused = is_refused targets line ≡ true
IsLine targets line (Listed name value) =
    IsTaken targets line × (name ≡ name_of line) × (value ≡ plain_value (value_of line))

-- the map has no capacity for the field of the line
abbrev pub ExceedsCapacity : Targets → List ℕ → Headers → Type 0
ExceedsCapacity targets line headers =
    (is_of_listed targets line ≡ true) × RefusesAppend headers (name_of line)

-- the line is not refused, and its field, if it is listed, is added
abbrev pub AddsField : Targets → List ℕ → Headers → Headers → Type 0
AddsField targets line old new =
    (is_refused targets line ≡ false)
    × ¬ (ExceedsCapacity targets line old)
    × (new ≡ append_all old (listed_fields targets (line ∷ [])))

-- why the line was not taken; an allocation fails only for a listed field
abbrev pub IsLineFault : Targets → List ℕ → Headers → LineFault → Type 0
IsLineFault targets line headers fault.Refused =
    (is_refused targets line ≡ true) ⊎ ExceedsCapacity targets line headers
IsLineFault targets line headers fault.OutOfMemory = IsTaken targets line
