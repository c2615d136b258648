-- The lines that `targeted` prints for the choice of a field.
use Rattle.std.specs.Prelude.{ℕ, Bool, true, false, List, [], ◌++◌, get_or, codes, decimal}
use Rattle.std.specs.Prelude.{◌<◌, length, Option, None, Some, ⊤}
use Rattle.sf_use.specs.Targeted.{life}
use Rattle.sf_use.specs.declared.targeted.Policy.{Policy}
use Rattle.sf_use.specs.declared.targeted.Choice.{Choice}
use Rattle.sf_use.specs.declared.targeted.Choice.TheVariants as choice

-- a lifetime in seconds
abbrev pub lifetime_text : Option ℕ → List ℕ
lifetime_text None = codes "none"
lifetime_text (Some seconds) = decimal seconds

-- the line of a directive, if it is set
abbrev pub flag_line : List ℕ → Bool → List ℕ
flag_line line true = line
flag_line line false = []

abbrev pub flag_lines : Policy → List ℕ
flag_lines p =
    flag_line (codes "must-revalidate\n") p.must_revalidate
    ++ (flag_line (codes "no-store\n") p.no_store
    ++ (flag_line (codes "no-cache\n") p.no_cache
    ++ flag_line (codes "private\n") p.is_private))

abbrev pub policy_lines : Policy → List ℕ
policy_lines p =
    codes "lifetime shared "
    ++ (lifetime_text (life p true)
    ++ (codes "\nlifetime private "
    ++ (lifetime_text (life p false) ++ (codes "\n" ++ flag_lines p))))

-- the index of the chosen field, its name in lower case, and its policy
abbrev pub field_lines : ℕ → List ℕ → Policy → List ℕ
field_lines index name p =
    codes "field "
    ++ (decimal index ++ (codes " " ++ (name ++ (codes "\n" ++ policy_lines p))))

-- the index of a chosen field is that of one of the names
abbrev pub IsPlaceOf : List (List ℕ) → Choice → Type 0
IsPlaceOf names (choice.Field index p) = index < length names
IsPlaceOf names choice.Fallback = ⊤

-- the lines of a choice among these names
abbrev pub choice_lines : List (List ℕ) → Choice → List ℕ
choice_lines names (choice.Field index p) = field_lines index (get_or names index []) p
choice_lines names choice.Fallback = codes "fallback\n"

-- the line of a refusal for a line of the input
abbrev pub refused_line : ℕ → List ℕ
refused_line number = codes "refused line " ++ (decimal number ++ codes "\n")
