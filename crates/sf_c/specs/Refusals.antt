-- A refusal as a struct.
use Rattle.std.specs.Prelude.{◌≡◌, ℕ, ◌+◌, ◌*◌, ◌^◌, ℤ, pos, negsuc, Bool, true, false, List}
use Rattle.std.specs.Prelude.{◌==◌, not, nat_lt, if◌then◌else◌, Option, Some, None}
use Rattle.sf_value.specs.declared.dialect.Dialect.{Dialect}
use Rattle.sf_value.specs.declared.value.Kind.{Kind}
use Rattle.sf_value.specs.Grammar.Refusals.{IsSyntax}
use Rattle.sf_parse.specs.declared.refusal.Refusal.{Refusal}
use Rattle.sf_parse.specs.declared.refusal.Refusal.TheVariants.{Syntax}
use Rattle.sf_c.specs.declared.refusal.SyntaxRefusal.{SyntaxRefusal}

-- the byte that was found, or -1 if the text ended
abbrev pub found_number : Option ℕ → ℤ
found_number (Some b) = pos b
found_number None = negsuc 0

-- 1 for true, 0 for false
abbrev pub flag_number : Bool → ℕ
flag_number true = 1
flag_number false = 0

-- the struct has these parts; bit b of the set is that of byte b
abbrev pub SaysSyntax : SyntaxRefusal → ℕ → Option ℕ → ℕ → Bool → Type 0
SaysSyntax r place found expected may_end =
    (r.place ≡ place)
    × (r.found ≡ found_number found)
    × (r.expected_low + r.expected_high * 2 ^ 64 ≡ expected)
    × (r.may_end ≡ flag_number may_end)

-- the struct has an exact refusal of the text t
abbrev pub SaysRefusal : Dialect → Kind → List ℕ → SyntaxRefusal → Type 0
SaysRefusal d k t r =
    (place : ℕ) × (found : Option ℕ) × (expected : ℕ) × (may_end : Bool)
    × SaysSyntax r place found expected may_end
    × IsSyntax d k t place found expected may_end

-- the byte of a number from 0 to 255; any other number means that the text ended
abbrev pub found_by : ℤ → Option ℕ
found_by (pos n) = if nat_lt n 256 then Some n else None
found_by (negsuc n) = None

-- the refusal of a struct, whose numbers may be any
abbrev pub refusal_by : SyntaxRefusal → Refusal
refusal_by r =
    Syntax r.place (found_by r.found) (r.expected_low + r.expected_high * 2 ^ 64)
    (not (r.may_end == 0))
