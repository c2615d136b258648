-- The age of a response that its Age states (RFC 9111 section 5.1).
use Rattle.std.specs.Prelude.{ℕ, Bool, ◌==◌, List, [], ◌∷◌, unwrap_or}
use Rattle.std.specs.List.{before_first}
use Rattle.sf_value.specs.Ascii.{comma}
use Rattle.sf_tool.specs.Lines.{trim}
use Rattle.sf_use.specs.CacheControl.{delta_seconds}

abbrev pub is_comma : ℕ → Bool
is_comma b = b == comma

-- "a cache encountering a message with a list-based Age field value SHOULD use the first member of
-- the field value, discarding subsequent ones"
abbrev pub first_member : List ℕ → List ℕ
first_member line = trim (before_first is_comma line)

-- "If the field value .. is invalid (e.g., it contains something other than a non-negative
-- integer), a cache SHOULD ignore the field"
abbrev pub age_of_line : List ℕ → ℕ
age_of_line line = unwrap_or (delta_seconds (first_member line)) 0

abbrev pub age_of_lines : List (List ℕ) → ℕ
age_of_lines [] = 0
age_of_lines (line ∷ lines) = age_of_line line
