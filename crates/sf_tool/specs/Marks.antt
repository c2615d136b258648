-- The place at which a line is no field line.
use Rattle.std.specs.Prelude.{ℕ, Bool, ◌==◌, ◌||◌, ◌&&◌, not, nat_lt, if◌then◌else◌, List, get_or}
use Rattle.std.specs.List.{prefix_len}
use Rattle.sf_value.specs.Ascii.{tab}
use Rattle.sf_value.specs.Grammar.Classes.{is_tchar}
use Rattle.sf_tool.specs.Fields.{is_colon, is_control}

-- the place of the first byte that can't be in a field name (RFC 9110 section 5.1), or the end of
-- the line
abbrev pub name_end : List ℕ → ℕ
name_end line = prefix_len is_tchar line

-- a byte that can be in a field line (RFC 9110 section 5.5)
abbrev pub is_line_byte : ℕ → Bool
is_line_byte b = b == tab || not (is_control b)

-- there is a colon directly after a name
abbrev pub is_name_ended : List ℕ → Bool
is_name_ended line = nat_lt 0 (name_end line) && is_colon (get_or line (name_end line) 0)

-- the end of the name or, if a colon is there, the first byte that can't be in a field line
abbrev pub bad_place : List ℕ → ℕ
bad_place line = if is_name_ended line then prefix_len is_line_byte line else name_end line
