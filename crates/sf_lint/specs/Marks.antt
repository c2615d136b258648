-- The place of a refusal of a field in an input.
use Rattle.std.specs.Prelude.{ℕ, suc, ◌+◌, ◌-◌, min, nat_lt, if◌then◌else◌, List, [], ◌∷◌, length}
use Rattle.std.specs.Prelude.{Option, Some, None}
use Rattle.std.specs.List.{prefix_len, after_first}
use Rattle.sf_value.specs.Grammar.Classes.{is_ows}
use Rattle.sf_tool.specs.Fields.{is_colon, word_of, value_of}
use Rattle.sf_parse.specs.Spots.{LinePlace}
use Rattle.sf_lint.specs.Head.{is_named}

-- the number of bytes of a field line before its value: the name, the colon and the blanks
abbrev pub offset_of : List ℕ → ℕ
offset_of line = length (word_of line) + 1 + prefix_len is_ows (after_first is_colon line)

-- a place of a line's value, as a place of the line; the comma and the space that join the value to
-- the next one belong to its end
abbrev pub in_line : ℕ → List ℕ → ℕ → LinePlace
in_line n line place =
    record { line = n; place = offset_of line + min place (length (value_of line)); text = line }

-- the place in lines, numbered from n on, of a place of the joined values of this name
abbrev pub mark_in : ℕ → List ℕ → List (List ℕ) → ℕ → Option LinePlace
mark_in n name [] place = None
mark_in n name (l ∷ ls) place =
    if is_named name l then (
    if nat_lt place (length (value_of l) + 2) then Some (in_line n l place)
    else mark_in (suc n) name ls (place - (length (value_of l) + 2))
    )
    else mark_in (suc n) name ls place
