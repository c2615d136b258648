-- The field lines of an input.
use Rattle.std.specs.Prelude.{ℕ, ◌-◌, List, ◌∷◌, map, length, take, drop, Option, Some, None}
use Rattle.std.specs.List.{prefix_len, suffix_len}
use Rattle.std.specs.Str.Lines.{lines}
use Rattle.sf_value.specs.Grammar.Classes.{is_ows}

abbrev pub without_lead : List ℕ → List ℕ
without_lead bytes = drop (prefix_len is_ows bytes) bytes

abbrev pub without_trail : List ℕ → List ℕ
without_trail bytes = take (length bytes - suffix_len is_ows bytes) bytes

-- the bytes without the blanks, spaces and tabs, at both ends
abbrev pub trim : List ℕ → List ℕ
trim bytes = without_trail (without_lead bytes)

-- the lines between line feeds, each without a carriage return directly before its line feed and
-- then without the blanks at its ends; an empty last part is no line
abbrev pub lines_of : List ℕ → List (List ℕ)
lines_of input = map trim (lines input)

-- a line, if there is one, and then the lines of an input
abbrev pub lines_after : Option (List ℕ) → List ℕ → List (List ℕ)
lines_after None input = lines_of input
lines_after (Some line) input = line ∷ lines_of input
