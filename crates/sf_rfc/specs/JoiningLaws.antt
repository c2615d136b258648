-- The law that field lines are combined as the grammar joins them.
use Rattle.std.specs.Prelude.{◌≡◌, ℕ, List}
use Rattle.sf_value.specs.Grammar.Lines.{join}
use Rattle.sf_rfc.specs.Rfc9651.Parsing.{combine}

-- the lines of a field, combined by the RFC, are the text of every claim on lines
abbrev pub LinesCombine : Type 0
LinesCombine = (lines : List (List ℕ)) → combine lines ≡ join lines
