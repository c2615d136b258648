-- What parsing field lines returns.
use Rattle.std.specs.Prelude.{◌≡◌, ℕ, ◌-◌, ◌^◌, ◌<◌, List, [], ◌∷◌, length, take, Option, Some, None}
use Rattle.std.specs.Prelude.{Result, Ok, Err, ⊤}
use Rattle.sf_value.specs.declared.dialect.Dialect.{Dialect}
use Rattle.sf_value.specs.declared.value.Field.{Field}
use Rattle.sf_value.specs.declared.value.Kind.{Kind}
use Rattle.sf_value.specs.Grammar.Lines.{join, Viable}
use Rattle.sf_parse.specs.declared.refusal.Refusal.{Refusal}
use Rattle.sf_parse.specs.declared.refusal.Refusal.TheVariants.{OutOfMemory, Syntax, TooLong}
use Rattle.sf_parse.specs.declared.refusal.Refusal.TheVariants.{ReadFault}
use Rattle.sf_parse.specs.Parsers.{Parses}

-- the result for a text of n bytes depends on at most 2^64 - 1 of them: the text is no longer, or
-- the byte that is found is among the first 2^64 - 1
abbrev pub IsCounted : ℕ → Result Field Refusal → Type 0
IsCounted n (Ok v) = n < 2 ^ 64
IsCounted n (Err OutOfMemory) = ⊤
IsCounted n (Err (Syntax place None expected may_end)) = n < 2 ^ 64
IsCounted n (Err (Syntax place (Some b) expected may_end)) = place < 2 ^ 64 - 1
IsCounted n (Err (TooLong limit)) = ⊥
IsCounted n (Err (ReadFault place)) = ⊥

-- the lines are parsed as their joined text; the result is TooLong if this text has 2^64 bytes or
-- more, of which the first 2^64 - 1 are viable
abbrev pub ParsesLines : Dialect → Kind → List (List ℕ) → Result Field Refusal → Type 0
ParsesLines d kind lines (Err (TooLong limit)) =
    (limit ≡ 2 ^ 64 - 1) × (limit < length (join lines)) × Viable d kind (take limit (join lines))
ParsesLines d kind lines r = Parses d kind (join lines) r × IsCounted (length (join lines)) r

-- the lines that remain after others: the next one, if there is one, and those after it
abbrev pub remaining : Option (List ℕ) → List (List ℕ) → List (List ℕ)
remaining None lines = []
remaining (Some line) lines = line ∷ lines
