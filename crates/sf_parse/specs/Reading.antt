-- What parsing a reader's text returns.
use Rattle.std.specs.Prelude.{◌≡◌, ℕ, ◌+◌, ◌-◌, ◌^◌, ◌<◌, ◌≤◌, ◌⊎◌, List, ◌++◌, length, take}
use Rattle.std.specs.Prelude.{Some, None, Result, Ok, Err}
use Rattle.sf_value.specs.Devices.{SourceState, capped, Gives, GivesAndEnds, GivesAndFails}
use Rattle.sf_value.specs.declared.dialect.Dialect.{Dialect}
use Rattle.sf_value.specs.declared.value.Field.{Field}
use Rattle.sf_value.specs.declared.value.Kind.{Kind}
use Rattle.sf_value.specs.Grammar.Lines.{Viable}
use Rattle.sf_parse.specs.declared.refusal.Refusal.{Refusal}
use Rattle.sf_parse.specs.declared.refusal.Refusal.TheVariants.{OutOfMemory, Syntax, TooLong}
use Rattle.sf_parse.specs.declared.refusal.Refusal.TheVariants.{ReadFault}
use Rattle.sf_parse.specs.Parsers.{Finishes}
use Rattle.sf_value.specs.Grammar.Refusals.{IsSyntax}
use Rattle.sf_parse.specs.AllocationFree.{TakesNoMemory}

-- calls gave these bytes up to the source's end, which one call returned; or these are as many as a
-- count can be, and no further one was read
abbrev pub GivesAll : SourceState → SourceState → List ℕ → Type 0
GivesAll old new bytes =
    GivesAndEnds old new bytes ⊎ (Gives old new bytes × (2 ^ 64 - 1 ≤ length bytes))

-- an allocation failed for a text that allocates, while it was read or at its end
abbrev pub AllocationFailed : Kind → SourceState → SourceState → ℕ → List ℕ → Type 0
AllocationFailed kind old new max text =
    ¬ (TakesNoMemory kind text)
    × ((Gives old new text × (length text ≤ capped (max + 1)))
    ⊎ (GivesAndEnds old new text × (length text ≤ max)))

-- the reader's end is within the limit, and the result is that at the end of its text
abbrev pub ReadToEnd : Dialect → Kind → SourceState → SourceState → ℕ → Result Field Refusal
    → Type 0
ReadToEnd d kind old new max r =
    (text : List ℕ)
    × GivesAll old new text
    × (length text ≤ max)
    × Finishes d kind text r

-- The result for the bytes read: a byte below the limit that no text of the kind continues with,
-- whatever comes after; a failed read after a viable prefix; more bytes than the limit, of which
-- the first are viable; or the end of the reader's text, which is read once.
abbrev pub ReadAndParsed : Dialect → Kind → SourceState → SourceState → ℕ → Result Field Refusal
    → Type 0
ReadAndParsed d kind old new max (Ok v) = ReadToEnd d kind old new max (Ok v)
ReadAndParsed d kind old new max (Err OutOfMemory) =
    (text : List ℕ) × AllocationFailed kind old new max text
ReadAndParsed d kind old new max (Err (Syntax place None expected may_end)) =
    ReadToEnd d kind old new max (Err (Syntax place None expected may_end))
ReadAndParsed d kind old new max (Err (Syntax place (Some b) expected may_end)) =
    (text : List ℕ)
    × Gives old new text
    × (length text ≤ capped (max + 1))
    × (place < max)
    × ((more : List ℕ) → IsSyntax d kind (text ++ more) place (Some b) expected may_end)
ReadAndParsed d kind old new max (Err (ReadFault place)) =
    (text : List ℕ)
    × GivesAndFails old new text
    × (length text ≡ place)
    × (place ≤ max)
    × Viable d kind text
ReadAndParsed d kind old new max (Err (TooLong limit)) =
    (text : List ℕ)
    × Gives old new text
    × (length text ≡ max + 1)
    × (limit ≡ max)
    × Viable d kind (take max text)
