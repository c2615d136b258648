-- What reading a source to its end, or to a limit, returns.
use Rattle.std.specs.Prelude.{◌≡◌, ℕ, ◌+◌, ◌<◌, ◌≤◌, List, length}
use Rattle.sf_value.specs.Devices.{SourceState, Gives, GivesAndEnds, GivesAndFails}
use Rattle.sf_tool.specs.declared.reading.ReadAllFault.{ReadAllFault}
use Rattle.sf_tool.specs.declared.reading.ReadAllFault.TheVariants.{OutOfMemory, ReadFault}
use Rattle.sf_tool.specs.declared.reading.ReadAllFault.TheVariants.{TooLong}

-- which bytes were given, to the end
abbrev pub ReadsToEnd : SourceState → SourceState → ℕ → List ℕ → Type 0
ReadsToEnd old new max bytes = GivesAndEnds old new bytes × (length bytes ≤ max)

-- which bytes were given, and why reading ended: an allocation failed for some of them, within the
-- limit; a read failed after them; or there was one more than the limit
abbrev pub StopsFor : SourceState → SourceState → ℕ → ReadAllFault → Type 0
StopsFor old new max OutOfMemory =
    (bytes : List ℕ) × Gives old new bytes × (0 < length bytes) × (length bytes ≤ max)
StopsFor old new max (ReadFault place) =
    (bytes : List ℕ) × GivesAndFails old new bytes × (length bytes ≡ place) × (place ≤ max)
StopsFor old new max (TooLong limit) =
    (bytes : List ℕ) × Gives old new bytes × (length bytes ≡ max + 1) × (limit ≡ max)
