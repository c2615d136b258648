-- What the steps of parsing the arguments return for a command that clap found in them.
use Rattle.std.specs.Prelude.{◌≡◌, ℕ, ◌+◌, ◌<◌, ◌≤◌, true, List, length, take, Option, None, Some}
use Rattle.std.specs.Prelude.{IsSomeAnd, codes}
use Rattle.std.specs.List.{list_all}
use Rattle.clap.specs.Walk.{Row, Text, all_of}
use Rattle.sf_tool.specs.declared.request.Request.{Request}
use Rattle.sf_tool.specs.declared.request.RequestFault.{RequestFault}
use Rattle.sf_tool.specs.declared.request.RequestFault.TheVariants.{Usage, OutOfMemory}
use Rattle.sf_tool.specs.CommandLine.{AreNames, AsksFor}
use Rattle.sf_tool.specs.Fields.{is_header_name}
use Rattle.sf_tool.specs.Request.{most_names}

-- the command, with what was given, makes no request
abbrev pub AsksForNone : Text → List Row → Type 0
AsksForNone word rows = (request : Request) → ¬ (AsksFor word rows request)

-- there are at most 64 words, and the first n + 1 of them are names: an allocation may fail for the
-- last of these
abbrev pub MayAllocate : List Text → Type 0
MayAllocate words =
    (length words ≤ most_names)
    × ((n : ℕ) × (n < length words) × (list_all is_header_name (take (n + 1) words) ≡ true))

-- Usage, if a command that was found makes no request; an allocation fails only for the names of
-- `targeted`
abbrev pub IsCommandFault : Text → List Row → RequestFault → Type 0
IsCommandFault word rows Usage = AsksForNone word rows
IsCommandFault word rows OutOfMemory =
    (word ≡ codes "targeted")
    × ((words : List Text) × (all_of (codes "name") rows ≡ Some words) × MayAllocate words)

-- the command that clap found, with what was given, makes the request
abbrev pub AsksAsFound : Option (Text × List Row) → Request → Type 0
AsksAsFound found request = IsSomeAnd found (λ f. AsksFor f.0 f.1 request)

-- the fault of the command that clap found; Usage, if clap found no command
abbrev pub IsFoundFault : Option (Text × List Row) → RequestFault → Type 0
IsFoundFault None fault = fault ≡ Usage
IsFoundFault (Some found) fault = IsCommandFault found.0 found.1 fault

-- Usage, if the words are not names that `targeted` takes; an allocation fails only for a name,
-- before any word that is not a name
abbrev pub IsNamesFault : List Text → RequestFault → Type 0
IsNamesFault words Usage = (names : List Text) → ¬ (AreNames words names)
IsNamesFault words OutOfMemory = MayAllocate words
