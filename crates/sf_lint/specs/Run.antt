-- What a run reads and writes.
use Rattle.std.specs.Prelude.{◌≡◌, ℕ, ◌⊎◌, Bool, true, false, List, ◌++◌, codes, decimal, Option}
use Rattle.sf_value.specs.Devices.{SourceState, SinkState}
use Rattle.sf_tool.specs.declared.status.Status.{Status}
use Rattle.sf_tool.specs.declared.status.Status.TheVariants.{Accepted, Refused, Stopped}
use Rattle.sf_tool.specs.Run.{ReportsText, IsWhole, IsTooLong, ReadsInPart, input_limit}
use Rattle.sf_lint.specs.declared.colours.Verdict.TheVariants as verdict
use Rattle.sf_lint.specs.declared.settings.CacheSettings.{CacheSettings}
use Rattle.sf_lint.specs.declared.settings.Settings.{Settings}
use Rattle.sf_lint.specs.Colours.{verdict_text}
use Rattle.sf_lint.specs.Heads.{ReportsWith}
use Rattle.sf_lint.specs.Report.{Reports}

abbrev pub status_of : Bool → Status
status_of true = Refused
status_of false = Accepted

-- the line for an input that is longer than the limit
abbrev pub too_long_text : Settings → List ℕ
too_long_text s =
    verdict_text s verdict.Refused ++ (codes " too long " ++ (decimal input_limit ++ codes "\n"))

-- the report on an input was to be written; if an allocation failed, nothing was
abbrev pub Answers : Settings → List ℕ → SinkState → SinkState → Status → Type 0
Answers settings input old new status =
    ((new ≡ old) × (status ≡ Stopped))
    ⊎ ((text : List ℕ) × (refused : Bool) × Reports settings input text refused
    × ReportsText text (status_of refused) old new status)

-- the whole input was read and then answered; or it was too long, which was reported, whatever
-- memory there was; or it was not all read, and nothing was written
abbrev pub Runs : Settings → SourceState → SourceState → SinkState → SinkState → Status → Type 0
Runs settings source source' sink sink' status =
    ((input : List ℕ) × IsWhole source source' input × Answers settings input sink sink' status)
    ⊎ ((IsTooLong source source' × ReportsText (too_long_text settings) Refused sink sink' status)
    ⊎ (ReadsInPart source source' × (sink' ≡ sink) × (status ≡ Stopped)))

-- the same with the decisions of caches, if there are any: without them it is `Answers` and `Runs`
abbrev pub AnswersWith : Option CacheSettings → Settings → List ℕ → SinkState → SinkState → Status
    → Type 0
AnswersWith caches settings input old new status =
    ((new ≡ old) × (status ≡ Stopped))
    ⊎ ((text : List ℕ) × (refused : Bool) × ReportsWith caches settings input text refused
    × ReportsText text (status_of refused) old new status)

abbrev pub RunsWith : Option CacheSettings → Settings → SourceState → SourceState
    → SinkState → SinkState → Status → Type 0
RunsWith caches settings source source' sink sink' status =
    ((input : List ℕ) × IsWhole source source' input
    × AnswersWith caches settings input sink sink' status)
    ⊎ ((IsTooLong source source' × ReportsText (too_long_text settings) Refused sink sink' status)
    ⊎ (ReadsInPart source source' × (sink' ≡ sink) × (status ≡ Stopped)))
