-- The arguments of the command line, as clap parses them.
use Rattle.std.specs.Prelude.{◌≡◌, Bool, true, false, ℕ, List, [], ◌∷◌, map, codes, Option}
use Rattle.std.specs.Prelude.{Some, None, if◌then◌else◌, ⊤}
use Rattle.std.specs.Borrow.{Bor}
use Rattle.std.specs.List.{after_first}
use Rattle.std.specs.Option.{option_map}
use Rattle.std.specs.Str.{bytes_eq}
use Rattle.clap.specs.Faults.{fault_of}
use Rattle.clap.specs.Kinds.{IsAmong}
use Rattle.clap.specs.Simple.{App, matches_of, new_rule, new_shape}
use Rattle.clap.specs.Walk.{Row, Rule, Text, all_of, first_of}
use Rattle.clap.specs.declared.builder.action.ArgAction.TheVariants.{Append, SetTrue}
use Rattle.clap.specs.declared.error.kind.ErrorKind.TheVariants.{DisplayHelp, DisplayVersion}
use Rattle.sf_value.specs.declared.value.Kind.{Kind}
use Rattle.sf_tool.specs.CommandLine.{AreNames, IsGivenAge, kind_named, option_of}
use Rattle.sf_tool.specs.Fields.{is_colon, has_name, name_of}
use Rattle.sf_tool.specs.declared.status.Status.{Status}
use Rattle.sf_tool.specs.declared.status.Status.TheVariants as status
use Rattle.sf_lint.specs.declared.settings.CustomField.{CustomField}
use Rattle.sf_lint.specs.declared.settings.Settings.{Settings}
use Rattle.sf_lint.specs.declared.settings.CacheSettings.{CacheSettings}
use Rattle.sf_lint.specs.declared.options.Options.{Options}
use Rattle.sf_lint.specs.declared.options.OptionsFault.{OptionsFault}
use Rattle.sf_lint.specs.declared.options.OptionsFault.TheVariants.{Usage, Help, Version}
use Rattle.sf_lint.specs.declared.options.OptionsFault.TheVariants.{OutOfMemory}

-- `--field`, any number of times
abbrev pub field_option : Rule
field_option =
    record (new_rule (codes "field")) { long = Some (codes "field"); action = Some Append }

-- `--quiet`
abbrev pub quiet_option : Rule
quiet_option =
    record (new_rule (codes "quiet")) { long = Some (codes "quiet"); action = Some SetTrue }

-- `--decide`
abbrev pub decide_option : Rule
decide_option =
    record (new_rule (codes "decide")) { long = Some (codes "decide"); action = Some SetTrue }

-- `--target`, any number of times
abbrev pub target_option : Rule
target_option =
    record (new_rule (codes "target")) { long = Some (codes "target"); action = Some Append }

-- the program
abbrev pub command_line : App
command_line = record {
  top = record (new_shape (codes "sflint")) {
    rules = field_option ∷ quiet_option ∷ decide_option ∷ option_of (codes "age") ∷ target_option
        ∷ [];
    has_version = true;
  };
  subs = [];
}

abbrev pub field_with : Text → Kind → CustomField
field_with name kind = record { name = name; kind = kind }

-- the field of a word: a header name in any case, a colon and a kind
abbrev pub custom_of : Text → Option CustomField
custom_of word =
    if has_name word
    then option_map (field_with (name_of word)) (kind_named (after_first is_colon word))
    else None

-- the words name these fields
abbrev pub AreFields : List Text → List CustomField → Type 0
AreFields words fields = map custom_of words ≡ map Some fields

-- a flag that is given has the value `true`
abbrev pub is_true : Option Text → Bool
is_true None = false
is_true (Some word) = bytes_eq word (codes "true")

abbrev pub is_quiet : List Row → Bool
is_quiet rows = is_true (first_of (codes "quiet") rows)

-- the words of `--field`
abbrev pub field_words : Option (List Text) → List Text
field_words None = []
field_words (Some words) = words

-- what was given makes these settings; the output is not coloured, since no argument sets that
abbrev pub AreGiven : List Row → Settings → Type 0
AreGiven rows settings =
    AreFields (field_words (all_of (codes "field") rows)) settings.fields.items
    × ((settings.quiet ≡ is_quiet rows) × (settings.colour ≡ false))

abbrev pub is_deciding : List Row → Bool
is_deciding rows = is_true (first_of (codes "decide") rows)

-- the targets that words name: from 1 to 64 header names; without words, the one target of RFC 9213
-- (section 3)
abbrev pub AreTargets : Option (List Text) → List Text → Type 0
AreTargets None names = names ≡ codes "cdn-cache-control" ∷ []
AreTargets (Some words) names = AreNames words names

-- the caches whose decisions are asked for: with these targets, and this age of the responses
abbrev pub AreCaches : List Row → CacheSettings → Type 0
AreCaches rows caches =
    IsGivenAge (first_of (codes "age") rows) caches.age
    × AreTargets (all_of (codes "target") rows) caches.targets.items

-- decisions are asked for; otherwise there is no age and no target, either
abbrev pub AreCachesIf : List Row → Bool → Option CacheSettings → Type 0
AreCachesIf rows true (Some caches) = AreCaches rows caches
AreCachesIf rows true None = ⊥
AreCachesIf rows false (Some caches) = ⊥
AreCachesIf rows false None =
    (first_of (codes "age") rows ≡ None) × (all_of (codes "target") rows ≡ None)

abbrev pub AreGivenCaches : List Row → Option CacheSettings → Type 0
AreGivenCaches rows caches = AreCachesIf rows (is_deciding rows) caches

-- what was given makes these options
abbrev pub AreGivenOptions : List Row → Options → Type 0
AreGivenOptions rows options =
    AreGiven rows options.settings × AreGivenCaches rows options.caches

-- clap finds no fault in the arguments, and what it finds in them makes the options
abbrev pub AreOptionsOf : List Text → Options → Type 0
AreOptionsOf words options =
    (fault_of command_line words ≡ []) × AreGivenOptions (matches_of command_line words) options

-- a fault is Usage only if the arguments make no options, and Help or Version only if they have
-- that option; of a failed allocation nothing is claimed
abbrev pub IsFaultOf : List Text → OptionsFault → Type 0
IsFaultOf words Usage = (options : Options) → ¬ (AreOptionsOf words options)
IsFaultOf words Help = IsAmong DisplayHelp (fault_of command_line words)
IsFaultOf words Version = IsAmong DisplayVersion (fault_of command_line words)
IsFaultOf words OutOfMemory = ⊤

-- the same of what was given, which is not Help or Version
abbrev pub IsOptionsFault : List Row → OptionsFault → Type 0
IsOptionsFault rows Usage = (options : Options) → ¬ (AreGivenOptions rows options)
IsOptionsFault rows Help = ⊥
IsOptionsFault rows Version = ⊥
IsOptionsFault rows OutOfMemory = ⊤

-- the same of the caches
abbrev pub IsCachesFault : List Row → OptionsFault → Type 0
IsCachesFault rows Usage = (caches : Option CacheSettings) → ¬ (AreGivenCaches rows caches)
IsCachesFault rows Help = ⊥
IsCachesFault rows Version = ⊥
IsCachesFault rows OutOfMemory = ⊤

-- the same of the targets
abbrev pub IsTargetsFault : Option (List Text) → OptionsFault → Type 0
IsTargetsFault words Usage = (names : List Text) → ¬ (AreTargets words names)
IsTargetsFault words Help = ⊥
IsTargetsFault words Version = ⊥
IsTargetsFault words OutOfMemory = ⊤

-- the words of `--target`, if there are any
abbrev pub target_words : Option (Bor (List (Bor Text))) → Option (List Text)
target_words words = option_map (λ all. map (λ word. word.now) all.now) words

-- a fault is Usage only if what was given makes no settings, and is not Help or Version
abbrev pub IsGivenFault : List Row → OptionsFault → Type 0
IsGivenFault rows Usage = (settings : Settings) → ¬ (AreGiven rows settings)
IsGivenFault rows Help = ⊥
IsGivenFault rows Version = ⊥
IsGivenFault rows OutOfMemory = ⊤

-- a fault is Usage only if the words of `--field` name no fields, and is not Help or Version
abbrev pub IsFieldsFault : List Text → OptionsFault → Type 0
IsFieldsFault words Usage = (fields : List CustomField) → ¬ (AreFields words fields)
IsFieldsFault words Help = ⊥
IsFieldsFault words Version = ⊥
IsFieldsFault words OutOfMemory = ⊤

-- the status of the command for a fault
abbrev pub fault_status : OptionsFault → Status
fault_status Usage = status.Usage
fault_status Help = status.Accepted
fault_status Version = status.Accepted
fault_status OutOfMemory = status.Stopped

-- the text on standard output for a fault
abbrev pub fault_text : OptionsFault → Option (List ℕ)
fault_text Usage = None
fault_text Help = Some (codes "usage: sflint [--field NAME:item|list|dict].. [--quiet]\n              [--decide [--age SECONDS] [--target NAME]..]\n\nReads the heads of HTTP messages from standard input, as curl -sI prints them, and\nshows each structured field: its canonical text and its meaning, or why it is refused.\n\n  --field NAME:KIND  a field to check, with its kind: item, list or dict\n  --quiet            show only what is refused, and decisions\n  --decide           show what a shared and a private cache decide about each response\n  --age SECONDS      the age of each response; without it, that of its Age\n  --target NAME      a field that the caches obey before Cache-Control (RFC 9213), in\n                     order of preference; without it, CDN-Cache-Control\n  --help             show this help\n  --version          show the version\n\nThe status is 0 if everything is accepted, 1 if something is refused, 2 if the arguments\nare wrong, and 3 if an allocation or a device fails.\n")
fault_text Version = Some (codes "sflint 0.1.0\n")
fault_text OutOfMemory = None

-- the line on standard error for a status
abbrev pub fault_line : Status → Option (List ℕ)
fault_line status.Accepted = None
fault_line status.Refused = None
fault_line status.Usage =
    Some (codes "sflint: usage: sflint [--field NAME:item|list|dict].. [--quiet] [--decide [--age SECONDS] [--target NAME]..]; or --help")
fault_line status.Stopped = Some (codes "sflint: out of memory or a device failed")
