-- The arguments of the command line, as clap parses them.
use Rattle.std.specs.Prelude.{◌≡◌, ◌<◌, ◌≤◌, ◌⊎◌, ◌^◌, ℕ, true, false, List, [], ◌∷◌, map, length}
use Rattle.std.specs.Prelude.{codes, slice_get, Option, Some, None, unwrap_or, if◌then◌else◌, ⊤}
use Rattle.std.specs.List.{list_all}
use Rattle.std.specs.Str.{bytes_eq}
use Rattle.std.specs.Str.Parse.{IsNumeral, digits_value, without_leading_plus}
use Rattle.clap.specs.Lexer.{usize_max}
use Rattle.clap.specs.Faults.{fault_of}
use Rattle.clap.specs.Simple.{App, Shape, new_rule, new_shape, subcommand_of}
use Rattle.clap.specs.Walk.{Row, Rule, Text, all_of, first_of}
use Rattle.clap.specs.declared.builder.action.ArgAction.TheVariants.{Append}
use Rattle.http_header.specs.Token.{lowercase}
use Rattle.sf_value.specs.Ascii.{minus}
use Rattle.sf_value.specs.declared.dialect.Dialect.{Dialect}
use Rattle.sf_value.specs.declared.dialect.Dialect.TheVariants.{Rfc8941, Rfc9651}
use Rattle.sf_value.specs.declared.value.Kind.{Kind}
use Rattle.sf_value.specs.declared.value.Kind.TheVariants as kind
use Rattle.sf_tool.specs.declared.request.Request.{Request}
use Rattle.sf_tool.specs.declared.request.Request.TheVariants.{Show, Check, Normalise, CacheStatus}
use Rattle.sf_tool.specs.declared.request.Request.TheVariants.{Targeted, Decide, Priority}
use Rattle.sf_tool.specs.declared.request.RequestFault.{RequestFault}
use Rattle.sf_tool.specs.declared.request.RequestFault.TheVariants.{Usage, OutOfMemory}
use Rattle.sf_tool.specs.Fields.{is_header_name}
use Rattle.sf_tool.specs.Request.{most_names}

-- `--kind`, which is required
abbrev pub kind_option : Rule
kind_option =
    record (new_rule (codes "kind")) { long = Some (codes "kind"); required = true }

-- `--dialect`, which is rfc9651 if it is not given
abbrev pub dialect_option : Rule
dialect_option = record (new_rule (codes "dialect")) {
  long = Some (codes "dialect");
  defaults = codes "rfc9651" ∷ [];
}

-- one name or more
abbrev pub name_list : Rule
name_list = record (new_rule (codes "name")) {
  required = true;
  range = Some (record { start_inclusive = 1; end_inclusive = usize_max });
  action = Some Append;
}

-- a command that takes a kind, and a dialect
abbrev pub kind_command : Text → Shape
kind_command word = record (new_shape word) { rules = kind_option ∷ dialect_option ∷ [] }

-- an option of this name with a value, which may be absent
abbrev pub option_of : Text → Rule
option_of word = record (new_rule word) { long = Some word }

-- a command that takes names, the field that decides if none of them does, and the age of a
-- response
abbrev pub names_command : Text → Shape
names_command word =
    record (new_shape word) {
      rules = name_list ∷ option_of (codes "fallback") ∷ option_of (codes "age") ∷ [];
    }

-- the program: one of six commands must be named
abbrev pub command_line : App
command_line = record {
  top = record (new_shape (codes "sf")) { is_leaf = false; subcommand_required = true };
  subs = kind_command (codes "show") ∷ kind_command (codes "check")
      ∷ kind_command (codes "normalise") ∷ new_shape (codes "cache-status")
      ∷ names_command (codes "targeted") ∷ new_shape (codes "priority") ∷ [];
}

abbrev pub kind_word : Kind → Text
kind_word kind.Item = codes "item"
kind_word kind.List = codes "list"
kind_word kind.Dict = codes "dict"

-- the kind that a word names
abbrev pub kind_named : Text → Option Kind
kind_named word =
    if bytes_eq word (codes "item") then Some kind.Item
    else if bytes_eq word (codes "list") then Some kind.List
    else if bytes_eq word (codes "dict") then Some kind.Dict
    else None

abbrev pub dialect_word : Dialect → Text
dialect_word Rfc8941 = codes "rfc8941"
dialect_word Rfc9651 = codes "rfc9651"

abbrev pub command_word : Request → Text
command_word (Show dialect kind) = codes "show"
command_word (Check dialect kind) = codes "check"
command_word (Normalise dialect kind) = codes "normalise"
command_word CacheStatus = codes "cache-status"
command_word (Targeted names) = codes "targeted"
command_word (Decide names age) = codes "targeted"
command_word Priority = codes "priority"

abbrev pub NamesKind : List Row → Kind → Type 0
NamesKind rows kind = first_of (codes "kind") rows ≡ Some (kind_word kind)

abbrev pub NamesDialect : List Row → Dialect → Type 0
NamesDialect rows dialect = first_of (codes "dialect") rows ≡ Some (dialect_word dialect)

-- a number of seconds in decimal digits, which may follow a plus, in 64 bits
abbrev pub IsSeconds : Text → ℕ → Type 0
IsSeconds word seconds =
    IsNumeral 10 (without_leading_plus word)
    × (digits_value 10 (without_leading_plus word) < 2 ^ 64)
    × (seconds ≡ digits_value 10 (without_leading_plus word))

-- the age that a word names, if there is one
abbrev pub IsGivenAge : Option Text → Option ℕ → Type 0
IsGivenAge None None = ⊤
IsGivenAge None (Some seconds) = ⊥
IsGivenAge (Some word) None = ⊥
IsGivenAge (Some word) (Some seconds) = IsSeconds word seconds

-- neither a fallback nor an age is given; or the fallback is Cache-Control, and this is the age,
-- which is 0 if it is not given
abbrev pub NamesFallback : List Row → Option ℕ → Type 0
NamesFallback rows None =
    (first_of (codes "fallback") rows ≡ None) × (first_of (codes "age") rows ≡ None)
NamesFallback rows (Some age) =
    (first_of (codes "fallback") rows ≡ Some (codes "cache-control"))
    × ((given : Option ℕ) × IsGivenAge (first_of (codes "age") rows) given
    × (age ≡ unwrap_or given 0))

-- header names, as many as a request may have, whose letters may be of either case
abbrev pub AreNames : List Text → List Text → Type 0
AreNames words names =
    (1 ≤ length words) × (length words ≤ most_names) × (list_all is_header_name words ≡ true)
    × (names ≡ map lowercase words)

abbrev pub NamesAll : List Row → List Text → Type 0
NamesAll rows names =
    (words : List Text) × (all_of (codes "name") rows ≡ Some words) × AreNames words names

-- the request has the arguments that were given with the command's name
abbrev pub HasArguments : List Row → Request → Type 0
HasArguments rows (Show dialect kind) = NamesDialect rows dialect × NamesKind rows kind
HasArguments rows (Check dialect kind) = NamesDialect rows dialect × NamesKind rows kind
HasArguments rows (Normalise dialect kind) = NamesDialect rows dialect × NamesKind rows kind
HasArguments rows CacheStatus = ⊤
HasArguments rows (Targeted names) = NamesFallback rows None × NamesAll rows names.items
HasArguments rows (Decide names age) = NamesFallback rows (Some age) × NamesAll rows names.items
HasArguments rows Priority = ⊤

-- the command's name and what was given with it make the request
abbrev pub AsksFor : Text → List Row → Request → Type 0
AsksFor word rows request = (word ≡ command_word request) × HasArguments rows request

-- clap finds no fault in the arguments, and what it finds in them makes the request
abbrev pub IsRequestOf : List Text → Request → Type 0
IsRequestOf words request =
    (fault_of command_line words ≡ [])
    × ((found : Text × List Row) × (subcommand_of command_line words ≡ Some found)
    × AsksFor found.0 found.1 request)

-- the word is the name of one of the six commands
abbrev pub IsCommand : Text → Type 0
IsCommand word =
    (word ≡ codes "show")
    ⊎ ((word ≡ codes "check")
    ⊎ ((word ≡ codes "normalise")
    ⊎ ((word ≡ codes "cache-status") ⊎ ((word ≡ codes "targeted") ⊎ (word ≡ codes "priority")))))

-- the word begins as an option does
abbrev pub IsOption : Text → Type 0
IsOption word = slice_get word 0 ≡ Some minus

-- the first argument after the program's name is a word that is no option and no command
abbrev pub IsStray : List Text → Type 0
IsStray [] = ⊥
IsStray (program ∷ []) = ⊥
IsStray (program ∷ word ∷ rest) = ¬ (IsOption word) × ¬ (IsCommand word)

-- a fault is Usage only if the arguments make no request; of a failed allocation nothing is claimed
abbrev pub IsUsageOf : List Text → RequestFault → Type 0
IsUsageOf words Usage = (request : Request) → ¬ (IsRequestOf words request)
IsUsageOf words OutOfMemory = ⊤
