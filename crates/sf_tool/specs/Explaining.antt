-- What a run shows on standard error of an input that is refused, if that is a terminal.
use Rattle.std.specs.Prelude.{◌≡◌, ℕ, ◌+◌, ◌⊎◌, Bool, true, List, [], ◌++◌, Some, Result, Err}
use Rattle.std.specs.Prelude.{codes, decimal, get_or}
use Rattle.sf_value.specs.declared.dialect.Dialect.{Dialect}
use Rattle.sf_value.specs.declared.dialect.Dialect.TheVariants.{Rfc9651}
use Rattle.sf_value.specs.declared.value.Kind.{Kind}
use Rattle.sf_value.specs.declared.value.Kind.TheVariants as kind
use Rattle.sf_value.specs.Devices.{SinkState}
use Rattle.sf_write.specs.declared.sending.WriteFault.{WriteFault}
use Rattle.sf_write.specs.Writing.{Writes}
use Rattle.sf_parse.specs.declared.refusal.Refusal.{Refusal}
use Rattle.sf_parse.specs.declared.refusal.Refusal.TheVariants.{OutOfMemory}
use Rattle.sf_parse.specs.RefusalTexts.{refusal_text}
use Rattle.sf_parse.specs.Spots.{marked_text, stands_at}
use Rattle.sf_field.specs.Asking.{Means}
use Rattle.sf_field.specs.Lines.{ParsesLines}
use Rattle.sf_use.specs.CacheStatus.Hops.{hops}
use Rattle.sf_tool.specs.declared.request.Request.{Request}
use Rattle.sf_tool.specs.declared.request.Request.TheVariants.{Show, Check, Normalise}
use Rattle.sf_tool.specs.declared.request.Request.TheVariants.{CacheStatus, Targeted, Decide}
use Rattle.sf_tool.specs.declared.request.Request.TheVariants.{Priority}
use Rattle.sf_tool.specs.declared.status.Status.{Status}
use Rattle.sf_tool.specs.declared.status.Status.TheVariants.{Refused}
use Rattle.sf_tool.specs.Lines.{lines_of}
use Rattle.sf_tool.specs.Deciding.{with_cache_control}
use Rattle.sf_tool.specs.Fields.{Targets, IsFirstRefused, is_refused}
use Rattle.sf_tool.specs.Marks.{bad_place}

-- a refusal of these lines: its error message, the line that it is in, and a caret under the place
abbrev pub refusal_words : Refusal → List (List ℕ) → List ℕ
refusal_words refusal lines =
    (refusal_text refusal ++ marked_text (stands_at refusal lines)) ++ codes "\n"

-- the member at this index names no cache
abbrev pub no_cache_words : ℕ → List ℕ
no_cache_words index = codes "member " ++ (decimal index ++ codes " names no cache\n")

-- the input is longer than this limit
abbrev pub too_long_words : ℕ → List ℕ
too_long_words limit = codes "more than " ++ (decimal limit ++ codes " bytes\n")

-- the input's lines spell no value, and this is the error message of their refusal
abbrev pub ExplainsField : Dialect → Kind → List ℕ → List ℕ → Type 0
ExplainsField d kind input text =
    (refusal : Refusal) × ParsesLines d kind (lines_of input) (Err refusal)
    × ¬ (refusal ≡ OutOfMemory)
    × (text ≡ refusal_words refusal (lines_of input))

-- the input's lines spell no List; or a member of the List that they spell names no cache
abbrev pub ExplainsPath : List ℕ → List ℕ → Type 0
ExplainsPath input text =
    ExplainsField Rfc9651 kind.List input text
    ⊎ ((index : ℕ) × Means kind.List hops (lines_of input) (Err index)
    × (text ≡ no_cache_words index))

-- a line that is no field line: its number in the input, from 0, and a caret under the place
abbrev pub bad_line_words : ℕ → List ℕ → List ℕ
bad_line_words n line =
    codes "not a field line"
    ++ (marked_text (Some (record { line = n + 1; place = bad_place line; text = line }))
    ++ codes "\n")

-- this is the first line that is refused, and it is refused for what it is
abbrev pub ExplainsLine : Targets → List ℕ → List ℕ → Type 0
ExplainsLine targets input text =
    (n : ℕ) × IsFirstRefused targets input n
    × (is_refused targets (get_or (lines_of input) n []) ≡ true)
    × (text ≡ bad_line_words n (get_or (lines_of input) n []))

-- the message that explains why the input is refused
abbrev pub Explains : Request → List ℕ → List ℕ → Type 0
Explains (Show d kind) input text = ExplainsField d kind input text
Explains (Check d kind) input text = ExplainsField d kind input text
Explains (Normalise d kind) input text = ExplainsField d kind input text
Explains CacheStatus input text = ExplainsPath input text
Explains (Targeted names) input text = ExplainsLine names.items input text
Explains (Decide names age) input text = ExplainsLine (with_cache_control names.items) input text
Explains Priority input text = ExplainsField Rfc9651 kind.Dict input text

-- a text was written, or a prefix of it, and then a write failed
abbrev pub Shows : List ℕ → SinkState → SinkState → Type 0
Shows text old new = (sent : Result ℕ WriteFault) × Writes old new 0 sent text

-- there is a refusal to explain, and a terminal to show it
abbrev pub IsExplained : Bool → Status → Type 0
IsExplained is_terminal status = (is_terminal ≡ true) × (status ≡ Refused)

-- a refusal is explained by a text that `explains` allows; nothing is written if an allocation for
-- it fails, or there is no refusal or no terminal
abbrev pub ExplainsWith : Bool → Status → (List ℕ → Type 0) → SinkState → SinkState → Type 0
ExplainsWith is_terminal status explains old new =
    (new ≡ old)
    ⊎ (IsExplained is_terminal status × ((text : List ℕ) × explains text × Shows text old new))

-- a refusal is explained by this text, whatever memory there is; nothing is written if there is
-- no refusal or no terminal
abbrev pub ExplainsBy : Bool → Status → List ℕ → SinkState → SinkState → Type 0
ExplainsBy is_terminal status text old new =
    (¬ (IsExplained is_terminal status) × (new ≡ old))
    ⊎ (IsExplained is_terminal status × Shows text old new)
