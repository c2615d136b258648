-- What is printed for the lines of an input.
use Rattle.std.specs.Prelude.{◌≡◌, ℕ, suc, zero, ◌+◌, ◌⊎◌, Bool, true, false, ◌||◌, if◌then◌else◌}
use Rattle.std.specs.Prelude.{List, [], ◌++◌, length, get_or, Option, Some, None, codes}
use Rattle.std.specs.Prelude.{decimal, Result, Ok, Err}
use Rattle.std.specs.Str.Lines.{lines}
use Rattle.sf_value.specs.declared.dialect.Dialect.{Dialect}
use Rattle.sf_value.specs.declared.dialect.Dialect.TheVariants.{Rfc8941, Rfc9651}
use Rattle.sf_value.specs.declared.value.Field.{Field as Value}
use Rattle.sf_value.specs.declared.value.Kind.{Kind}
use Rattle.sf_value.specs.Grammar.Canonical.{canon}
use Rattle.sf_parse.specs.declared.refusal.Refusal.{Refusal}
use Rattle.sf_parse.specs.declared.refusal.Refusal.TheVariants as refusal
use Rattle.sf_parse.specs.RefusalTexts.{refusal_text}
use Rattle.sf_parse.specs.Spots.{LinePlace, marked_text, printed}
use Rattle.sf_field.specs.Lines.{ParsesLines}
use Rattle.sf_tool.specs.Marks.{name_end}
use Rattle.sf_lint.specs.declared.head.Line.{Line}
use Rattle.sf_lint.specs.declared.head.Line.TheVariants.{Empty, Folded, Start, BadStart}
use Rattle.sf_lint.specs.declared.head.Line.TheVariants.{Field, Nameless}
use Rattle.sf_lint.specs.declared.colours.Verdict.TheVariants as verdict
use Rattle.sf_lint.specs.declared.settings.FieldType.{FieldType}
use Rattle.sf_lint.specs.declared.settings.Settings.{Settings}
use Rattle.sf_lint.specs.Colours.{verdict_text}
use Rattle.sf_lint.specs.Head.{IsRepeated, line_of, message_from, start_end, values_in}
use Rattle.sf_lint.specs.Marks.{mark_in}
use Rattle.sf_lint.specs.Meanings.{meaning_of}
use Rattle.sf_lint.specs.Settings.{type_of}

-- what is printed, unless only refusals are printed
abbrev pub shown : Settings → List ℕ → List ℕ
shown settings text = if settings.quiet then [] else text

-- a field that is accepted: its name, and the canonical text of its value
abbrev pub accepted_text : Settings → List ℕ → Value → List ℕ
accepted_text s name v =
    verdict_text s verdict.Ok
    ++ (codes " " ++ (name ++ (codes ": " ++ (canon v ++ codes "\n"))))

-- a field with a member that names no cache, though each has to
abbrev pub no_cache_text : Settings → List ℕ → ℕ → List ℕ
no_cache_text s name index =
    verdict_text s verdict.Refused
    ++ (codes " " ++ (name
    ++ (codes ": member " ++ (decimal index ++ codes " names no cache\n"))))

-- the place of the refusal of a field whose message has these lines from the n-th on
abbrev pub mark_of : ℕ → List ℕ → List (List ℕ) → Refusal → Option LinePlace
mark_of n name lines (refusal.Syntax place found expected may_end) = mark_in n name lines place
mark_of n name lines refusal.OutOfMemory = None
mark_of n name lines (refusal.TooLong limit) = None
mark_of n name lines (refusal.ReadFault place) = None

-- a field that is refused: its name, the error message, the line with its number (a question mark
-- for each byte that is not printable ASCII), and a caret under the place
abbrev pub refused_text : Settings → ℕ → List ℕ → List (List ℕ) → Refusal → List ℕ
refused_text s n name lines r =
    verdict_text s verdict.Refused
    ++ (codes " " ++ (name ++ (codes ": "
    ++ ((refusal_text r ++ marked_text (mark_of n name lines r)) ++ codes "\n"))))

-- a line that is no line of a head: its number, why, the line (with question marks likewise), and a
-- caret under the place
abbrev pub bad_line_text : Settings → ℕ → List ℕ → Option LinePlace → List ℕ
bad_line_text s n why place =
    verdict_text s verdict.Refused
    ++ (codes " line " ++ (decimal n ++ (codes ": "
    ++ (why ++ (marked_text place ++ codes "\n")))))

abbrev pub others_text : ℕ → List ℕ
others_text n = codes "other fields: " ++ (decimal n ++ codes "\n")

-- the report on some lines: a text, whether something is refused, and the number of field lines of
-- fields that are not structured
abbrev pub IsReport : List ℕ → Bool → ℕ → List ℕ → Bool → ℕ → Type 0
IsReport text refused others t r o = (t ≡ text) × (r ≡ refused) × (o ≡ others)

-- the line of this number is no line of a head, and is refused at this place of it
abbrev pub ReportsBadLine : Settings → ℕ → List ℕ → ℕ → List ℕ → List ℕ → Bool → ℕ → Type 0
ReportsBadLine s n why place line =
    IsReport (bad_line_text s n why (Some (record { line = n; place = place; text = line }))) true 0

-- a field has this value and this meaning: the report has its canonical text and the lines of its
-- meaning; or that a member names no cache
abbrev pub ReportsValue : Settings → List ℕ → Value → Result (List ℕ) ℕ → List ℕ → Bool → ℕ → Type 0
ReportsValue s name v (Ok text) = IsReport (shown s (accepted_text s name v ++ text)) false 0
ReportsValue s name v (Err index) = IsReport (no_cache_text s name index) true 0

-- a field has this refusal; a failed allocation is no refusal of a field
abbrev pub ReportsRefusal : Settings → List ℕ → ℕ → List (List ℕ) → Refusal
    → List ℕ → Bool → ℕ → Type 0
ReportsRefusal s name n lines r text refused others =
    (¬ (r ≡ refusal.OutOfMemory))
    × IsReport (refused_text s n name lines r) true 0 text refused others

-- the line between what a field is by RFC 8941, which reads it, and what it is by RFC 9651
abbrev pub dialects_line : List ℕ
dialects_line = codes "above by RFC 8941, below by RFC 9651:\n"

-- what a field that RFC 8941 refuses is by RFC 9651: its value and meaning, or that a member names
-- no cache
abbrev pub newer_text : Settings → List ℕ → Value → Result (List ℕ) ℕ → List ℕ
newer_text s name v (Ok text) = dialects_line ++ (accepted_text s name v ++ text)
newer_text s name v (Err index) = dialects_line ++ no_cache_text s name index

-- a field that RFC 8941 refuses, and what RFC 9651 makes of it: if that accepts it, both are told;
-- a failed allocation is no refusal of a field
abbrev pub ReportsBoth : Settings → List ℕ → ℕ → List (List ℕ) → Refusal → Result Value Refusal
    → List ℕ → Bool → ℕ → Type 0
ReportsBoth s name n lines r (Ok v) text refused others =
    (¬ (r ≡ refusal.OutOfMemory))
    × IsReport (refused_text s n name lines r ++ shown s (newer_text s name v (meaning_of s name v)))
    true 0 text refused others
ReportsBoth s name n lines r (Err e) text refused others =
    (¬ (e ≡ refusal.OutOfMemory)) × ReportsRefusal s name n lines r text refused others

abbrev pub ReportsOlder : Settings → Kind → List ℕ → ℕ → List (List ℕ) → Refusal
    → List ℕ → Bool → ℕ → Type 0
ReportsOlder s kind name n lines r text refused others =
    (newer : Result Value Refusal)
    × ParsesLines Rfc9651 kind (values_in name lines) newer
    × ReportsBoth s name n lines r newer text refused others

-- a refusal by a dialect: fields that RFC 8941 accepts have the same value by RFC 9651
abbrev pub ReportsRefused : Settings → FieldType → List ℕ → ℕ → List (List ℕ) → Refusal
    → Dialect → List ℕ → Bool → ℕ → Type 0
ReportsRefused s type name n lines r Rfc9651 = ReportsRefusal s name n lines r
ReportsRefused s type name n lines r Rfc8941 = ReportsOlder s type.kind name n lines r

-- the result of parsing the values of a field
abbrev pub ReportsParsed : Settings → FieldType → List ℕ → ℕ → List (List ℕ)
    → Result Value Refusal → List ℕ → Bool → ℕ → Type 0
ReportsParsed s type name n lines (Ok v) = ReportsValue s name v (meaning_of s name v)
ReportsParsed s type name n lines (Err r) = ReportsRefused s type name n lines r type.dialect

-- a structured field, whose first line is the n-th of the input and the first of these lines of its
-- message: the values of its lines, joined, spell a value, or are refused
abbrev pub ReportsField : Settings → FieldType → List ℕ → ℕ → List (List ℕ)
    → List ℕ → Bool → ℕ → Type 0
ReportsField s type name n lines t r o =
    (parsed : Result Value Refusal)
    × ParsesLines type.dialect type.kind (values_in name lines) parsed
    × ReportsParsed s type name n lines parsed t r o

-- a field line, of a field of this type, if it is structured: the field is reported at its first
-- line
abbrev pub ReportsNamed : Settings → List (List ℕ) → ℕ → List ℕ → Option FieldType
    → List ℕ → Bool → ℕ → Type 0
ReportsNamed s lines n name None t r o = IsReport [] false 1 t r o
ReportsNamed s lines n name (Some type) t r o =
    (IsRepeated name lines n × IsReport [] false 0 t r o)
    ⊎ ((¬ (IsRepeated name lines n))
    × ReportsField s type name (n + 1) (message_from lines n) t r o)

-- the n-th line, by its type
abbrev pub ReportsLine : Settings → List (List ℕ) → ℕ → Line → List ℕ → Bool → ℕ → Type 0
ReportsLine s lines n Empty = IsReport [] false 0
ReportsLine s lines n Folded =
    ReportsBadLine s (n + 1) (codes "obsolete line folding") 0 (get_or lines n [])
ReportsLine s lines n Start = IsReport (shown s (printed (get_or lines n []) ++ codes "\n")) false 0
ReportsLine s lines n BadStart =
    ReportsBadLine s (n + 1) (codes "a CR or NUL in a start line") (start_end (get_or lines n []))
    (get_or lines n [])
ReportsLine s lines n (Field name) = ReportsNamed s lines n name (type_of s name)
ReportsLine s lines n Nameless =
    ReportsBadLine s (n + 1) (codes "not a field line") (name_end (get_or lines n []))
    (get_or lines n [])

-- one more line is reported after those before it
pub record ReportsMore (before line : List ℕ → Bool → ℕ → Type 0) (t : List ℕ) (r : Bool) (o : ℕ)
    : Type 0 where
  pub text : List ℕ
  pub refused : Bool
  pub others : ℕ
  pub line_text : List ℕ
  pub line_refused : Bool
  pub line_others : ℕ
  pub reported : before text refused others
  pub line_reported : line line_text line_refused line_others
  pub sum : IsReport (text ++ line_text) (refused || line_refused) (others + line_others) t r o

-- the first n lines, in order
abbrev pub ReportsLines : Settings → List (List ℕ) → ℕ → List ℕ → Bool → ℕ → Type 0
ReportsLines s lines zero = IsReport [] false 0
ReportsLines s lines (suc n) =
    ReportsMore (ReportsLines s lines n) (ReportsLine s lines n (line_of (get_or lines n [])))

-- an input: the report on its lines, and the number of field lines of fields that are not
-- structured
abbrev pub Reports : Settings → List ℕ → List ℕ → Bool → Type 0
Reports s input text refused =
    (reported : List ℕ) × (others : ℕ)
    × ReportsLines s (lines input) (length (lines input)) reported refused others
    × (text ≡ reported ++ shown s (others_text others))
