-- The listed fields of an input of field lines.
use Rattle.std.specs.Prelude.{◌≡◌, ℕ, ◌<◌, ◌≤◌, ◌⊎◌, Bool, ◌&&◌, ◌||◌, not, true, false, ◌==◌}
use Rattle.std.specs.Prelude.{List, [], ◌∷◌, map, length, take, get_or, nat_lt, nat_le}
use Rattle.std.specs.List.{list_all, list_any, filter, before_first, after_first}
use Rattle.std.specs.Str.{bytes_eq}
use Rattle.http_header.specs.Token.{lowercase}
use Rattle.http_header.specs.FieldValue.{FieldValue, plain_value}
use Rattle.http_header.specs.HeaderMap.{append_all, RefusesAppend}
use Rattle.sf_value.specs.Ascii.{colon, del, space, tab}
use Rattle.sf_value.specs.Grammar.Classes.{is_tchar}
use Rattle.sf_field.specs.Headers.{Headers}
use Rattle.sf_tool.specs.declared.fields.InputFault.{InputFault}
use Rattle.sf_tool.specs.declared.fields.InputFault.TheVariants.{Line, OutOfMemory}
use Rattle.sf_tool.specs.Lines.{lines_of, trim}

abbrev pub is_colon : ℕ → Bool
is_colon b = b == colon

-- 1 to 65,535 tchars (RFC 9110 sections 5.1 and 5.6.2; the length is that of http_header)
abbrev pub is_header_name : List ℕ → Bool
is_header_name word =
    nat_lt 0 (length word) && (nat_le (length word) 65535 && list_all is_tchar word)

-- 0x00 to 0x1F and 0x7F
abbrev pub is_control : ℕ → Bool
is_control b = nat_lt b space || b == del

-- no control byte but HTAB (RFC 9110 section 5.5)
abbrev pub is_field_value : List ℕ → Bool
is_field_value value = list_all (λ b. b == tab || not (is_control b)) value

-- what is before the first colon
abbrev pub word_of : List ℕ → List ℕ
word_of line = before_first is_colon line

-- what is before the first colon, in lower case, since case does not count in names (RFC 9110
-- section 5.1)
abbrev pub name_of : List ℕ → List ℕ
name_of line = lowercase (word_of line)

-- what is after the first colon, without the blanks at its ends
abbrev pub value_of : List ℕ → List ℕ
value_of line = trim (after_first is_colon line)

-- there is a colon, and a header name before it
abbrev pub has_name : List ℕ → Bool
has_name line = list_any is_colon line && is_header_name (word_of line)

-- the names that are listed, in lower case
abbrev pub Targets : Type 0
Targets = List (List ℕ)

abbrev pub is_listed : Targets → List ℕ → Bool
is_listed targets name = list_any (λ target. bytes_eq target name) targets

-- the line has a name, and it is listed
abbrev pub is_of_listed : Targets → List ℕ → Bool
is_of_listed targets line = has_name line && is_listed targets (name_of line)

-- the line is not empty, and it has no name, or it has a listed one and a value with a control byte
-- other than HTAB
abbrev pub is_refused : Targets → List ℕ → Bool
is_refused targets [] = false
is_refused targets (b ∷ line) =
    not (has_name (b ∷ line))
    || (is_of_listed targets (b ∷ line) && not (is_field_value (value_of (b ∷ line))))

-- the line has a listed name and is not refused
abbrev pub IsTaken : Targets → List ℕ → Type 0
IsTaken targets line = (is_refused targets line ≡ false) × (is_of_listed targets line ≡ true)

-- the name and the value of a line
abbrev pub field_of : List ℕ → List ℕ × FieldValue
field_of line = (name_of line, plain_value (value_of line))

-- the listed fields, in the order of their lines
abbrev pub listed_fields : Targets → List (List ℕ) → List (List ℕ × FieldValue)
listed_fields targets lines = map field_of (filter (is_of_listed targets) lines)

-- the listed fields of these lines as a header map
abbrev pub headers_of : Targets → List (List ℕ) → Headers
headers_of targets lines = append_all [] (listed_fields targets lines)

-- the map of the lines before has no capacity for the field of this line: it is full of names,
-- which requires a list of 24,576 or more; a command line has 64 at most
abbrev pub IsOver : Targets → List (List ℕ) → List ℕ → Type 0
IsOver targets before line =
    (24576 ≤ length targets)
    × (is_of_listed targets line ≡ true)
    × RefusesAppend (headers_of targets before) (name_of line)

-- the line of this number is refused, for what it is or because the map has no capacity for its
-- field
abbrev pub IsRefusedAt : Targets → List (List ℕ) → ℕ → Type 0
IsRefusedAt targets lines n =
    (is_refused targets (get_or lines n []) ≡ true)
    ⊎ IsOver targets (take n lines) (get_or lines n [])

-- none of the first n lines is refused
abbrev pub NoneIsRefused : Targets → List (List ℕ) → ℕ → Type 0
NoneIsRefused targets lines n = (i : ℕ) → i < n → ¬ (IsRefusedAt targets lines i)

-- the listed fields of an input as a header map, if none of its lines is refused
abbrev pub AreFields : Targets → List ℕ → Headers → Type 0
AreFields targets input headers =
    NoneIsRefused targets (lines_of input) (length (lines_of input))
    × (headers ≡ headers_of targets (lines_of input))

-- the number of the first line that is refused, counted from 0 over all lines
abbrev pub IsFirstRefused : Targets → List ℕ → ℕ → Type 0
IsFirstRefused targets input n =
    (n < length (lines_of input))
    × IsRefusedAt targets (lines_of input) n
    × NoneIsRefused targets (lines_of input) n

-- the line of this number has a listed field that is not refused, and no line before it is refused:
-- for this field an allocation may fail
abbrev pub MayAllocateAt : Targets → List ℕ → ℕ → Type 0
MayAllocateAt targets input n =
    (n < length (lines_of input))
    × IsTaken targets (get_or (lines_of input) n [])
    × NoneIsRefused targets (lines_of input) n

-- the input is refused for this line; or an allocation failed for a line before any such
abbrev pub IsFaultOf : Targets → List ℕ → InputFault → Type 0
IsFaultOf targets input (Line n) = IsFirstRefused targets input n
IsFaultOf targets input OutOfMemory = (n : ℕ) × MayAllocateAt targets input n

-- the same of lines instead of an input: the listed fields if no line is refused
abbrev pub AreFieldsOf : Targets → List (List ℕ) → Headers → Type 0
AreFieldsOf targets lines headers =
    NoneIsRefused targets lines (length lines) × (headers ≡ headers_of targets lines)

-- the number of the first of these lines that is refused
abbrev pub IsFirstRefusedOf : Targets → List (List ℕ) → ℕ → Type 0
IsFirstRefusedOf targets lines n =
    (n < length lines) × IsRefusedAt targets lines n × NoneIsRefused targets lines n

-- a listed field before the first line that is refused, for which an allocation may fail
abbrev pub MayAllocateAtLine : Targets → List (List ℕ) → ℕ → Type 0
MayAllocateAtLine targets lines n =
    (n < length lines)
    × IsTaken targets (get_or lines n [])
    × NoneIsRefused targets lines n

-- the first line that is refused; or an allocation failed for a line before any such
abbrev pub IsFaultOfLines : Targets → List (List ℕ) → InputFault → Type 0
IsFaultOfLines targets lines (Line n) = IsFirstRefusedOf targets lines n
IsFaultOfLines targets lines OutOfMemory = (n : ℕ) × MayAllocateAtLine targets lines n
