-- The lines of heads, and the messages that they belong to.
use Rattle.std.specs.Prelude.{◌≡◌, ℕ, ◌<◌, ◌≤◌, Bool, true, false, ◌&&◌, ◌||◌, not, ◌==◌, nat_lt}
use Rattle.std.specs.Prelude.{List, [], ◌∷◌, length, map, drop, get_or, codes, if◌then◌else◌}
use Rattle.std.specs.List.{list_all, list_any, filter, starts_with, before_first, after_first}
use Rattle.std.specs.List.{prefix_len}
use Rattle.std.specs.Str.{str_eq_ignore_ascii_case}
use Rattle.sf_value.specs.Grammar.Classes.{is_ows, is_sp, is_tchar}
use Rattle.sf_tool.specs.Fields.{is_colon, word_of, name_of, value_of, has_name}
use Rattle.sf_lint.specs.declared.head.Line.{Line}
use Rattle.sf_lint.specs.declared.head.Line.TheVariants.{Empty, Folded, Start, BadStart}
use Rattle.sf_lint.specs.declared.head.Line.TheVariants.{Field, Nameless}

-- the name of the protocol, with which its version begins (RFC 9112 section 2.3)
abbrev pub begins_with_protocol : List ℕ → Bool
begins_with_protocol bytes = starts_with (λ a b. a == b) bytes (codes "HTTP/")

-- what is after the first space
abbrev pub word_after : List ℕ → List ℕ
word_after line = after_first is_sp line

-- a byte that can be in a start line: not a CR, since a recipient of a bare CR must "consider that
-- element to be invalid" or replace the CR (RFC 9112 section 2.2), and not NUL, which no part of a
-- start line has (sections 3 and 4)
abbrev pub is_start_byte : ℕ → Bool
is_start_byte b = not (b == 13) && not (b == 0)

-- the place of the first byte that can't be in a start line, or the end of the line
abbrev pub start_end : List ℕ → ℕ
start_end line = prefix_len is_start_byte line

abbrev pub has_start_bytes : List ℕ → Bool
has_start_bytes line = start_end line == length line

-- a status line begins with the version (RFC 9112 section 4)
abbrev pub is_status_line : List ℕ → Bool
is_status_line line = begins_with_protocol line && has_start_bytes line

-- a method is a token (RFC 9110 section 9.1)
abbrev pub is_method : List ℕ → Bool
is_method word = nat_lt 0 (length word) && list_all is_tchar word

-- the words are those of a request line: a method, a target and the version, with a space between
-- (RFC 9112 section 3)
abbrev pub has_request_words : List ℕ → Bool
has_request_words line =
    is_method (before_first is_sp line) && begins_with_protocol (word_after (word_after line))

-- a status line or a request line, but for bytes that can't be in it
abbrev pub is_like_start : List ℕ → Bool
is_like_start line = begins_with_protocol line || has_request_words line

abbrev pub is_start : List ℕ → Bool
is_start line = is_like_start line && has_start_bytes line

-- the type of a line that is like a start line
abbrev pub start_of : List ℕ → Line
start_of line = if has_start_bytes line then Start else BadStart

-- the type of a line that is not empty
abbrev pub line_with : ℕ → List ℕ → Line
line_with first line =
    if is_ows first then Folded
    else if is_like_start line then start_of line
    else if has_name line then Field (name_of line)
    else Nameless

-- the type of any line
abbrev pub line_of : List ℕ → Line
line_of [] = Empty
line_of (b ∷ bs) = line_with b (b ∷ bs)

-- the line has a colon, and before it this name, in any case
abbrev pub is_named : List ℕ → List ℕ → Bool
is_named name line = list_any is_colon line && str_eq_ignore_ascii_case (word_of line) name

-- a line of this name is before the n-th, and no start line after it: in the same message
abbrev pub IsRepeated : List ℕ → List (List ℕ) → ℕ → Type 0
IsRepeated name lines n =
    (j : ℕ) × (j < n) × (is_named name (get_or lines j []) ≡ true)
    × ((k : ℕ) → j ≤ k → k < n → is_start (get_or lines k []) ≡ false)

-- the lines of the message from the n-th on
abbrev pub message_from : List (List ℕ) → ℕ → List (List ℕ)
message_from lines n = before_first is_start (drop n lines)

-- the values of the field lines of this name
abbrev pub values_in : List ℕ → List (List ℕ) → List (List ℕ)
values_in name lines = map value_of (filter (is_named name) lines)
