-- Display Strings: the places in them, and the bytes that their escapes stand for.
use Rattle.std.specs.Prelude.{◌≡◌, ◌≢◌, ⊤, ◌⊎◌, ℕ, ◌+◌, ◌*◌, Bool, true, false, ◌==◌}
use Rattle.std.specs.Prelude.{if◌then◌else◌, List, [], ◌∷◌, ◌++◌, Option, Some, None}
use Rattle.sf_value.specs.Ascii.{quote, percent}
use Rattle.sf_value.specs.Digits.{unhex}
use Rattle.sf_value.specs.Grammar.Classes.{is_visible}
use Rattle.sf_value.specs.Grammar.DisplayStrings.{is_unencoded}
use Rattle.sf_value.specs.Grammar.Words.{Every}
use Rattle.sf_scan.specs.Characters.{char_step, can_begin, low_digits, is_low}
use Rattle.sf_value.specs.Runs.{Lacks, FirstIs}
use Rattle.sf_scan.specs.declared.char_place.CharPlace.{CharPlace}
use Rattle.sf_scan.specs.declared.char_place.CharPlace.TheVariants as chars
use Rattle.sf_scan.specs.declared.char_place.LowDigits.{LowDigits}
use Rattle.sf_scan.specs.declared.place.Stop.{Stop}
use Rattle.sf_scan.specs.declared.place.BarePlace.{BarePlace}
use Rattle.sf_scan.specs.declared.place.BarePlace.TheVariants.{Shown}
use Rattle.sf_scan.specs.declared.shown_place.ShownPlace.{ShownPlace}
use Rattle.sf_scan.specs.declared.shown_place.ShownPlace.TheVariants as shown

-- whether there is a digit, and it passes the test
abbrev pub passes : (ℕ → Bool) → Option ℕ → Bool
passes p (Some d) = p d
passes p None = false

-- between the quotes: between two characters all visible bytes, among them the percent sign of an
-- escape and the closing quote; in a character only an escape
abbrev pub in_between : CharPlace → ℕ → Bool
in_between chars.Start b = is_visible b
in_between c b = b == percent

-- the first digit of an escape: some byte that it begins may come
abbrev pub is_first_digit : CharPlace → ℕ → Bool
is_first_digit c b = passes (can_begin c) (unhex b)

-- the second digit of an escape
abbrev pub is_second_digit : LowDigits → ℕ → Bool
is_second_digit low b = passes (is_low low) (unhex b)

-- the bytes that may come at a place in a Display String
abbrev pub in_shown : ShownPlace → ℕ → Bool
in_shown shown.Quote b = b == quote
in_shown (shown.Between c) b = in_between c b
in_shown (shown.Percent c) b = is_first_digit c b
in_shown (shown.Digit low) b = is_second_digit low b

-- the digit; 0 if there is none
abbrev pub digit_or_zero : Option ℕ → ℕ
digit_or_zero (Some d) = d
digit_or_zero None = 0

-- the byte with these two digits
abbrev pub escaped_byte : ℕ → ℕ → ℕ
escaped_byte high low = digit_or_zero (unhex high) * 16 + digit_or_zero (unhex low)

-- the value of a text between the quotes: the byte of each escape, and the other bytes themselves
abbrev pub shown_bytes : List ℕ → List ℕ
shown_bytes [] = []
shown_bytes (b ∷ []) = b ∷ []
shown_bytes (b ∷ c ∷ []) = b ∷ c ∷ []
shown_bytes (b ∷ c ∷ d ∷ t) =
    if b == percent then escaped_byte c d ∷ shown_bytes t else b ∷ shown_bytes (c ∷ d ∷ t)

-- the rest is what follows the longest run of bytes without an escape; in a character there is none
abbrev pub PastUnencoded : CharPlace → List ℕ → List ℕ → Type 0
PastUnencoded chars.Start text rest =
    (run : List ℕ) × (text ≡ run ++ rest) × Every is_unencoded run × Lacks is_unencoded rest
PastUnencoded c text rest = text ≡ rest

-- the text begins with a digit of this value, which passes the test
abbrev pub BeginsDigit : (ℕ → Bool) → List ℕ → ℕ → List ℕ → Type 0
BeginsDigit p text h rest =
    (b : ℕ) × (text ≡ b ∷ rest) × (unhex b ≡ Some h) × (p h ≡ true)

-- the text begins with the second digit of a byte that leads to the next place
abbrev pub BeginsByte : CharPlace → ℕ → List ℕ → CharPlace → List ℕ → Type 0
BeginsByte c h text next rest =
    (b l : ℕ) × (text ≡ b ∷ rest) × (unhex b ≡ Some l) × (char_step c (h * 16 + l) ≡ Some next)

-- the text begins with the two digits of a byte that leads to the next place
abbrev pub PastEscape : CharPlace → List ℕ → CharPlace → List ℕ → Type 0
PastEscape c text next rest = (h : ℕ) × (more : List ℕ)
    × BeginsDigit (can_begin c) text h more
    × BeginsByte c h more next rest

-- the text does not: its first byte can't be the first digit, or the one after that the second
abbrev pub StopsEscape : CharPlace → List ℕ → Stop BarePlace → Type 0
StopsEscape c text stop =
    ((stop.left.now ≡ text) × (stop.place ≡ Shown (shown.Percent c))
    × Lacks (is_first_digit c) text)
    ⊎ ((h : ℕ) × BeginsDigit (can_begin c) text h stop.left.now
    × (stop.place ≡ Shown (shown.Digit (low_digits c h)))
    × Lacks (is_second_digit (low_digits c h)) stop.left.now)

-- no character is open, and the closing quote comes
abbrev pub Closes : CharPlace → List ℕ → List ℕ → Type 0
Closes c text rest = (c ≡ chars.Start) × (text ≡ quote ∷ rest)

-- a character is open, or another byte comes
abbrev pub StaysOpen : CharPlace → List ℕ → Type 0
StaysOpen chars.Start text = FirstIs (λ b. b ≢ quote) text
StaysOpen c text = ⊤
