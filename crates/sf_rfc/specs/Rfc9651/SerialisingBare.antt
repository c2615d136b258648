-- Serialising bare items: sections 4.1.3.1 and 4.1.4 to 4.1.11.
use Rattle.std.specs.List.{list_all}
use Rattle.std.specs.Prelude.{ℕ, zero, suc, ◌+◌, ◌*◌, ◌/◌, ◌%◌, ◌^◌, Bool, true, false, not, ◌==◌}
use Rattle.std.specs.Prelude.{nat_lt, nat_le, ◌&&◌, ◌||◌, ℤ, pos, negsuc, neg_ℤ, nat_abs, List, []}
use Rattle.std.specs.Prelude.{◌∷◌, ◌++◌, get_or, codes, Option, Some, None}
use Rattle.sf_value.specs.declared.dialect.Dialect.{Dialect}
use Rattle.sf_value.specs.declared.dialect.Dialect.TheVariants.{Rfc8941, Rfc9651}
use Rattle.sf_value.specs.declared.value.Bare.{Bare}
use Rattle.sf_value.specs.declared.value.Bare.TheVariants.{Integer, Decimal, Text, Token}
use Rattle.sf_value.specs.declared.value.Bare.TheVariants.{Blob, Boolean, Date, Shown}
use Rattle.sf_rfc.specs.Rfc9651.Words.{and_then, first_is, only_if}
use Rattle.sf_rfc.specs.Rfc9651.Alphabets.{in_range, is_ascii, is_unprintable, needs_escape}
use Rattle.sf_rfc.specs.Rfc9651.Alphabets.{can_start_token, can_be_in_token}
use Rattle.sf_rfc.specs.Rfc9651.Base64.{base64_encode}
use Rattle.sf_rfc.specs.Rfc9651.Utf8Coding.{utf8_encode, utf8_decode}

-- 4.1.4, Serialising an Integer

-- 3: "-" if the number is less than 0, and nothing if it is 0 or more
abbrev pub minus_sign : ℤ → List ℕ
minus_sign (pos n) = []
minus_sign (negsuc n) = 45 ∷ []

-- 4: a number in base 10, by decimal digits alone, if it has at most this many digits
abbrev pub digits_within : ℕ → ℕ → List ℕ
digits_within zero n = []
digits_within (suc most) n = elim (nat_lt n 10) [
  | true ↦ (48 + n) ∷ []
  | false ↦ digits_within most (n / 10) ++ (48 + n % 10) ∷ []
]

-- 4: a number n has at most n + 1 digits
abbrev pub in_base10 : ℕ → List ℕ
in_base10 n = digits_within (suc n) n

-- 1: what is not in -999,999,999,999,999 to 999,999,999,999,999 fails
-- 2, 3, 4: from the empty string on, the sign and the number in base 10
-- 5: output
abbrev pub serialise_integer : ℤ → Option (List ℕ)
serialise_integer z = only_if (nat_le (nat_abs z) 999999999999999)
    (minus_sign z ++ in_base10 (nat_abs z))

-- 4.1.5, Serialising a Decimal

-- a number: numerator over denominator
pub record Fraction : Type 0 where
  pub numerator : ℤ
  pub denominator : ℕ

-- the decimal number with the digits of a mantissa, this many of them to the right of the point
abbrev pub decimal_number : ℤ → ℕ → Fraction
decimal_number mantissa places = record { numerator = mantissa; denominator = 10 ^ places }

-- 2: a quotient and its remainder, rounded to the nearest value, or to the even value if it is
-- equidistant
abbrev pub to_nearest : ℕ → ℕ → ℕ → ℕ
to_nearest divisor quotient remainder = elim (nat_lt (2 * remainder) divisor) [
  | true ↦ quotient
  | false ↦ elim (nat_lt divisor (2 * remainder)) [
    | true ↦ quotient + 1
    | false ↦ quotient + quotient % 2
  ]
]

-- the number with the sign of another
abbrev pub with_sign : ℤ → ℕ → ℤ
with_sign (pos n) m = pos m
with_sign (negsuc n) m = neg_ℤ (pos m)

-- 2: rounded to three decimal places, as a whole number of thousandths; a number with at most three
-- significant digits to the right of the point has no remainder, and stays as it is
abbrev pub rounded : Fraction → ℤ
rounded x =
    let n : ℕ = nat_abs x.numerator * 1000 in
    with_sign x.numerator (to_nearest x.denominator (n / x.denominator) (n % x.denominator))

-- 9: the significant digits of a fraction: those up to the last that is not "0"
abbrev pub significant : List ℕ → List ℕ
significant [] = []
significant (c ∷ t) = elim (list_all (λ x. x == 48) (c ∷ t)) [
  | true ↦ []
  | false ↦ c ∷ significant t
]

-- 8: "0" if the fraction is zero
-- 9: otherwise the significant ones of its three digits
abbrev pub serialise_fraction : ℕ → List ℕ
serialise_fraction f = elim (f == 0) [
  | true ↦ 48 ∷ []
  | false ↦ significant ((48 + f / 100) ∷ (48 + f / 10 % 10) ∷ (48 + f % 10) ∷ [])
]

-- 3: more than 12 digits to the left of the point after rounding fail
-- 4, 5: from the empty string on, "-" if it is less than 0
-- 6: the integer component in base 10, which is "0" if it is zero
-- 7: "."
-- 8, 9: the fractional component
-- 10: output
abbrev pub serialise_rounded : ℤ → Option (List ℕ)
serialise_rounded z = only_if (nat_lt (nat_abs z / 1000) 1000000000000)
    (minus_sign z ++ (in_base10 (nat_abs z / 1000) ++ 46 ∷ serialise_fraction (nat_abs z % 1000)))

-- 1: what is not a decimal number fails: nothing over 0 is a number
-- 2: the number is rounded
-- 3 to 10: and written
abbrev pub serialise_decimal : Fraction → Option (List ℕ)
serialise_decimal x = elim (x.denominator == 0) [
  | true ↦ None
  | false ↦ serialise_rounded (rounded x)
]

-- the number that a value holds as a whole number of thousandths
abbrev pub thousandths : ℤ → Fraction
thousandths z = record { numerator = z; denominator = 1000 }

-- 4.1.6, Serialising a String

-- 4: for each character in turn,
-- 4.1: if it is "\" or DQUOTE, 4.1.1: a "\"
-- 4.2: the character itself
abbrev pub string_characters : List ℕ → List ℕ
string_characters [] = []
string_characters (char ∷ t) = elim (needs_escape char) [
  | true ↦ 92 ∷ char ∷ string_characters t
  | false ↦ char ∷ string_characters t
]

-- 1: what is not all ASCII fails
-- 2: a character in %x00-1f or %x7f-ff fails
-- 3: DQUOTE
-- 4: the characters
-- 5: DQUOTE
-- 6: output
abbrev pub serialise_string : List ℕ → Option (List ℕ)
serialise_string s = only_if (list_all is_ascii s && list_all (λ c. not (is_unprintable c)) s)
    (34 ∷ (string_characters s ++ 34 ∷ []))

-- 4.1.7, Serialising a Token

-- 2: the characters after the first
abbrev pub remaining : List ℕ → List ℕ
remaining [] = []
remaining (c ∷ t) = t

-- 1: what is not all ASCII fails
-- 2: a first character that is not ALPHA or "*" fails, and so does one of the remaining that is not
-- in tchar, ":" or "/"
-- 3, 4: from the empty string on, the token
-- 5: output
abbrev pub serialise_token : List ℕ → Option (List ℕ)
serialise_token s = only_if
    (list_all is_ascii s && (first_is can_start_token s && list_all can_be_in_token (remaining s))) s

-- 4.1.8, Serialising a Byte Sequence

-- 1: what is not a sequence of bytes fails
-- 2, 3: from the empty string on, ":"
-- 4: base64, with "=" as padding and pad bits of zero, as the section asks below the steps
-- 5: ":"
-- 6: output
abbrev pub serialise_byte_sequence : List ℕ → Option (List ℕ)
serialise_byte_sequence s = only_if (list_all (in_range 0 255) s) (58 ∷ (base64_encode s ++ 58 ∷ []))

-- 4.1.9, Serialising a Boolean

-- 1: by its type it is a Boolean
-- 2, 3: from the empty string on, "?"
-- 4: "1" if it is true
-- 5: "0" if it is false
-- 6: output
abbrev pub serialise_boolean : Bool → Option (List ℕ)
serialise_boolean true = Some (63 ∷ 49 ∷ [])
serialise_boolean false = Some (63 ∷ 48 ∷ [])

-- 4.1.10, Serialising a Date

-- 1: "@"
-- 2: the date, serialised as an Integer
-- 3: output
abbrev pub serialise_date : ℤ → Option (List ℕ)
serialise_date z = and_then (serialise_integer z) (λ s. Some (64 ∷ s))

-- 4.1.11, Serialising a Display String

-- 4.1.2: the character of four bits in base16 (RFC 4648 section 8), letters in lower case
unfoldable pub hex_character : ℕ → ℕ
hex_character x = get_or (codes "0123456789abcdef") x 0

-- 4: for each byte in turn,
-- 4.1: if it is "%", DQUOTE, or in %x00-1f or %x7f-ff,
-- 4.1.1: "%"; 4.1.2, 4.1.3: the byte in base16
-- 4.2: otherwise the byte as an ASCII character
abbrev pub display_bytes : List ℕ → List ℕ
display_bytes [] = []
display_bytes (byte ∷ t) = elim (byte == 37 || (byte == 34 || is_unprintable byte)) [
  | true ↦ 37 ∷ hex_character (byte / 16) ∷ hex_character (byte % 16) ∷ display_bytes t
  | false ↦ byte ∷ display_bytes t
]

-- 1: by its type it is a sequence of numbers, which step 2 encodes if they are Unicode code points
-- 2: byte_array is its UTF-8 encoding (RFC 3629 section 3), or it fails
-- 3: "%" and DQUOTE
-- 4: the bytes
-- 5: DQUOTE
-- 6: encoded_string
abbrev pub serialise_display_string : List ℕ → Option (List ℕ)
serialise_display_string sequence = and_then (utf8_encode sequence) (λ byte_array.
    Some (37 ∷ 34 ∷ (display_bytes byte_array ++ 34 ∷ [])))

-- a value holds the code points of a Display String as the octets of their UTF-8. 1: octets that are
-- the UTF-8 of none are no sequence of code points, and fail
abbrev pub serialise_shown : List ℕ → Option (List ℕ)
serialise_shown octets = and_then (utf8_decode octets) serialise_display_string

-- 4.1.3.1, Serialising a Bare Item

-- the types that RFC 9651 adds to RFC 8941
abbrev pub serialise_added : Dialect → Option (List ℕ) → Option (List ℕ)
-- RFC 8941 has no steps for them: its last step fails
serialise_added Rfc8941 o = None
serialise_added Rfc9651 o = o

-- 9: that anything else fails has no case here
abbrev pub serialise_bare : Dialect → Bare → Option (List ℕ)
-- 1: an Integer by 4.1.4
serialise_bare d (Integer z) = serialise_integer z
-- 2: a Decimal by 4.1.5
serialise_bare d (Decimal z) = serialise_decimal (thousandths z)
-- 3: a String by 4.1.6
serialise_bare d (Text s) = serialise_string s
-- 4: a Token by 4.1.7
serialise_bare d (Token s) = serialise_token s
-- 5: a Byte Sequence by 4.1.8
serialise_bare d (Blob s) = serialise_byte_sequence s
-- 6: a Boolean by 4.1.9
serialise_bare d (Boolean b) = serialise_boolean b
-- 7: a Date by 4.1.10
serialise_bare d (Date z) = serialise_added d (serialise_date z)
-- 8: a Display String by 4.1.11
serialise_bare d (Shown s) = serialise_added d (serialise_shown s)
