-- Parsing bare items: RFC 9651 sections 4.2.4 to 4.2.10, and 4.2.3.1.
use Rattle.std.specs.List.{list_all}
use Rattle.std.specs.Prelude.{ℕ, ◌+◌, ◌-◌, ◌*◌, Bool, true, false, ◌==◌, nat_lt, ◌&&◌, ◌||◌}
use Rattle.std.specs.Prelude.{ℤ, pos, negsuc, ◌*ℤ◌, List, [], ◌∷◌, ◌++◌, length, drop, replicate}
use Rattle.std.specs.Prelude.{codes, Option, Some, None}
use Rattle.sf_value.specs.declared.dialect.Dialect.{Dialect}
use Rattle.sf_value.specs.declared.dialect.Dialect.TheVariants.{Rfc8941, Rfc9651}
use Rattle.sf_value.specs.declared.value.Bare.{Bare}
use Rattle.sf_value.specs.declared.value.Bare.TheVariants.{Integer, Decimal, Text, Token}
use Rattle.sf_value.specs.declared.value.Bare.TheVariants.{Blob, Boolean, Date, Shown}
use Rattle.sf_rfc.specs.Rfc9651.Words.{Parse, and_then, first_is, before, from}
use Rattle.sf_rfc.specs.Rfc9651.Words.{place_from}
use Rattle.sf_rfc.specs.Rfc9651.Alphabets.{is_DIGIT, is_ALPHA, is_any_of, is_unprintable}
use Rattle.sf_rfc.specs.Rfc9651.Alphabets.{can_start_token, can_be_in_token, needs_escape}
use Rattle.sf_rfc.specs.Rfc9651.Alphabets.{is_lower_hex}
use Rattle.sf_rfc.specs.Rfc9651.Base64.{base64_decode}
use Rattle.sf_rfc.specs.Rfc9651.Utf8Coding.{utf8_encode, utf8_decode}

-- 4.2.4, Parsing an Integer or Decimal

-- type: "integer" or "decimal"
pub data NumberType : Type 0 where
  AnInteger : NumberType
  ADecimal : NumberType

-- 7.5: an integer of more than 15 characters; 7.6: a decimal of more than 16, the "." included
abbrev pub too_long : NumberType → List ℕ → Bool
too_long AnInteger number = nat_lt 15 (length number)
too_long ADecimal number = nat_lt 16 (length number)

abbrev pub is_integer : NumberType → Bool
is_integer AnInteger = true
is_integer ADecimal = false

-- the loop of step 7: type and input_number at its end
abbrev pub number_loop : NumberType → List ℕ → Parse (NumberType × List ℕ)
-- 7: while input_string is not empty
number_loop type number [] = Some ((type, number), [])
-- 7.1: consume char
number_loop type number (char ∷ t) = elim (is_DIGIT char) [
  -- 7.2: a DIGIT is appended to input_number; 7.5, 7.6
  | true ↦ elim (too_long type (number ++ char ∷ [])) [
    | true ↦ None
    | false ↦ number_loop type (number ++ char ∷ []) t
  ]
  | false ↦ elim (is_integer type && char == 46) [
    -- 7.3.1: "." after more than 12 characters fails
    | true ↦ elim (nat_lt 12 (length number)) [
      | true ↦ None
      -- 7.3.2: append it, and it is a decimal now; 7.6
      | false ↦ elim (too_long ADecimal (number ++ char ∷ [])) [
        | true ↦ None
        | false ↦ number_loop ADecimal (number ++ char ∷ []) t
      ]
    ]
    -- 7.4: prepend char again and exit the loop
    | false ↦ Some ((type, number), char ∷ t)
  ]
]

-- digits in base 10, after digits of value n
abbrev pub base10 : ℕ → List ℕ → ℕ
base10 n [] = n
base10 n (c ∷ t) = base10 (n * 10 + (c - 48)) t

-- the characters after "."
abbrev pub after_point : List ℕ → List ℕ
after_point number = drop 1 (from 46 number)

-- a decimal number in thousandths: its digits without the ".", with zeros up to three after it
abbrev pub in_thousandths : List ℕ → ℕ
in_thousandths number =
    let f : List ℕ = after_point number in
    base10 0 (before 46 number ++ (f ++ replicate (3 - length f) 48))

-- 8 to 10, sign being 1 or -1
abbrev pub number_of : ℤ → NumberType → List ℕ → Option Bare
-- 8.1: an Integer; 10: times sign
number_of sign AnInteger number = Some (Integer (sign *ℤ pos (base10 0 number)))
-- 9.1: "." as the final character fails; 9.2: more than three characters after "." fail
-- 9.3: a Decimal; 10: times sign
number_of sign ADecimal number =
    elim (length (after_point number) == 0 || nat_lt 3 (length (after_point number))) [
      | true ↦ None
      | false ↦ Some (Decimal (sign *ℤ pos (in_thousandths number)))
    ]

-- 5: an empty integer fails; 6: a first character that is no DIGIT fails; 7 to 11
abbrev pub unsigned_number : ℤ → Parse Bare
unsigned_number sign t = elim (first_is is_DIGIT t) [
  | false ↦ None
  | true ↦ and_then (number_loop AnInteger [] t) (λ (p, u).
      and_then (number_of sign p.0 p.1) (λ x. Some (x, u)))
]

-- 1 to 3: type is "integer", sign is 1, input_number is empty; 4: "-" is consumed, sign is -1
abbrev pub parse_number : Parse Bare
parse_number [] = unsigned_number (pos 1) []
parse_number (c ∷ t) = elim (c == 45) [
  | true ↦ unsigned_number (negsuc 0) t
  | false ↦ unsigned_number (pos 1) (c ∷ t)
]

-- 4.2.5, Parsing a String

-- the loop of step 4, with output_string, and its round at a backslash
abbrev mutual
  pub string_loop : List ℕ → Parse (List ℕ)
  -- 5: no closing DQUOTE
  string_loop output [] = None
  -- 4.1: consume char; 4.2: at a backslash 4.2.1 to 4.2.4
  string_loop output (char ∷ t) = elim (char == 92) [
    | true ↦ string_escape output t
    | false ↦ elim (char == 34) [
      -- 4.3: DQUOTE returns output_string
      | true ↦ Some (output, t)
      | false ↦ elim (is_unprintable char) [
        -- 4.4: %x00-1f and %x7f-ff fail
        | true ↦ None
        -- 4.5: append char
        | false ↦ string_loop (output ++ char ∷ []) t
      ]
    ]
  ]

  pub string_escape : List ℕ → Parse (List ℕ)
  -- 4.2.1: input_string is empty
  string_escape output [] = None
  -- 4.2.2: consume next_char; 4.2.3: neither DQUOTE nor "\"; 4.2.4: append next_char
  string_escape output (next ∷ t) = elim (needs_escape next) [
    | false ↦ None
    | true ↦ string_loop (output ++ next ∷ []) t
  ]

-- 1: output_string is empty; 2: a first character that is no DQUOTE fails; 3: discard it; 4, 5
abbrev pub parse_string : Parse (List ℕ)
parse_string [] = None
parse_string (c ∷ t) = elim (c == 34) [ false ↦ None | true ↦ string_loop [] t ]

-- 4.2.6, Parsing a Token

-- the loop of step 3, with output_string
abbrev pub token_loop : List ℕ → Parse (List ℕ)
-- 4: return output_string
token_loop output [] = Some (output, [])
-- 3.1: a first character not in tchar, ":" or "/" returns output_string; 3.2, 3.3: append it
token_loop output (char ∷ t) = elim (can_be_in_token char) [
  | false ↦ Some (output, char ∷ t)
  | true ↦ token_loop (output ++ char ∷ []) t
]

-- 1: a first character that is no ALPHA or "*" fails; 2: output_string is empty; 3, 4
abbrev pub parse_token : Parse (List ℕ)
parse_token t = elim (first_is can_start_token t) [ false ↦ None | true ↦ token_loop [] t ]

-- 4.2.7, Parsing a Byte Sequence

-- 6: ALPHA, DIGIT, "+", "/" and "="
abbrev pub can_be_in_base64 : ℕ → Bool
can_be_in_base64 c = is_ALPHA c || is_DIGIT c || is_any_of (codes "+/=") c

-- 1: a first character that is no ":" fails; 2: discard it
-- 3: no ":" before the end fails; 4: b64_content is what is before it; 5: consume the ":"
-- 6: another character in b64_content fails; 7: base64-decode; 8: return
abbrev pub parse_byte_sequence : Parse (List ℕ)
parse_byte_sequence [] = None
parse_byte_sequence (c ∷ t) = elim (c == 58) [
  | false ↦ None
  | true ↦ elim (first_is (λ x. x == 58) (from 58 t)) [
    | false ↦ None
    | true ↦ elim (list_all can_be_in_base64 (before 58 t)) [
      | false ↦ None
      | true ↦ and_then (base64_decode (before 58 t)) (λ s. Some (s, drop 1 (from 58 t)))
    ]
  ]
]

-- 4.2.8, Parsing a Boolean

-- 3: "1" is true; 4: "0" is false; 5: otherwise fail
abbrev pub boolean_value : Parse Bool
boolean_value [] = None
boolean_value (c ∷ t) = elim (c == 49) [
  | true ↦ Some (true, t)
  | false ↦ elim (c == 48) [ true ↦ Some (false, t) | false ↦ None ]
]

-- 1: a first character that is no "?" fails; 2: discard it; 3 to 5
abbrev pub parse_boolean : Parse Bool
parse_boolean [] = None
parse_boolean (c ∷ t) = elim (c == 63) [ false ↦ None | true ↦ boolean_value t ]

-- 4.2.9, Parsing a Date

-- 4: a Decimal fails; 5: return the Integer as a Date
abbrev pub date_of : Bare → Option Bare
date_of (Integer n) = Some (Date n)
date_of x = None

-- 1: a first character that is no "@" fails; 2: discard it; 3: parse an Integer or Decimal; 4, 5
abbrev pub parse_date : Parse Bare
parse_date [] = None
parse_date (c ∷ t) = elim (c == 64) [
  | false ↦ None
  | true ↦ and_then (parse_number t) (λ (x, u). and_then (date_of x) (λ y. Some (y, u)))
]

-- 4.2.10, Parsing a Display String

-- 4.3.3: hex decoding (RFC 4648 section 8; lower case)
unfoldable pub hex_value : ℕ → Option ℕ
hex_value c = place_from 0 (codes "0123456789abcdef") c

-- 4.3.2: octet_hex outside %x30-39 and %x61-66 fails; 4.3.3: hex decoding
abbrev pub octet_of : ℕ → ℕ → Option ℕ
octet_of a b = elim (is_lower_hex a && is_lower_hex b) [
  | false ↦ None
  | true ↦ and_then (hex_value a) (λ x. and_then (hex_value b) (λ y. Some (x * 16 + y)))
]

-- the loop of step 4, with byte_array, and its round at "%", without and with one hex character
abbrev mutual
  pub display_loop : List ℕ → Parse (List ℕ)
  -- 5: no closing DQUOTE
  display_loop bytes [] = None
  -- 4.1: consume char; 4.2: %x00-1f and %x7f-ff fail
  display_loop bytes (char ∷ t) = elim (is_unprintable char) [
    | true ↦ None
    -- 4.3: "%"
    | false ↦ elim (char == 37) [
      | true ↦ display_octet bytes t
      -- 4.4: DQUOTE
      | false ↦ elim (char == 34) [
        -- 4.4.1: byte_array is decoded as UTF-8, or fails; 4.4.2: return unicode_sequence
        | true ↦ and_then (utf8_decode bytes) (λ sequence. Some (sequence, t))
        -- 4.5: append the byte of char
        | false ↦ display_loop (bytes ++ char ∷ []) t
      ]
    ]
  ]

  -- 4.3.1: consume two characters as octet_hex; without two fail
  pub display_octet : List ℕ → Parse (List ℕ)
  display_octet bytes [] = None
  display_octet bytes (a ∷ t) = display_second bytes a t

  -- 4.3.2, 4.3.3; 4.3.4: append octet
  pub display_second : List ℕ → ℕ → Parse (List ℕ)
  display_second bytes a [] = None
  display_second bytes a (b ∷ t) = elim (octet_of a b) [
    | None ↦ None
    | Some octet ↦ display_loop (bytes ++ octet ∷ []) t
  ]

-- 1: first two characters that are not "%" and DQUOTE fail; 2: discard them; 3: byte_array is
-- empty; 4, 5
abbrev pub parse_display_string : Parse (List ℕ)
parse_display_string (a ∷ b ∷ t) = elim (a == 37 && b == 34) [
  | false ↦ None
  | true ↦ display_loop [] t
]
parse_display_string _ = None

-- 4.2.3.1, Parsing a Bare Item

-- a parsed value as a bare item of its type
abbrev pub as_bare : {A : Type 0} → (A → Bare) → Option (A × List ℕ) → Option (Bare × List ℕ)
as_bare f o = and_then o (λ (x, t). Some (f x, t))

-- a Display String: a value holds its code points as the octets of their UTF-8
abbrev pub as_shown : Option (List ℕ × List ℕ) → Option (Bare × List ℕ)
as_shown o = and_then o (λ (sequence, t).
    and_then (utf8_encode sequence) (λ octets. Some (Shown octets, t)))

-- the types that RFC 9651 adds to RFC 8941
abbrev pub parse_added : Dialect → Parse Bare
-- RFC 8941 has no steps for them: its last step fails
parse_added Rfc8941 t = None
-- 6: "@" is a Date; 7: "%" is a Display String; 8: otherwise fail
parse_added Rfc9651 t = elim (first_is (λ c. c == 64) t) [
  | true ↦ parse_date t
  | false ↦ elim (first_is (λ c. c == 37) t) [
    | true ↦ as_shown (parse_display_string t)
    | false ↦ None
  ]
]

-- the type by the first character
abbrev pub parse_bare : Dialect → Parse Bare
-- 1: "-" or a DIGIT is an Integer or Decimal
parse_bare d t = elim (first_is (λ c. c == 45 || is_DIGIT c) t) [
  | true ↦ parse_number t
  -- 2: DQUOTE is a String
  | false ↦ elim (first_is (λ c. c == 34) t) [
    | true ↦ as_bare Text (parse_string t)
    -- 3: an ALPHA or "*" is a Token
    | false ↦ elim (first_is can_start_token t) [
      | true ↦ as_bare Token (parse_token t)
      -- 4: ":" is a Byte Sequence
      | false ↦ elim (first_is (λ c. c == 58) t) [
        | true ↦ as_bare Blob (parse_byte_sequence t)
        -- 5: "?" is a Boolean
        | false ↦ elim (first_is (λ c. c == 63) t) [
          | true ↦ as_bare Boolean (parse_boolean t)
          -- 6 to 8
          | false ↦ parse_added d t
        ]
      ]
    ]
  ]
]
