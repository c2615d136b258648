-- UTF-8 encoding and decoding by RFC 3629 section 3. A character is its number.
use Rattle.std.specs.Prelude.{ℕ, zero, suc, ◌+◌, ◌-◌, ◌*◌, ◌/◌, ◌%◌, true, false, nat_le, ◌&&◌, ◌||◌}
use Rattle.std.specs.Prelude.{Bool, List, [], ◌∷◌, ◌++◌, length, Option, Some, None}
use Rattle.sf_rfc.specs.Rfc9651.Words.{Parse, and_then, only_if}
use Rattle.sf_rfc.specs.Rfc9651.Alphabets.{in_range}

-- "characters from the U+0000..U+10FFFF range [..] are encoded"; "the definition of UTF-8
-- prohibits encoding character numbers between U+D800 and U+DFFF": the Unicode scalar values
abbrev pub is_scalar : ℕ → Bool
is_scalar c = in_range 0 55295 c || in_range 57344 1114111 c

-- an octet 10xxxxxx with the lowest six bits of a number
abbrev pub tail_octet : ℕ → ℕ
tail_octet bits = 128 + bits % 64

-- encoding a character
-- 1: the number of octets from the character number and the first column of the table
-- 2: the high-order bits of the octets as in the second column
-- 3: the bits marked x from those of the number, the lowest-order bit last in the last octet
abbrev pub octets_of : ℕ → List ℕ
octets_of c = elim (nat_le c 127) [
  -- 0000 0000-0000 007F: 0xxxxxxx
  | true ↦ c ∷ []
  | false ↦ elim (nat_le c 2047) [
    -- 0000 0080-0000 07FF: 110xxxxx 10xxxxxx
    | true ↦ (192 + c / 64) ∷ tail_octet c ∷ []
    | false ↦ elim (nat_le c 65535) [
      -- 0000 0800-0000 FFFF: 1110xxxx 10xxxxxx 10xxxxxx
      | true ↦ (224 + c / 4096) ∷ tail_octet (c / 64) ∷ tail_octet c ∷ []
      -- 0001 0000-0010 FFFF: 11110xxx 10xxxxxx 10xxxxxx 10xxxxxx
      | false ↦ (240 + c / 262144) ∷ tail_octet (c / 4096) ∷ tail_octet (c / 64) ∷ tail_octet c ∷ []
    ]
  ]
]

-- encoding characters; a number that is no scalar value fails
abbrev pub utf8_encode : List ℕ → Option (List ℕ)
utf8_encode [] = Some []
utf8_encode (c ∷ cs) = and_then (only_if (is_scalar c) (octets_of c)) (λ o.
    and_then (utf8_encode cs) (λ s. Some (o ++ s)))

-- decoding a character
-- 3: the bits of n octets 10xxxxxx, after bits of this value; any other octet fails
abbrev pub tail_bits : ℕ → ℕ → Parse ℕ
tail_bits zero bits t = Some (bits, t)
tail_bits (suc n) bits [] = None
tail_bits (suc n) bits (o ∷ t) = elim (in_range 128 191 o) [
  | true ↦ tail_bits n (bits * 64 + (o - 128)) t
  | false ↦ None
]

-- "MUST protect against decoding invalid sequences": only a number of the row of the table, which
-- an overlong sequence has not, and no surrogate
abbrev pub of_row : ℕ → ℕ → Option (ℕ × List ℕ) → Option (ℕ × List ℕ)
of_row low high o = and_then o (λ (c, t). only_if (in_range low high c && is_scalar c) (c, t))

-- 1: all bits are 0
-- 2: which bits encode the number, by the number of octets and the second column of the table
-- 3: the bits of the octets, the lowest-order bit of the last octet last
abbrev pub decode_character : Parse ℕ
decode_character [] = None
decode_character (o ∷ t) = elim (nat_le o 127) [
  -- 0xxxxxxx
  | true ↦ Some (o, t)
  | false ↦ elim (in_range 192 223 o) [
    -- 110xxxxx 10xxxxxx
    | true ↦ of_row 128 2047 (tail_bits 1 (o - 192) t)
    | false ↦ elim (in_range 224 239 o) [
      -- 1110xxxx 10xxxxxx 10xxxxxx
      | true ↦ of_row 2048 65535 (tail_bits 2 (o - 224) t)
      | false ↦ elim (in_range 240 247 o) [
        -- 11110xxx 10xxxxxx 10xxxxxx 10xxxxxx
        | true ↦ of_row 65536 1114111 (tail_bits 3 (o - 240) t)
        | false ↦ None
      ]
    ]
  ]
]

-- decoding characters up to the end, at most this many
abbrev pub decode_characters : ℕ → List ℕ → Option (List ℕ)
decode_characters n [] = Some []
decode_characters zero (o ∷ t) = None
decode_characters (suc n) (o ∷ t) = and_then (decode_character (o ∷ t)) (λ (c, u).
    and_then (decode_characters n u) (λ cs. Some (c ∷ cs)))

abbrev pub utf8_decode : List ℕ → Option (List ℕ)
utf8_decode t = decode_characters (length t) t
