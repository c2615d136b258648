-- Base64 of RFC 4648 section 4, by bits: a character is its place in the alphabet, in six bits, and
-- a byte is eight bits, the highest bits first.
use Rattle.std.specs.List.{list_all}
use Rattle.std.specs.Prelude.{ℕ, ◌+◌, ◌-◌, ◌*◌, ◌/◌, ◌%◌, true, false, ◌==◌, nat_le, ◌&&◌}
use Rattle.std.specs.Prelude.{not}
use Rattle.std.specs.Prelude.{List, [], ◌∷◌, ◌++◌, length, get_or, replicate, codes, Option, Some}
use Rattle.std.specs.Prelude.{None}
use Rattle.sf_rfc.specs.Rfc9651.Words.{and_then, before, from, place_from}

-- table 1
abbrev pub base64_alphabet : List ℕ
base64_alphabet = codes "ABCDEFGHIJKLMNOPQRSTUVWXYZabcdefghijklmnopqrstuvwxyz0123456789+/"

-- the value of a character, and the character of a value
unfoldable pub value_of : ℕ → Option ℕ
value_of c = place_from 0 base64_alphabet c

unfoldable pub character_of : ℕ → ℕ
character_of x = get_or base64_alphabet x 0

-- the six bits of a value, the eight of a byte
abbrev pub six_bits : ℕ → List ℕ
six_bits x = x / 32 % 2 ∷ x / 16 % 2 ∷ x / 8 % 2 ∷ x / 4 % 2 ∷ x / 2 % 2 ∷ x % 2 ∷ []

abbrev pub eight_bits : ℕ → List ℕ
eight_bits x = x / 128 % 2 ∷ x / 64 % 2 ∷ six_bits x

-- the bits by eights; bits left at the end are no byte
abbrev pub by_eights : List ℕ → List ℕ
by_eights (a ∷ b ∷ c ∷ d ∷ e ∷ f ∷ g ∷ h ∷ t) =
    (a * 128 + b * 64 + c * 32 + d * 16 + e * 8 + f * 4 + g * 2 + h) ∷ by_eights t
by_eights _ = []

-- the bits by sixes
abbrev pub by_sixes : List ℕ → List ℕ
by_sixes (a ∷ b ∷ c ∷ d ∷ e ∷ f ∷ t) =
    (a * 32 + b * 16 + c * 8 + d * 4 + e * 2 + f) ∷ by_sixes t
by_sixes _ = []

-- the bits of characters of the alphabet; any other character fails (section 3.3)
abbrev pub bits_of_characters : List ℕ → Option (List ℕ)
bits_of_characters [] = Some []
bits_of_characters (c ∷ t) = and_then (value_of c) (λ x.
    and_then (bits_of_characters t) (λ bits. Some (six_bits x ++ bits)))

abbrev pub bits_of_bytes : List ℕ → List ℕ
bits_of_bytes [] = []
bits_of_bytes (b ∷ t) = eight_bits b ++ bits_of_bytes t

-- how many more than n complete groups of this size
abbrev pub missing : ℕ → ℕ → ℕ
missing size n = (size - n % size) % size

-- decoding: the characters before the first "=", then "=" alone. The last group has two, three or
-- four characters, and may be followed by "=" up to four. Missing "=" are synthesised (4.2.7 step
-- 7), and pad bits are ignored (4.2.7: they should not fail). The RFC leaves open a group that
-- lacks one of its two "=", as "Zg=": here the other is synthesised too, since missing "=" should
-- not fail
abbrev pub base64_decode : List ℕ → Option (List ℕ)
base64_decode t =
    let characters : List ℕ = before 61 t in
    let pads : List ℕ = from 61 t in
    elim (not (length characters % 4 == 1) && (list_all (λ c. c == 61) pads
    && nat_le (length pads) (missing 4 (length characters)))) [
      | false ↦ None
      | true ↦ and_then (bits_of_characters characters) (λ bits. Some (by_eights bits))
    ]

-- characters of values
abbrev pub characters_of : List ℕ → List ℕ
characters_of [] = []
characters_of (x ∷ t) = character_of x ∷ characters_of t

-- encoding: zero bits are added on the right to make sixes (pad bits are zero, section 3.5), and
-- "=" to make groups of four characters (section 3.2)
abbrev pub base64_encode : List ℕ → List ℕ
base64_encode s =
    let bits : List ℕ = bits_of_bytes s in
    let t : List ℕ = characters_of (by_sixes (bits ++ replicate (missing 6 (length bits)) 0)) in
    t ++ replicate (missing 4 (length t)) 61
