-- The texts of Byte Sequences: base64 (RFC 4648 section 4).
use Rattle.std.specs.Prelude.{◌≡◌, ℕ, ◌+◌, ◌*◌, ◌/◌, ◌%◌, ◌<◌, ◌≤◌, List, [], ◌∷◌, ◌++◌}
use Rattle.std.specs.Prelude.{Bool, ◌||◌, replicate, codes, slice_index}
use Rattle.sf_value.specs.Ascii.{colon, equals}
use Rattle.sf_value.specs.Grammar.Words.{Every}
use Rattle.sf_value.specs.Grammar.Classes.{is_alpha, is_byte, is_digit, is_one_of}

-- the 64 characters, in the order of their values (RFC 4648, table 1)
abbrev pub alphabet : List ℕ
alphabet = codes "ABCDEFGHIJKLMNOPQRSTUVWXYZabcdefghijklmnopqrstuvwxyz0123456789+/"

-- one of the 64 characters
abbrev pub is_base64 : ℕ → Bool
is_base64 b = is_alpha b || is_digit b || is_one_of (codes "+/") b

-- the character of a value below 64: the one at that index
unfoldable pub letter : ℕ → ℕ
letter x = slice_index alphabet x

-- base64 without padding: three bytes are four characters of six bits, the highest bits first; low
-- is the bits of a last character that belong to no byte
abbrev pub unpadded : ℕ → List ℕ → List ℕ
unpadded low [] = []
unpadded low (a ∷ []) = letter (a / 4) ∷ letter (a % 4 * 16 + low) ∷ []
unpadded low (a ∷ b ∷ []) =
    letter (a / 4) ∷ letter (a % 4 * 16 + b / 16) ∷ letter (b % 16 * 4 + low) ∷ []
unpadded low (a ∷ b ∷ c ∷ s) =
    letter (a / 4) ∷ letter (a % 4 * 16 + b / 16) ∷ letter (b % 16 * 4 + c / 64) ∷ letter (c % 64)
    ∷ unpadded low s

-- the number of values of the bits that belong to no byte
abbrev pub spare : List ℕ → ℕ
spare [] = 1
spare (a ∷ []) = 16
spare (a ∷ b ∷ []) = 4
spare (a ∷ b ∷ c ∷ s) = spare s

-- the number of = that complete the last group
abbrev pub needed : List ℕ → ℕ
needed [] = 0
needed (a ∷ []) = 2
needed (a ∷ b ∷ []) = 1
needed (a ∷ b ∷ c ∷ s) = needed s

-- at most this many =, and the colon
abbrev pub Pads : ℕ → List ℕ → Type 0
Pads n t = (m : ℕ) × (m ≤ n) × (t ≡ replicate m equals ++ colon ∷ [])

-- base64 of s with any pad bits and any number of = up to what is needed, then the colon
abbrev pub Sextets : List ℕ → List ℕ → Type 0
Sextets t s =
    (low : ℕ) × (suffix : List ℕ)
    × (low < spare s)
    × (t ≡ unpadded low s ++ suffix)
    × Every is_byte s
    × Pads (needed s) suffix

-- a Byte Sequence (3.3.5, 4.2.7): a colon, base64, a colon
abbrev pub SpellsByteSequence : List ℕ → List ℕ → Type 0
SpellsByteSequence t s = (suffix : List ℕ) × (t ≡ colon ∷ suffix) × Sextets suffix s
