-- Serialising Byte Sequences: base64 by bits and by groups of three bytes.
use Rattle.std.proofs.Common.{◌≡◌, ℕ, ◌+◌, ◌*◌, ◌/◌, ◌%◌, ◌<◌, List, []}
use Rattle.std.proofs.Common.{◌∷◌, ◌++◌, length, replicate, Some, refl, ap, ap₂, ◌∙◌, arith}
use Rattle.std.proofs.Common.{append_assoc}
use Rattle.sf_value.specs.Grammar.Words.{Every}
use Rattle.sf_value.specs.Grammar.Classes.{is_byte}
use Rattle.sf_value.specs.Grammar.ByteSequences.{letter, unpadded, needed}
use Rattle.sf_value.specs.Grammar.Canonical.{canon_base64}
use Rattle.sf_parse.proofs.Quads.{byte_small}
use Rattle.sf_rfc.specs.Rfc9651.Base64.{character_of, eight_bits, bits_of_bytes, by_sixes}
use Rattle.sf_rfc.specs.Rfc9651.Base64.{characters_of, missing, base64_encode}
use Rattle.sf_rfc.specs.Rfc9651.SerialisingBare.{serialise_byte_sequence}
use Rattle.sf_rfc.proofs.SerialisingWords.{bytes_all}

same_letter : (x : ℕ) → character_of x ≡ letter x
unfolding character_of letter
same_letter x = refl

-- one sextet by its bits
first_six : (a : ℕ) → a < 256
    → a / 128 % 2 * 32 + a / 64 % 2 * 16 + a / 32 % 2 * 8 + a / 16 % 2 * 4 + a / 8 % 2 * 2
    + a / 4 % 2 ≡ a / 4
first_six a h = omega arith

second_six : (a b : ℕ) → b < 256
    → a / 2 % 2 * 32 + a % 2 * 16 + b / 128 % 2 * 8 + b / 64 % 2 * 4 + b / 32 % 2 * 2 + b / 16 % 2
    ≡ a % 4 * 16 + b / 16
second_six a b h = omega arith

third_six : (b c : ℕ) → c < 256
    → b / 8 % 2 * 32 + b / 4 % 2 * 16 + b / 2 % 2 * 8 + b % 2 * 4 + c / 128 % 2 * 2 + c / 64 % 2
    ≡ b % 16 * 4 + c / 64
third_six b c h = omega arith

fourth_six : (c : ℕ)
    → c / 32 % 2 * 32 + c / 16 % 2 * 16 + c / 8 % 2 * 8 + c / 4 % 2 * 4 + c / 2 % 2 * 2 + c % 2
    ≡ c % 64
fourth_six c = omega arith

-- a whole group is four characters, and the rest goes on after it
abbrev rest_of : List ℕ → List ℕ
rest_of s = bits_of_bytes s ++ replicate (missing 6 (length (bits_of_bytes s))) 0

missing_turn : (a b c : ℕ) (t : List ℕ)
    → missing 6 (length (eight_bits a ++ (eight_bits b ++ (eight_bits c ++ t))))
    ≡ missing 6 (length t)
missing_turn a b c t = omega arith

same_characters : (x y : ℕ) → x ≡ y → character_of x ≡ letter y
same_characters x y e = same_letter x ∙ ap letter e

group_is : (a b c : ℕ) (s : List ℕ) → a < 256 → b < 256 → c < 256
    → characters_of (by_sixes (rest_of s)) ≡ unpadded 0 s
    → characters_of (by_sixes (rest_of (a ∷ b ∷ c ∷ s))) ≡ unpadded 0 (a ∷ b ∷ c ∷ s)
group_is a b c s ha hb hc e =
    rw (missing_turn a b c (bits_of_bytes s))
    (ap₂ (λ x y. x ∷ y) (same_characters _ _ (first_six a ha))
    (ap₂ (λ x y. x ∷ y) (same_characters _ _ (second_six a b hb))
    (ap₂ (λ x y. x ∷ y) (same_characters _ _ (third_six b c hc))
    (ap₂ (λ x y. x ∷ y) (same_characters _ _ (fourth_six c)) e))))

-- what a last group of one byte, or of two, leaves for its last character
last_of_one : (a : ℕ)
    → a / 2 % 2 * 32 + a % 2 * 16 + 0 * 8 + 0 * 4 + 0 * 2 + 0 ≡ a % 4 * 16 + 0
last_of_one a = omega arith

last_of_two : (b : ℕ)
    → b / 8 % 2 * 32 + b / 4 % 2 * 16 + b / 2 % 2 * 8 + b % 2 * 4 + 0 * 2 + 0 ≡ b % 16 * 4 + 0
last_of_two b = omega arith

characters_are : (s : List ℕ) → Every is_byte s
    → characters_of (by_sixes (rest_of s)) ≡ unpadded 0 s
characters_are [] h = refl
characters_are (a ∷ []) h =
    ap₂ (λ x y. x ∷ y ∷ []) (same_characters _ _ (first_six a (byte_small a h.0)))
    (same_characters _ _ (last_of_one a))
characters_are (a ∷ b ∷ []) h =
    ap₂ (λ x y. x ∷ y) (same_characters _ _ (first_six a (byte_small a h.0)))
    (ap₂ (λ x y. x ∷ y ∷ []) (same_characters _ _ (second_six a b (byte_small b h.1.0)))
    (same_characters _ _ (last_of_two b)))
characters_are (a ∷ b ∷ c ∷ s) h =
    group_is a b c s (byte_small a h.0) (byte_small b h.1.0) (byte_small c h.1.1.0)
    (characters_are s h.1.1.1)

-- the padding
pub missing_group : (a b c d : ℕ) (t : List ℕ)
    → missing 4 (length (a ∷ b ∷ c ∷ d ∷ t)) ≡ missing 4 (length t)
missing_group a b c d t = omega arith

missing_needed : (s : List ℕ) → missing 4 (length (unpadded 0 s)) ≡ needed s
missing_needed (a ∷ b ∷ c ∷ s) =
    missing_group (letter (a / 4)) (letter (a % 4 * 16 + b / 16)) (letter (b % 16 * 4 + c / 64))
    (letter (c % 64)) (unpadded 0 s)
    ∙ missing_needed s
missing_needed s = refl

encoded : (s : List ℕ) → Every is_byte s
    → base64_encode s ≡ unpadded 0 s ++ replicate (needed s) 61
encoded s h =
    ap (λ t. t ++ replicate (missing 4 (length t)) 61) (characters_are s h)
    ∙ ap (λ n. unpadded 0 s ++ replicate n 61) (missing_needed s)

pub blob_serialised : (s : List ℕ) → Every is_byte s
    → serialise_byte_sequence s ≡ Some (58 ∷ canon_base64 s)
blob_serialised s h =
    rw (bytes_all s h, encoded s h)
    (ap (λ t. Some (58 ∷ t)) (append_assoc (unpadded 0 s) (replicate (needed s) 61) (58 ∷ [])))
