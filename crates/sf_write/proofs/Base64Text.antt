-- The base64 of an engine and that of the canonical texts.
use Rattle.std.proofs.Common.{◌≡◌, ℕ, zero, suc, ◌+◌, ◌*◌, ◌/◌, ◌%◌, ◌<◌, ◌≤◌, min, true}
use Rattle.std.proofs.Common.{Result, Ok}
use Rattle.std.proofs.Common.{List, [], ◌∷◌, ◌++◌, length, take, drop, replicate, refl, sym, ap}
use Rattle.std.proofs.Common.{◌∙◌, arith, append_assoc, length-append, add-zero, ⊎_elim}
use Rattle.std.proofs.Math.Seq.{take-length, drop-length}
use Rattle.std.proofs.lemmas.List.{length-replicate, take_at}
use Rattle.std.proofs.lemmas.Bool.{cases_lt}
use Rattle.base64.specs.Engines.{standard}
use Rattle.base64.specs.GeneralPurpose.{IsEncodedOver, encoded_size_of}
use Rattle.base64.specs.declared.encode.EncodeSliceError.{EncodeSliceError}
use Rattle.base64.specs.Rfc4648.{encode, encoded_size, encode_symbols, padding_len}
use Rattle.sf_value.specs.Grammar.ByteSequences.{alphabet, letter, unpadded, needed}
use Rattle.sf_value.specs.Grammar.Canonical.{canon_base64}

-- the characters, without padding
symbols_are : (s : List ℕ) → encode_symbols alphabet s ≡ unpadded 0 s
unfolding letter encode_symbols
symbols_are [] = refl
symbols_are (a ∷ []) = rw add-zero refl
symbols_are (a ∷ b ∷ []) = rw add-zero refl
symbols_are (a ∷ b ∷ c ∷ s) = let rest = symbols_are s in rw rest refl

padding_is : (s : List ℕ) → padding_len (length s) ≡ needed s
padding_is (a ∷ b ∷ c ∷ s) = omega (arith, padding_is s)
padding_is s = refl

-- base64 with its padding
abbrev padded : List ℕ → List ℕ
padded s = unpadded 0 s ++ replicate (needed s) 61

encode_is : (s : List ℕ) → encode alphabet 61 true s ≡ padded s
encode_is s = rw (symbols_are s, padding_is s)

-- whole groups come first
groups : (k : ℕ) (s : List ℕ) → 3 * k ≤ length s
    → canon_base64 s ≡ padded (take (3 * k) s) ++ canon_base64 (drop (3 * k) s)
groups zero s h = refl
groups (suc k) (a ∷ b ∷ c ∷ s) h =
    let three : 3 * suc k ≡ suc (suc (suc (3 * k))) = omega arith in
    let rest = groups k s (omega arith) in
    rw three (ap (λ t. prefix ++ t) rest)
  where
    prefix : List ℕ
    prefix = letter (a / 4) ∷ letter (a % 4 * 16 + b / 16) ∷ letter (b % 16 * 4 + c / 64)
        ∷ letter (c % 64) ∷ []
groups k s h = absurd (omega arith)

-- all that is left is one block
last : (s : List ℕ) → canon_base64 s ≡ padded s ++ canon_base64 []
last s = sym (append_assoc (unpadded 0 s) (replicate (needed s) 61) (58 ∷ []))

-- a block of at most 192 bytes, and the rest
block_prefix : (s : List ℕ) (n : ℕ) → n ≡ min (length s) 192
    → canon_base64 s ≡ padded (take n s) ++ canon_base64 (drop n s)
block_prefix s n e = ⊎_elim part whole (cases_lt (length s) 192)
  where
    whole : 192 ≤ length s → canon_base64 s ≡ padded (take n s) ++ canon_base64 (drop n s)
    whole h = let size : n ≡ 192 = omega arith in rw size (groups 64 s h)

    part : length s < 192 → canon_base64 s ≡ padded (take n s) ++ canon_base64 (drop n s)
    part h = let size : n ≡ length s = omega arith in
        rw (size, take-length s, drop-length s) (last s)

length_unpadded : (s : List ℕ) → length (unpadded 0 s) ≡ (4 * length s + 2) / 3
length_unpadded (a ∷ b ∷ c ∷ s) = omega (arith, length_unpadded s)
length_unpadded s = refl

length_padded : (s : List ℕ) → length (padded s) ≡ encoded_size (length s) true
length_padded s =
    length-append (unpadded 0 s) (replicate (needed s) 61)
    ∙ rw (length_unpadded s, length-replicate, padding_is s)

-- what the engine leaves of a block at the start of a buffer
encoded_block : (block old new : List ℕ) (n : ℕ) → n ≡ encoded_size (length block) true
    → IsEncodedOver standard block old new → take n new ≡ padded block
encoded_block block old new n size w =
    let text : new ≡ padded block ++ drop (encoded_size (length block) true) old =
    w ∙ ap (λ t. t ++ drop (encoded_size (length block) true) old) (encode_is block) in
    let count : length (padded block) ≡ n = length_padded block ∙ rw size refl in
    rw text (take_at (padded block) _ n count)

-- a block of at most 192 bytes takes at most 256 characters
block_size : (n : ℕ) → n ≤ 192 → encoded_size n true ≤ 256
block_size n h = omega arith

abbrev answer : ℕ → Result ℕ EncodeSliceError
answer n = Ok n

-- what the engine sends of a block moves the rest on
pub block_sent : (s block more old new : List ℕ) (n k : ℕ) → k ≡ min (length s) 192
    → block ≡ take k s → more ≡ drop k s → length block ≡ k
    → (encoded_size_of standard (length block) ≤ 256
    → answer n ≡ answer (encoded_size_of standard (length block)))
    → IsEncodedOver standard block old new → canon_base64 s ≡ take n new ++ canon_base64 more
block_sent s block more old new n k size b m small fits w =
    let few : length block ≤ 192 = omega arith in
    let whole = fits (block_size (length block) few) in
    let count : n ≡ encoded_size (length block) true = cc in
    rw (encoded_block block old new n count w, b, m) (block_prefix s k size)
