-- Parsing Byte Sequences: base64 by bits and by groups of four characters.
use Rattle.std.specs.List.{list_all}
use Rattle.std.proofs.Common.{◌≡◌, ℕ, zero, suc, ◌+◌, ◌*◌, ◌/◌, ◌%◌, ◌<◌, ◌≤◌, Bool, true, false}
use Rattle.std.proofs.Common.{not, ◌&&◌, ◌==◌, nat_le, List, [], ◌∷◌, ◌++◌, length, get_or, drop}
use Rattle.std.proofs.Common.{replicate, Option, Some, None, refl, sym, ap, ap₂, ◌∙◌, subst, arith}
use Rattle.std.proofs.Common.{append_assoc, eqb-true}
use Rattle.std.proofs.lemmas.Bool.Decides.{nat_tests}
use Rattle.std.proofs.lemmas.List.{length-replicate}
use Rattle.std.specs.Cmp.{first_so, second_so}
use Rattle.sf_value.specs.Grammar.Words.{Every}
use Rattle.sf_value.specs.Grammar.Classes.{is_byte}
use Rattle.sf_value.specs.Grammar.ByteSequences.{alphabet, letter, unpadded, spare, needed}
use Rattle.sf_value.specs.Grammar.ByteSequences.{Sextets, SpellsByteSequence}
use Rattle.sf_value.proofs.Tables.{each_below}
use Rattle.sf_parse.proofs.Quads.{byte_small, small_byte, first_small, second_small, third_small}
use Rattle.sf_parse.proofs.Quads.{fourth_small, alone_small, last_small, quad, quad_gives}
use Rattle.sf_parse.proofs.Quads.{one_byte, two_bytes, three_bytes}
use Rattle.sf_rfc.specs.Rfc9651.Words.{and_then, first_is, before, from, place_from}
use Rattle.sf_rfc.specs.Rfc9651.Base64.{base64_alphabet, value_of, six_bits, by_eights}
use Rattle.sf_rfc.specs.Rfc9651.Base64.{bits_of_characters, missing, base64_decode}
use Rattle.sf_rfc.specs.Rfc9651.ParsingBare.{can_be_in_base64, parse_byte_sequence}
use Rattle.sf_rfc.specs.ParsingLaws.{ByteSequencesAgree}
use Rattle.sf_rfc.proofs.SerialisingBase64.{missing_group}
use Rattle.sf_rfc.proofs.ParsingSteps.{never, some_is, some_pair, and_then_cases, if_so}

-- the alphabet
unfoldable pub is_value : Option ℕ → ℕ → Bool
is_value None x = false
is_value (Some y) x = y == x

pub the_value : (o : Option ℕ) (x : ℕ) → is_value o x ≡ true → o ≡ Some x
unfolding is_value
the_value None x h = absurd cc
the_value (Some y) x h = let i : y ≡ x = grind (arith, nat_tests) in ap Some i

letter_value : (x : ℕ) → x < 64 → value_of (letter x) ≡ Some x
unfolding value_of letter is_value
letter_value x h =
    the_value (value_of (letter x)) x
    (each_below 64 (λ y. is_value (value_of (letter y)) y) refl x h)

pub placed : (n : ℕ) (xs : List ℕ) (c x : ℕ) → place_from n xs c ≡ Some x
    → (i : ℕ) × (x ≡ n + i) × (i < length xs) × (get_or xs i 0 ≡ c)
placed n [] c x e = never x e
placed n (y ∷ ys) c x e = go (y == c) refl (placed (suc n) ys c x)
  where
    go : (b : Bool) → (y == c) ≡ b
        → (place_from (suc n) ys c ≡ Some x
        → (i : ℕ) × (x ≡ suc n + i) × (i < length ys) × (get_or ys i 0 ≡ c))
        → (i : ℕ) × (x ≡ n + i) × (i < length (y ∷ ys)) × (get_or (y ∷ ys) i 0 ≡ c)
    go true j ih =
        let e2 : ◌≡◌ {A = Option ℕ} (Some n) (Some x) = rw (j, place_from) at e in
        let k = some_is n x e2 in
        (zero, omega arith, omega arith, grind (arith, nat_tests))
    go false j ih =
        let e2 : place_from (suc n) ys c ≡ Some x = rw (j, place_from) at e in
        let (i, a, b, d) = ih e2 in
        (suc i, omega arith, omega arith, d)

value_letter : (c x : ℕ) → value_of c ≡ Some x → (x < 64) × (letter x ≡ c)
unfolding value_of letter
value_letter c x e =
    let (i, a, b, d) = placed 0 base64_alphabet c x e in
    let k : x ≡ i = omega arith in
    (omega arith, ap (λ y. get_or alphabet y 0) k ∙ d)

-- eight bits by eight of four sextets
first_eight : (x y : ℕ) → x < 64 → y < 64
    → x / 32 % 2 * 128 + x / 16 % 2 * 64 + x / 8 % 2 * 32 + x / 4 % 2 * 16 + x / 2 % 2 * 8
    + x % 2 * 4 + y / 32 % 2 * 2 + y / 16 % 2 ≡ x * 4 + y / 16
first_eight x y h k = omega arith

second_eight : (y z : ℕ) → z < 64
    → y / 8 % 2 * 128 + y / 4 % 2 * 64 + y / 2 % 2 * 32 + y % 2 * 16 + z / 32 % 2 * 8
    + z / 16 % 2 * 4 + z / 8 % 2 * 2 + z / 4 % 2 ≡ y % 16 * 16 + z / 4
second_eight y z h = omega arith

third_eight : (z w : ℕ) → w < 64
    → z / 2 % 2 * 128 + z % 2 * 64 + w / 32 % 2 * 32 + w / 16 % 2 * 16 + w / 8 % 2 * 8
    + w / 4 % 2 * 4 + w / 2 % 2 * 2 + w % 2 ≡ z % 4 * 64 + w
third_eight z w h = omega arith

four_sextets : (x y z w : ℕ) (t : List ℕ) → x < 64 → y < 64 → z < 64 → w < 64
    → by_eights (six_bits x ++ (six_bits y ++ (six_bits z ++ (six_bits w ++ t))))
    ≡ (x * 4 + y / 16) ∷ (y % 16 * 16 + z / 4) ∷ (z % 4 * 64 + w) ∷ by_eights t
four_sextets x y z w t hx hy hz hw =
    ap₂ (λ a b. a ∷ b) (first_eight x y hx hy)
    (ap₂ (λ a b. a ∷ b) (second_eight y z hz) (ap (λ a. a ∷ by_eights t) (third_eight z w hw)))

two_sextets : (x y : ℕ) → x < 64 → y < 64
    → by_eights (six_bits x ++ (six_bits y ++ [])) ≡ (x * 4 + y / 16) ∷ []
two_sextets x y hx hy = ap (λ a. a ∷ []) (first_eight x y hx hy)

three_sextets : (x y z : ℕ) → x < 64 → y < 64 → z < 64
    → by_eights (six_bits x ++ (six_bits y ++ (six_bits z ++ [])))
    ≡ (x * 4 + y / 16) ∷ (y % 16 * 16 + z / 4) ∷ []
three_sextets x y z hx hy hz =
    ap₂ (λ a b. a ∷ b) (first_eight x y hx hy) (ap (λ a. a ∷ []) (second_eight y z hz))

-- a character's bits
character_bits : (c : ℕ) (t bits : List ℕ) → bits_of_characters (c ∷ t) ≡ Some bits
    → (x : ℕ) × (rest : List ℕ) × (x < 64) × (letter x ≡ c)
    × (bits_of_characters t ≡ Some rest) × (bits ≡ six_bits x ++ rest)
character_bits c t bits e =
    let (x, a, b) = and_then_cases (value_of c) _ bits e in
    let (rest, d, f) = and_then_cases (bits_of_characters t) _ bits b in
    let k = value_letter c x a in
    (x, rest, k.0, k.1, d, sym (some_is (six_bits x ++ rest) bits f))

bits_letter : (x : ℕ) (t bits : List ℕ) → x < 64 → bits_of_characters t ≡ Some bits
    → bits_of_characters (letter x ∷ t) ≡ Some (six_bits x ++ bits)
bits_letter x t bits h e = rw (letter_value x h, bits_of_characters) (rw e refl)

-- the padding
abbrev padding : ℕ → List ℕ
padding m = replicate m 61 ++ 58 ∷ []

all_pads : (t : List ℕ) → list_all (λ c. c == 61) t ≡ true → t ≡ replicate (length t) 61
all_pads [] h = refl
all_pads (c ∷ t) h =
    let i : c ≡ 61 = grind (arith, nat_tests, h) in
    let j : list_all (λ c. c == 61) t ≡ true = cc in
    ap₂ (λ x y. x ∷ y) i (all_pads t j)

are_pads : (m : ℕ) → list_all (λ c. c == 61) (replicate m 61) ≡ true
are_pads zero = refl
are_pads (suc m) = are_pads m

-- what is decoded is spelled
two_spell : (x y m : ℕ) → x < 64 → y < 64 → m ≤ 2
    → Sextets (letter x ∷ letter y ∷ padding m) ((x * 4 + y / 16) ∷ [])
two_spell x y m hx hy h =
    let i : x ≡ (x * 4 + y / 16) / 4 = omega arith in
    let j : y ≡ (x * 4 + y / 16) % 4 * 16 + y % 16 = omega arith in (
      y % 16,
      padding m,
      omega arith,
      ap₂ (λ p q. letter p ∷ letter q ∷ padding m) i j,
      (small_byte (x * 4 + y / 16) (omega arith), tt),
      (m, h, refl),
    )

three_spell : (x y z m : ℕ) → x < 64 → y < 64 → z < 64 → m ≤ 1
    → Sextets (letter x ∷ letter y ∷ letter z ∷ padding m)
    ((x * 4 + y / 16) ∷ (y % 16 * 16 + z / 4) ∷ [])
three_spell x y z m hx hy hz h =
    let i : x ≡ (x * 4 + y / 16) / 4 = omega arith in
    let j : y ≡ (x * 4 + y / 16) % 4 * 16 + (y % 16 * 16 + z / 4) / 16 = omega arith in
    let k : z ≡ (y % 16 * 16 + z / 4) % 16 * 4 + z % 4 = omega arith in (
      z % 4,
      padding m,
      omega arith,
      ap₂ (λ p q. letter p ∷ q) i (ap₂ (λ p q. letter p ∷ letter q ∷ padding m) j k),
      (
        small_byte (x * 4 + y / 16) (omega arith),
        (small_byte (y % 16 * 16 + z / 4) (omega arith), tt),
      ),
      (m, h, refl),
    )

four_spell : (x y z w : ℕ) (u s : List ℕ) → x < 64 → y < 64 → z < 64 → w < 64 → Sextets u s
    → Sextets (letter x ∷ letter y ∷ letter z ∷ letter w ∷ u)
    ((x * 4 + y / 16) ∷ (y % 16 * 16 + z / 4) ∷ (z % 4 * 64 + w) ∷ s)
unfolding quad
four_spell x y z w u s hx hy hz hw h = quad_gives x y z w u s hx hy hz hw h

sextets_as : (t u s v : List ℕ) → t ≡ u → v ≡ s → Sextets t s → Sextets u v
sextets_as t u s v i j h = subst (λ y. Sextets u y) (sym j) (subst (λ y. Sextets y s) i h)

decoded_spell : (t bits : List ℕ) (m : ℕ) → bits_of_characters t ≡ Some bits
    → (length t % 4 == 1) ≡ false → m ≤ missing 4 (length t)
    → Sextets (t ++ padding m) (by_eights bits)
decoded_spell [] bits m e n h =
    let i : ◌≡◌ {A = List ℕ} [] bits = some_is [] bits e in
    subst (λ b. Sextets (padding m) (by_eights b)) i
    (0, padding m, omega arith, refl, tt, (m, h, refl))
decoded_spell (a ∷ []) bits m e n h = absurd cc
decoded_spell (a ∷ b ∷ []) bits m e n h =
    let (x, s, hx, lx, f, p) = character_bits a (b ∷ []) bits e in
    let (y, r, hy, ly, g, q) = character_bits b [] s f in
    let i : ◌≡◌ {A = List ℕ} [] r = some_is [] r g in
    let j : bits ≡ six_bits x ++ (six_bits y ++ []) =
    p ∙ ap (λ z. six_bits x ++ z) (q ∙ ap (λ z. six_bits y ++ z) (sym i)) in
    sextets_as (letter x ∷ letter y ∷ padding m) (a ∷ b ∷ padding m) ((x * 4 + y / 16) ∷ [])
    (by_eights bits) (ap₂ (λ p q. p ∷ q ∷ padding m) lx ly)
    (ap by_eights j ∙ two_sextets x y hx hy) (two_spell x y m hx hy h)
decoded_spell (a ∷ b ∷ c ∷ []) bits m e n h =
    let (x, s, hx, lx, f, p) = character_bits a (b ∷ c ∷ []) bits e in
    let (y, r, hy, ly, g, q) = character_bits b (c ∷ []) s f in
    let (z, o, hz, lz, k, l) = character_bits c [] r g in
    let i : ◌≡◌ {A = List ℕ} [] o = some_is [] o k in
    let j : bits ≡ six_bits x ++ (six_bits y ++ (six_bits z ++ [])) =
    p ∙ ap (λ u. six_bits x ++ u) (q ∙ ap (λ u. six_bits y ++ u) (l ∙ ap (λ u. six_bits z ++ u) (sym i))) in
    sextets_as (letter x ∷ letter y ∷ letter z ∷ padding m) (a ∷ b ∷ c ∷ padding m)
    ((x * 4 + y / 16) ∷ (y % 16 * 16 + z / 4) ∷ []) (by_eights bits)
    (ap₂ (λ p q. p ∷ q) lx (ap₂ (λ p q. p ∷ q ∷ padding m) ly lz))
    (ap by_eights j ∙ three_sextets x y z hx hy hz) (three_spell x y z m hx hy hz h)
decoded_spell (a ∷ b ∷ c ∷ d ∷ t) bits m e n h =
    let (x, s, hx, lx, f, p) = character_bits a (b ∷ c ∷ d ∷ t) bits e in
    let (y, r, hy, ly, g, q) = character_bits b (c ∷ d ∷ t) s f in
    let (z, o, hz, lz, k, l) = character_bits c (d ∷ t) r g in
    let (w, rest, hw, lw, i, v) = character_bits d t o k in
    let j : bits ≡ six_bits x ++ (six_bits y ++ (six_bits z ++ (six_bits w ++ rest))) =
    p ∙ ap (λ u. six_bits x ++ u) (q ∙ ap (λ u. six_bits y ++ u) (l ∙ ap (λ u. six_bits z ++ u) v)) in
    let n2 : length t % 4 ≡ length (a ∷ b ∷ c ∷ d ∷ t) % 4 = omega arith in
    let n3 : (length t % 4 == 1) ≡ false = rw n2 n in
    let h2 : m ≤ missing 4 (length t) = rw (missing_group a b c d t) at h in
    let ih = decoded_spell t rest m i n3 h2 in
    sextets_as (letter x ∷ letter y ∷ letter z ∷ letter w ∷ (t ++ padding m))
    (a ∷ b ∷ c ∷ d ∷ (t ++ padding m))
    ((x * 4 + y / 16) ∷ (y % 16 * 16 + z / 4) ∷ (z % 4 * 64 + w) ∷ by_eights rest)
    (by_eights bits)
    (ap₂ (λ p q. p ∷ q) lx (ap₂ (λ p q. p ∷ q) ly
    (ap₂ (λ p q. p ∷ q ∷ (t ++ padding m)) lz lw)))
    (ap by_eights j ∙ four_sextets x y z w rest hx hy hz hw)
    (four_spell x y z w (t ++ padding m) (by_eights rest) hx hy hz hw ih)

-- the cuts at ":" and "="
pad_tests : (a b : Bool) (n m : ℕ) → (not a && (b && nat_le n m)) ≡ true
    → (a ≡ false) × (b ≡ true) × (n ≤ m)
pad_tests a b n m h = grind (arith, nat_tests)

cut : (x : ℕ) (t : List ℕ) → t ≡ before x t ++ from x t
cut x [] = refl
cut x (c ∷ t) = go (c == x) refl (cut x t)
  where
    go : (b : Bool) → (c == x) ≡ b → t ≡ before x t ++ from x t
        → c ∷ t ≡ before x (c ∷ t) ++ from x (c ∷ t)
    go true i ih = rw (i, before, from) refl
    go false i ih = rw (i, before, from) (ap (λ y. c ∷ y) ih)

pub is_first : (x : ℕ) (t : List ℕ) → first_is (λ c. c == x) t ≡ true → t ≡ x ∷ drop 1 t
is_first x [] h = absurd cc
is_first x (c ∷ t) h = let i : c ≡ x = grind (arith, nat_tests) in ap (λ y. y ∷ t) i

cut_before : (x : ℕ) (q : ℕ → Bool) → q x ≡ false → (w t : List ℕ) → list_all q w ≡ true
    → (before x (w ++ x ∷ t) ≡ w) × (from x (w ++ x ∷ t) ≡ x ∷ t)
cut_before x q n [] t h =
    let i : (x == x) ≡ true = grind (arith, nat_tests) in
    (rw (i, before) refl, rw (i, from) refl)
cut_before x q n (c ∷ w) t h = go (c == x) refl (cut_before x q n w t)
  where
    go : (b : Bool) → (c == x) ≡ b
        → (list_all q w ≡ true
        → (before x (w ++ x ∷ t) ≡ w) × (from x (w ++ x ∷ t) ≡ x ∷ t))
        → (before x (c ∷ (w ++ x ∷ t)) ≡ c ∷ w) × (from x (c ∷ (w ++ x ∷ t)) ≡ x ∷ t)
    go true i ih =
        let j : c ≡ x = grind (arith, nat_tests) in
        let k : q c ≡ true = first_so (q c) (list_all q w) h in
        absurd (let l : q x ≡ true = subst (λ y. q y ≡ true) j k in
        let o : true ≡ false = sym l ∙ n in cc)
    go false i ih =
        let k = ih (second_so (q c) (list_all q w) h) in
        (rw (i, before) (ap (λ y. c ∷ y) k.0), rw (i, from) k.1)

-- the pads of a text that is decoded, by their count
decoded_sound : (t s : List ℕ) → base64_decode t ≡ Some s → Sextets (t ++ 58 ∷ []) s
decoded_sound t s e =
    let characters : List ℕ = before 61 t in
    let pads : List ℕ = from 61 t in
    let (h, a) = if_so (not (length characters % 4 == 1) && (list_all (λ c. c == 61) pads
    && nat_le (length pads) (missing 4 (length characters)))) _ s e in
    let (bits, b, d) = and_then_cases (bits_of_characters characters) _ s a in
    let k = pad_tests (length characters % 4 == 1) (list_all (λ c. c == 61) pads) (length pads)
    (missing 4 (length characters)) h in
    let i : pads ≡ replicate (length pads) 61 = all_pads pads k.1 in
    let j : t ++ 58 ∷ [] ≡ characters ++ padding (length pads) =
    ap (λ y. y ++ 58 ∷ []) (cut 61 t ∙ ap (λ y. characters ++ y) i)
    ∙ append_assoc characters (replicate (length pads) 61) (58 ∷ []) in
    rw j (subst (λ y. Sextets (characters ++ padding (length pads)) y) (some_is (by_eights bits) s d)
    (decoded_spell characters bits (length pads) b k.0 k.2))

sequence_sound : (t r s : List ℕ) → parse_byte_sequence t ≡ Some (s, r)
    → (prefix : List ℕ) × (t ≡ prefix ++ r) × SpellsByteSequence prefix s
sequence_sound [] r s e = never (s, r) e
sequence_sound (c ∷ t) r s e =
    let (h, a) = if_so (c == 58) _ (s, r) e in
    let (i, b) = if_so (first_is (λ x. x == 58) (from 58 t)) _ (s, r) a in
    let (j, d) = if_so (list_all can_be_in_base64 (before 58 t)) _ (s, r) b in
    let (x, f, g) = and_then_cases (base64_decode (before 58 t)) _ (s, r) d in
    let k = some_pair x s (drop 1 (from 58 t)) r g in
    let l : t ≡ (before 58 t ++ 58 ∷ []) ++ r =
    cut 58 t ∙ ap (λ y. before 58 t ++ y) (is_first 58 (from 58 t) i ∙ ap (λ y. 58 ∷ y) k.1)
    ∙ sym (append_assoc (before 58 t) (58 ∷ []) r) in (
      58 ∷ (before 58 t ++ 58 ∷ []),
      ap₂ (λ y z. y ∷ z) (eqb-true c 58 h) l,
      (
        before 58 t ++ 58 ∷ [],
        refl,
        subst (λ y. Sextets (before 58 t ++ 58 ∷ []) y) k.0 (decoded_sound (before 58 t) x f),
      ),
    )

-- what is spelled is decoded
is_letter : ℕ → Bool
is_letter c = can_be_in_base64 c && not (c == 61)

a_letter : (x : ℕ) → x < 64 → is_letter (letter x) ≡ true
unfolding is_letter letter
a_letter x h = each_below 64 (λ y. is_letter (letter y)) refl x h

with_letter : (x : ℕ) (t : List ℕ) → x < 64 → list_all is_letter t ≡ true
    → list_all is_letter (letter x ∷ t) ≡ true
with_letter x t h e = rw (a_letter x h) e

-- the characters of a whole text: their bits, and the count of the last group
record Decodes (t s : List ℕ) : Type 0 where
  bits : List ℕ
  are_bits : bits_of_characters t ≡ Some bits
  bytes : by_eights bits ≡ s
  letters : list_all is_letter t ≡ true
  not_one : (length t % 4 == 1) ≡ false
  lacks : missing 4 (length t) ≡ needed s

two_decode : (a low : ℕ) → a < 256 → low < 16
    → Decodes (letter (a / 4) ∷ letter (a % 4 * 16 + low) ∷ []) (a ∷ [])
two_decode a low ha hl =
    let x : ℕ = a / 4 in
    let y : ℕ = a % 4 * 16 + low in
    let hx : a / 4 < 64 = first_small a ha in
    let hy : a % 4 * 16 + low < 64 = alone_small a low hl in record {
      bits = six_bits x ++ (six_bits y ++ []);
      are_bits = bits_letter x (letter y ∷ []) (six_bits y ++ []) hx (bits_letter y [] [] hy refl);
      bytes = two_sextets x y hx hy
          ∙ ap (λ z. z ∷ []) (sym (one_byte a low x y hl refl refl));
      letters = with_letter x (letter y ∷ []) hx (with_letter y [] hy refl);
      not_one = refl;
      lacks = refl;
    }

three_decode : (a b low : ℕ) → a < 256 → b < 256 → low < 4
    → Decodes (letter (a / 4) ∷ letter (a % 4 * 16 + b / 16) ∷ letter (b % 16 * 4 + low) ∷ [])
    (a ∷ b ∷ [])
three_decode a b low ha hb hl =
    let x : ℕ = a / 4 in
    let y : ℕ = a % 4 * 16 + b / 16 in
    let z : ℕ = b % 16 * 4 + low in
    let hx : a / 4 < 64 = first_small a ha in
    let hy : a % 4 * 16 + b / 16 < 64 = second_small a b hb in
    let hz : b % 16 * 4 + low < 64 = last_small b low hl in
    let k = two_bytes a b low x y z hl hb refl refl refl in record {
      bits = six_bits x ++ (six_bits y ++ (six_bits z ++ []));
      are_bits = bits_letter x (letter y ∷ letter z ∷ []) (six_bits y ++ (six_bits z ++ [])) hx
          (bits_letter y (letter z ∷ []) (six_bits z ++ []) hy (bits_letter z [] [] hz refl));
      bytes = three_sextets x y z hx hy hz
          ∙ ap₂ (λ p q. p ∷ q ∷ []) (sym k.0) (sym k.1);
      letters = with_letter x (letter y ∷ letter z ∷ []) hx
          (with_letter y (letter z ∷ []) hy (with_letter z [] hz refl));
      not_one = refl;
      lacks = refl;
    }

four_decode : (a b c : ℕ) (t s : List ℕ) → a < 256 → b < 256 → c < 256 → Decodes t s
    → Decodes (letter (a / 4) ∷ letter (a % 4 * 16 + b / 16) ∷ letter (b % 16 * 4 + c / 64)
    ∷ letter (c % 64) ∷ t) (a ∷ b ∷ c ∷ s)
four_decode a b c t s ha hb hc g =
    let x : ℕ = a / 4 in
    let y : ℕ = a % 4 * 16 + b / 16 in
    let z : ℕ = b % 16 * 4 + c / 64 in
    let w : ℕ = c % 64 in
    let hx : a / 4 < 64 = first_small a ha in
    let hy : a % 4 * 16 + b / 16 < 64 = second_small a b hb in
    let hz : b % 16 * 4 + c / 64 < 64 = third_small b c hc in
    let hw : c % 64 < 64 = fourth_small c in
    let k = three_bytes a b c x y z w hb hc refl refl refl refl in
    let n : length (letter x ∷ letter y ∷ letter z ∷ letter w ∷ t) % 4 ≡ length t % 4 = omega arith in
    record {
      bits = six_bits x ++ (six_bits y ++ (six_bits z ++ (six_bits w ++ g.bits)));
      are_bits = bits_letter x (letter y ∷ letter z ∷ letter w ∷ t)
          (six_bits y ++ (six_bits z ++ (six_bits w ++ g.bits))) hx
          (bits_letter y (letter z ∷ letter w ∷ t) (six_bits z ++ (six_bits w ++ g.bits)) hy
          (bits_letter z (letter w ∷ t) (six_bits w ++ g.bits) hz
          (bits_letter w t g.bits hw g.are_bits)));
      bytes = four_sextets x y z w g.bits hx hy hz hw
          ∙ ap₂ (λ p q. p ∷ q) (sym k.0) (ap₂ (λ p q. p ∷ q) (sym k.1)
          (ap₂ (λ p q. p ∷ q) (sym k.2) g.bytes));
      letters = with_letter x (letter y ∷ letter z ∷ letter w ∷ t) hx
          (with_letter y (letter z ∷ letter w ∷ t) hy
          (with_letter z (letter w ∷ t) hz (with_letter w t hw g.letters)));
      not_one = ap (λ y. y == 1) n ∙ g.not_one;
      lacks = missing_group (letter x) (letter y) (letter z) (letter w) t ∙ g.lacks;
    }

decodes : (low : ℕ) (s : List ℕ) → low < spare s → Every is_byte s → Decodes (unpadded low s) s
decodes low [] l h = record {
  bits = [];
  are_bits = refl;
  bytes = refl;
  letters = refl;
  not_one = refl;
  lacks = refl;
}
decodes low (a ∷ []) l h = two_decode a low (byte_small a h.0) l
decodes low (a ∷ b ∷ []) l h = three_decode a b low (byte_small a h.0) (byte_small b h.1.0) l
decodes low (a ∷ b ∷ c ∷ s) l h =
    four_decode a b c (unpadded low s) s (byte_small a h.0) (byte_small b h.1.0)
    (byte_small c h.1.1.0) (decodes low s l h.1.1.1)

pad_no : (a b : Bool) → (a && not b) ≡ true → b ≡ false
pad_no a b h = grind arith

not_pad : (c : ℕ) → is_letter c ≡ true → (c == 61) ≡ false
unfolding is_letter
not_pad c h = pad_no (can_be_in_base64 c) (c == 61) h

letter_no_pad : is_letter 61 ≡ false
unfolding is_letter
letter_no_pad = refl

-- the cut at the first "=", if there is one
cut_pads : (w : List ℕ) (m : ℕ) → list_all is_letter w ≡ true
    → (before 61 (w ++ replicate m 61) ≡ w) × (from 61 (w ++ replicate m 61) ≡ replicate m 61)
cut_pads w (suc m) h = cut_before 61 is_letter letter_no_pad w (replicate m 61) h
cut_pads [] zero h = (refl, refl)
cut_pads (c ∷ w) zero h =
    let i : (c == 61) ≡ false = not_pad c (first_so (is_letter c) (list_all is_letter w) h) in
    let k = cut_pads w zero (second_so (is_letter c) (list_all is_letter w) h) in
    (rw (i, before) (ap (λ y. c ∷ y) k.0), rw (i, from) k.1)

at_most : (n m : ℕ) → n ≤ m → nat_le n m ≡ true
at_most n m h = grind (arith, nat_tests)

-- decoding by the two parts of the cut
abbrev decode_parts : List ℕ → List ℕ → Option (List ℕ)
decode_parts characters pads =
    elim (not (length characters % 4 == 1) && (list_all (λ c. c == 61) pads
    && nat_le (length pads) (missing 4 (length characters)))) [
      | false ↦ None
      | true ↦ and_then (bits_of_characters characters) (λ bits. Some (by_eights bits))
    ]

parts_decoded : (t s : List ℕ) (m : ℕ) → Decodes t s → m ≤ needed s
    → decode_parts t (replicate m 61) ≡ Some s
parts_decoded t s m g k =
    let n : nat_le m (missing 4 (length t)) ≡ true =
    at_most m (missing 4 (length t)) (rw g.lacks k) in
    let c : nat_le (length {A = ℕ} (replicate m 61)) (missing 4 (length t)) ≡ true =
    ap (λ y. nat_le y (missing 4 (length t))) (length-replicate m 61) ∙ n in
    rw (g.not_one, are_pads m, c, decode_parts) (ap (λ o. and_then o (λ bits. Some (by_eights bits))) g.are_bits
    ∙ ap Some g.bytes)

decoded : (low : ℕ) (s : List ℕ) (m : ℕ) → low < spare s → Every is_byte s → m ≤ needed s
    → base64_decode (unpadded low s ++ replicate m 61) ≡ Some s
decoded low s m l h k =
    let g = decodes low s l h in
    let c = cut_pads (unpadded low s) m g.letters in
    ap₂ decode_parts c.0 c.1 ∙ parts_decoded (unpadded low s) s m g k

-- the characters before the ":"
in_base64 : (c : ℕ) → is_letter c ≡ true → can_be_in_base64 c ≡ true
unfolding is_letter
in_base64 c h = first_so (can_be_in_base64 c) (not (c == 61)) h

all_in_base64 : (w : List ℕ) (m : ℕ) → list_all is_letter w ≡ true
    → list_all can_be_in_base64 (w ++ replicate m 61) ≡ true
all_in_base64 [] zero h = refl
all_in_base64 [] (suc m) h = all_in_base64 [] m h
all_in_base64 (c ∷ w) m h =
    rw (in_base64 c (first_so (is_letter c) (list_all is_letter w) h))
    (all_in_base64 w m (second_so (is_letter c) (list_all is_letter w) h))

-- a Byte Sequence by the two parts of the cut
abbrev sequence_parts : List ℕ → List ℕ → Option (List ℕ × List ℕ)
sequence_parts content suffix =
    elim (first_is (λ x. x == 58) suffix) [
      | false ↦ None
      | true ↦ elim (list_all can_be_in_base64 content) [
        | false ↦ None
        | true ↦ and_then (base64_decode content) (λ s. Some (s, drop 1 suffix))
      ]
    ]

sequence_read : (t s r : List ℕ) → list_all can_be_in_base64 t ≡ true → base64_decode t ≡ Some s
    → parse_byte_sequence (58 ∷ (t ++ 58 ∷ r)) ≡ Some (s, r)
sequence_read t s r h e =
    let c = cut_before 58 can_be_in_base64 refl t r h in
    ap₂ sequence_parts c.0 c.1
    ∙ rw (h, sequence_parts) (ap (λ o. and_then {B = List ℕ × List ℕ} o (λ x. Some (x, r))) e)

sequence_whole : (t r s : List ℕ) → SpellsByteSequence t s → first_is (λ c. false) r ≡ false
    → parse_byte_sequence (t ++ r) ≡ Some (s, r)
sequence_whole t r s (u, i, (low, suffix, l, j, h, (m, k, p))) f =
    let w : List ℕ = unpadded low s ++ replicate m 61 in
    let g = decodes low s l h in
    let e : t ++ r ≡ 58 ∷ (w ++ 58 ∷ r) =
    ap (λ y. y ++ r) i
    ∙ ap (λ y. 58 ∷ y) (ap (λ y. y ++ r) (j ∙ ap (λ y. unpadded low s ++ y) p
    ∙ sym (append_assoc (unpadded low s) (replicate m 61) (58 ∷ [])))
    ∙ append_assoc w (58 ∷ []) r) in
    ap parse_byte_sequence e
    ∙ sequence_read w s r (all_in_base64 (unpadded low s) m g.letters) (decoded low s m l h k)

pub byte_sequences_agree : ByteSequencesAgree
byte_sequences_agree = record { sound = sequence_sound; whole = sequence_whole }
