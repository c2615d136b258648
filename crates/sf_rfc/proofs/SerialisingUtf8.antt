-- What is well-formed by the table keeps to the rules of RFC 3629.
use Rattle.std.proofs.Common.{◌≡◌, ℕ, zero, suc, ◌<◌, ◌≤◌, true, false, List, [], ◌∷◌, length}
use Rattle.std.proofs.Common.{Some, refl, subst, arith, le_refl}
use Rattle.std.proofs.lemmas.Bool.Decides.{nat_tests}
use Rattle.sf_value.specs.Grammar.Utf8.{Utf8, Start, Within, followed_by, within, rows}
use Rattle.sf_value.specs.Grammar.Utf8.{WellFormed}
use Rattle.sf_value.proofs.Utf8Table.{EachRow, looked_up}
use Rattle.sf_value.proofs.Words.{allow_cases}
use Rattle.sf_rfc.specs.Rfc9651.Alphabets.{in_range}
use Rattle.sf_rfc.specs.Rfc9651.Utf8.{utf8_char, utf8_octets, is_utf8}

pub inside : (low high b : ℕ) → low ≤ b → b ≤ high → in_range low high b ≡ true
inside low high b l h = grind arith

below : (low high b : ℕ) → b < low → in_range low high b ≡ false
below low high b l = grind arith

pub above : (low high b : ℕ) → high < b → in_range low high b ≡ false
above low high b l = grind arith

-- the next byte
next_is : (n low high c : ℕ) (s : List ℕ) → WellFormed (Within n low high) (c ∷ s)
    → (in_range low high c ≡ true) × WellFormed (followed_by n) s
next_is n low high c s (y, e, w) =
    let k = allow_cases (within low high c) (followed_by n) y e in
    (k.0, subst (λ z. WellFormed z s) k.1 w)

-- a character is taken, and what is left is well-formed
abbrev Takes : ℕ → Utf8 → Type 0
Takes b y =
    (s : List ℕ) → WellFormed y s
    → (t : List ℕ) × (utf8_char (b ∷ s) ≡ Some t) × (length t ≤ length s) × WellFormed Start t

takes_two : (b : ℕ) → 194 ≤ b → b ≤ 223 → Takes b (Within 0 128 191)
takes_two b l h [] w = absurd w
takes_two b l h (c ∷ s) w =
    let k = next_is 0 128 191 c s w in
    (s, rw (above 0 127 b (omega arith), inside 194 223 b l h, k.0) refl, omega arith, k.1)

-- a first byte with two bytes after it, of which the next is in this range
two_more : (b low high : ℕ)
    → ((c d : ℕ) (s : List ℕ) → in_range low high c ≡ true → in_range 128 191 d ≡ true
    → utf8_char (b ∷ c ∷ d ∷ s) ≡ Some s)
    → Takes b (Within 1 low high)
two_more b low high char [] w = absurd w
two_more b low high char (c ∷ []) w = absurd (next_is 1 low high c [] w).1
two_more b low high char (c ∷ d ∷ s) w =
    let k = next_is 1 low high c (d ∷ s) w in
    let j = next_is 0 128 191 d s k.1 in
    (s, char c d s k.0 j.0, omega arith, j.1)

-- and one with three
three_more : (b low high : ℕ)
    → ((c d f : ℕ) (s : List ℕ) → in_range low high c ≡ true → in_range 128 191 d ≡ true
    → in_range 128 191 f ≡ true → utf8_char (b ∷ c ∷ d ∷ f ∷ s) ≡ Some s)
    → Takes b (Within 2 low high)
three_more b low high char [] w = absurd w
three_more b low high char (c ∷ []) w = absurd (next_is 2 low high c [] w).1
three_more b low high char (c ∷ d ∷ []) w =
    absurd (next_is 1 128 191 d [] (next_is 2 low high c (d ∷ []) w).1).1
three_more b low high char (c ∷ d ∷ f ∷ s) w =
    let k = next_is 2 low high c (d ∷ f ∷ s) w in
    let j = next_is 1 128 191 d (f ∷ s) k.1 in
    let i = next_is 0 128 191 f s j.1 in
    (s, char c d f s k.0 j.0 i.0, omega arith, i.1)

takes_one : (b : ℕ) → b ≤ 127 → Takes b Start
takes_one b h s w = (s, rw (inside 0 127 b (omega arith) h) refl, le_refl (length s), w)

takes : EachRow Takes rows
takes = (
  (λ b l h. takes_one b h),
  (
    takes_two,
    (
      (λ b l h. two_more b 160 191 (λ c d s p q. grind (arith, nat_tests))),
      (
        (λ b l h. two_more b 128 191 (λ c d s p q. grind (arith, nat_tests))),
        (
          (λ b l h. two_more b 128 159 (λ c d s p q. grind (arith, nat_tests))),
          (
            (λ b l h. two_more b 128 191 (λ c d s p q. grind (arith, nat_tests))),
            (
              (λ b l h. three_more b 144 191 (λ c d f s p q r. grind (arith, nat_tests))),
              (
                (λ b l h. three_more b 128 191 (λ c d f s p q r. grind (arith, nat_tests))),
                ((λ b l h. three_more b 128 143 (λ c d f s p q r. grind (arith, nat_tests))), tt),
              ),
            ),
          ),
        ),
      ),
    ),
  ),
)

by_length : (n : ℕ) (s : List ℕ) → length s ≤ n → WellFormed Start s → utf8_octets n s ≡ true
by_length n [] h w = refl
by_length zero (b ∷ s) h w = absurd (omega arith)
by_length (suc n) (b ∷ s) h (y, e, w) =
    let k = looked_up Takes rows takes b y e s w in
    rw (k.1, utf8_octets) (by_length n k.0 (omega arith) k.3)

pub well_formed_utf8 : (s : List ℕ) → WellFormed Start s → is_utf8 s ≡ true
well_formed_utf8 s w = by_length (length s) s (le_refl (length s)) w
