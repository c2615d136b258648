-- The values of digits: of hexadecimal ones, and of the characters of base64.
use Rattle.std.proofs.Common.{◌≡◌, ℕ, ◌+◌, ◌-◌, ◌<◌, ◌≤◌, true, ◌==◌, nat_lt, if◌then◌else◌, Some}
use Rattle.std.proofs.Common.{None, refl, ap, ◌⊎◌, arith, eqb-true}
use Rattle.sf_value.specs.Digits.{sextet, unhex}
use Rattle.sf_value.specs.Grammar.ByteSequences.{letter}
use Rattle.sf_value.specs.Grammar.DisplayStrings.{hex}
use Rattle.sf_value.proofs.Tables.{all_below, each_below}

pub hex_read : (d : ℕ) → d < 16 → unhex (hex d) ≡ Some d
hex_read d h = grind arith

pub read_hex : (b d : ℕ) → unhex b ≡ Some d → (hex d ≡ b) × (d < 16)
read_hex b d e = grind arith

-- the character of a value by its range, in place of its place in the alphabet
abbrev letter_formula : ℕ → ℕ
letter_formula x =
    if nat_lt x 26 then x + 65
    else (if nat_lt x 52 then x + 71
    else (if nat_lt x 62 then x - 4
    else (if x == 62 then 43 else 47)))

the_letters : all_below 64 (λ x. letter x == letter_formula x) ≡ true
unfolding letter
the_letters = refl

letter_is : (x : ℕ) → x < 64 → letter x ≡ letter_formula x
letter_is x h =
    eqb-true (letter x) (letter_formula x)
    (each_below 64 (λ y. letter y == letter_formula y) the_letters x h)

formula_read : (x : ℕ) → x < 64 → sextet (letter_formula x) ≡ Some x
formula_read x h = grind arith

pub letter_read : (x : ℕ) → x < 64 → sextet (letter x) ≡ Some x
letter_read x h = rw (letter_is x h) (formula_read x h)

-- the five ranges of characters
Ranges : ℕ → ℕ → Type 0
Ranges b x = ((65 ≤ b) × (b ≤ 90)
    × (x + 65 ≡ b)) ⊎ (((97 ≤ b) × (b ≤ 122)
    × (x + 71 ≡ b)) ⊎ (((48 ≤ b) × (b ≤ 57)
    × (x ≡ b + 4)) ⊎ (((b ≡ 43) × (x ≡ 62)) ⊎ ((b ≡ 47) × (x ≡ 63)))))

read_ranges : (b x : ℕ) → sextet b ≡ Some x → Ranges b x
unfolding Ranges
read_ranges b x e = grind arith

read_small : (b x : ℕ) → Ranges b x → x < 64
unfolding Ranges
read_small b x r = grind arith

formula_back : (b x : ℕ) → Ranges b x → letter_formula x ≡ b
unfolding Ranges
formula_back b x r = grind arith

read_back : (b x : ℕ) → Ranges b x → letter x ≡ b
unfolding Ranges
read_back b x r = rw (letter_is x (read_small b x r)) (formula_back b x r)

pub read_letter : (b x : ℕ) → sextet b ≡ Some x → (letter x ≡ b) × (x < 64)
read_letter b x e = let r = read_ranges b x e in (read_back b x r, read_small b x r)

pub letter_same : (x y : ℕ) → x < 64 → y < 64 → letter x ≡ letter y → x ≡ y
letter_same x y h k e = let a = letter_read x h in let b = letter_read y k in
    let c : sextet (letter x) ≡ sextet (letter y) = ap sextet e in cc

pub not_letter : (x b : ℕ) → x < 64 → letter x ≡ b → sextet b ≡ None → ⊥
not_letter x b h e n = let a = letter_read x h in
    let c : sextet (letter x) ≡ sextet b = ap sextet e in cc
