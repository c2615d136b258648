-- Sets of bytes as the bits of a number, bit by bit.
use Rattle.std.proofs.Common.{◌≡◌, ℕ, zero, ◌^◌, ◌<◌, ◌≤◌, Bool, true, false, ◌==◌}
use Rattle.std.proofs.Common.{nat_lt, ◌&&◌, ◌||◌, cond, ap₂, ◌∙◌, ⊎_elim}
use Rattle.std.proofs.Common.{arith, bit_or, eqb-true, max}
use Rattle.std.specs.Int.{bit_at}
use Rattle.std.proofs.lemmas.Nat.Bits.{bit_at_or, bit_at_above, bit_at-zero}
use Rattle.std.proofs.lemmas.Bool.{and_parts, cases_lt}
use Rattle.sf_value.proofs.Tables.{all_below, each_below}
use Rattle.sf_scan.specs.Sets.{Marks}

-- the bit of a test
abbrev pub bit : Bool → ℕ
bit c = cond c 1 0

-- either of two sets
most : (c x y : Bool) → max (bit (c && x)) (bit (c && y)) ≡ bit (c && (x || y))
most c x y = grind arith

pub marks_or : (x y : ℕ) (p q : ℕ → Bool) → Marks x p → Marks y q
    → Marks (bit_or x y) (λ b. p b || q b)
marks_or x y p q h k b =
    bit_at_or x y b ∙ ap₂ max (h b) (k b) ∙ most (nat_lt b 128) (p b) (q b)

none : (c : Bool) → zero ≡ bit (c && false)
none c = grind arith

pub marks_none : Marks 0 (λ b. false)
marks_none b = bit_at-zero b ∙ none (nat_lt b 128)

-- a set where a condition holds
pub marks_if : (c : Bool) (x : ℕ) (p : ℕ → Bool) → Marks x p → Marks (cond c x 0) (λ b. c && p b)
marks_if true x p h = h
marks_if false x p h = marks_none

-- a set that is known
pub above : (b : ℕ) (c : Bool) → 128 ≤ b → zero ≡ bit (nat_lt b 128 && c)
above b c h = grind arith

below : (b : ℕ) (c : Bool) → b < 128 → bit c ≡ bit (nat_lt b 128 && c)
below b c h = grind arith

less : (x n : ℕ) → nat_lt x n ≡ true → x < n
less x n h = grind arith

abbrev pub is_table : ℕ → (ℕ → Bool) → Bool
is_table x p = nat_lt x (2 ^ 128) && all_below 128 (λ b. bit_at x b == cond (p b) 1 0)

pub marks_table : (x : ℕ) (p : ℕ → Bool) → is_table x p ≡ true → Marks x p
marks_table x p h b =
    let k = and_parts (nat_lt x (2 ^ 128)) (all_below 128 (λ b. bit_at x b == bit (p b))) h in
    let small = less x (2 ^ 128) k.0 in
    ⊎_elim (λ l. eqb-true (bit_at x b) (bit (p b))
    (each_below 128 (λ b. bit_at x b == bit (p b)) k.1 b l) ∙ below b (p b) l)
    (λ g. bit_at_above x 128 b small g ∙ above b (p b) g) (cases_lt b 128)
