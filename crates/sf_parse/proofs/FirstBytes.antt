-- The first byte of a set from a byte on.
use Rattle.std.proofs.Common.{◌≡◌, ℕ, zero, suc, ◌+◌, ◌-◌, ◌*◌, ◌/◌, ◌%◌, ◌^◌, ◌<◌, ◌≤◌, ◌⊎◌, inl, inr}
use Rattle.std.proofs.Common.{◌≢◌, true, false, arith, rules, refl, sym, ap, ◌∙◌}
use Rattle.std.proofs.lemmas.Bool.{cases_lt, false≢true}
use Rattle.std.specs.Int.{bit_at, bit_not, trailing_zeros, w128}
use Rattle.std.proofs.lemmas.Nat.{pow_pos}
use Rattle.std.proofs.lemmas.Nat.Bits.{bit_at_cat_high, bit_at_above, bit_at-zero, bit_at-lt, bit_at_not}
use Rattle.std.proofs.lemmas.Nat.Bits.{bit_at-trailing_zeros}
use Rattle.sf_parse.specs.ByteSets.{is_in, HasNone}

-- a bit of a set that has lost its lowest bits
shifted : (set b i : ℕ) → bit_at (set / 2 ^ b) i ≡ bit_at set (b + i)
shifted set b i =
    let some = pow_pos b in
    let small : set % 2 ^ b < 2 ^ b = omega arith in
    let whole : set / 2 ^ b * 2 ^ b + set % 2 ^ b ≡ set = omega arith in
    let at : b + i - b ≡ i = omega arith in
    sym (ap (λ n. bit_at n (b + i)) (sym whole)
    ∙ bit_at_cat_high (set / 2 ^ b) b (set % 2 ^ b) (b + i) small (omega arith)
    ∙ ap (λ k. bit_at (set / 2 ^ b) k) at)

-- whether a byte is in a set, by its bit
pub in_set : (set b : ℕ) → bit_at set b ≡ 1 → is_in set b ≡ true
in_set set b e = rw e refl

pub not_in_set : (set b : ℕ) → bit_at set b ≡ 0 → is_in set b ≡ false
not_in_set set b e = rw e refl

-- nothing is left of the set from b on
pub none_left : (set b : ℕ) → set / 2 ^ b ≡ 0 → HasNone set b 128
none_left set b e k h below =
    let at : b + (k - b) ≡ k = omega arith in
    not_in_set set k (ap (bit_at set) (sym at) ∙ sym (shifted set b (k - b))
    ∙ ap (λ n. bit_at n (k - b)) e ∙ bit_at-zero (k - b))

-- the lowest bit that is left is that of the first byte from b on
pub record IsFirst (set b : ℕ) (zeros : ℕ) : Type 0 where
  pub below : b + zeros < 128
  pub member : is_in set (b + zeros) ≡ true
  pub none : HasNone set b (b + zeros)

pub first_left : (set b : ℕ) → set < 2 ^ 128 → 0 < set / 2 ^ b
    → IsFirst set b (trailing_zeros w128 (set / 2 ^ b))
first_left set b size some =
    let fits : set / 2 ^ b < 2 ^ 128 = omega arith in
    let zeros : ℕ = trailing_zeros w128 (set / 2 ^ b) in
    let found = bit_at-trailing_zeros w128 (set / 2 ^ b) some fits in
    let one : bit_at set (b + zeros) ≡ 1 = sym (shifted set b zeros) ∙ found.1 in
    record {
      below = within (b + zeros) one;
      member = in_set set (b + zeros) one;
      none = λ k h up.
          let at : b + (k - b) ≡ k = omega arith in
          not_in_set set k (ap (bit_at set) (sym at) ∙ sym (shifted set b (k - b))
          ∙ found.2 (k - b) (omega arith));
    }
  where
    within : (k : ℕ) → bit_at set k ≡ 1 → k < 128
    within k one = by (cases_lt k 128)
      where
        by : (k < 128) ⊎ (128 ≤ k) → k < 128
        by (inl low) = low
        by (inr high) =
            let zero_bit = bit_at_above set 128 k size high in
            absurd (let never : ⊥ = omega (arith, one, zero_bit) in never)

-- the other way round in the set of the bytes that are not in a set
pub out_of_other : (set b : ℕ) → set < 2 ^ 128 → b < 128 → is_in (bit_not w128 set) b ≡ false
    → is_in set b ≡ true
out_of_other set b size h f =
    let e = bit_at_not w128 set b size h in
    let most = bit_at-lt set b in
    let unlike : bit_at (bit_not w128 set) b ≢ 1 = search (rules, f) in
    in_set set b (one (bit_at set b) e most unlike)
  where
    one : (n : ℕ) → bit_at (bit_not w128 set) b ≡ 1 - n → n < 2 → bit_at (bit_not w128 set) b ≢ 1
        → n ≡ 1
    one zero e m u = absurd (u e)
    one (suc zero) e m u = refl
    one (suc (suc n)) e m u = absurd (let never : ⊥ = omega arith in never)

pub in_other : (set b : ℕ) → set < 2 ^ 128 → b < 128 → is_in (bit_not w128 set) b ≡ true
    → is_in set b ≡ false
in_other set b size h t =
    let e = bit_at_not w128 set b size h in
    let one : bit_at (bit_not w128 set) b ≡ 1 = search (rules, t) in
    not_in_set set b (omega arith)

-- the first byte that is not in a set is above one that is
pub run_goes_on : (set first next : ℕ) → set < 2 ^ 128 → next < 128
    → is_in (bit_not w128 set) next ≡ true → first ≤ next → is_in set first ≡ true → first < next
run_goes_on set first next size below out up member = by (cases_lt first next)
  where
    by : (first < next) ⊎ (next ≤ first) → first < next
    by (inl low) = low
    by (inr high) =
        let same : first ≡ next = omega arith in
        let clash : false ≡ true =
        sym (in_other set next size below out) ∙ ap (is_in set) (sym same) ∙ member in
        absurd (false≢true clash)
