-- Digits bound a number.
use Rattle.std.proofs.Common.{ℕ, ◌+◌, ◌*◌, ◌^◌, ◌<◌, ◌≤◌, arith}
use Rattle.std.proofs.Math.Nat.{pow-le-pow_right}
use Rattle.std.proofs.lemmas.Grind.{pow_more}

-- so many digits are below the power
below : (count most value : ℕ) → value < 10 ^ count → count ≤ most → value < 10 ^ most
below count most value h k =
    let ten : 0 < 10 = omega arith in
    omega (arith, pow-le-pow_right ten k)

pub next_digit : (count value d : ℕ) → value < 10 ^ count → d < 10
    → 10 * value + d < 10 ^ (count + 1)
next_digit count value d h k = omega (arith, pow_more 10 count)

pub digit_fits : (count value : ℕ) → value < 10 ^ count → count < 15 → value < 10 ^ 14
digit_fits count value h k = below count 14 value h (omega arith)

pub whole_fits : (count value : ℕ) → value < 10 ^ count → count ≤ 12 → value < 10 ^ 12
whole_fits count value = below count 12 value

pub short : (count value : ℕ) → value < 10 ^ count → count ≤ 15 → value ≤ 999999999999999
short count value h k = omega (arith, below count 15 value h k)
