-- Groups of four characters of base64.
use Rattle.std.proofs.Common.{◌≡◌, ℕ, zero, suc, ◌+◌, ◌*◌, ◌/◌, ◌%◌, ◌<◌, true, List, []}
use Rattle.std.proofs.Common.{◌∷◌, ◌++◌, refl, sym, ap, ap₂, subst, arith}
use Rattle.sf_value.specs.Grammar.Classes.{is_byte}
use Rattle.sf_value.specs.Grammar.ByteSequences.{letter, unpadded, Pads, Sextets}
use Rattle.sf_value.proofs.DigitValues.{letter_same, not_letter}

-- bytes, and what is no letter
pub byte_small : (a : ℕ) → is_byte a ≡ true → a < 256
byte_small a e = grind arith

pub small_byte : (a : ℕ) → a < 256 → is_byte a ≡ true
small_byte a e = grind arith

pub pads_letter : (n x : ℕ) (t : List ℕ) → x < 64 → Pads n (letter x ∷ t) → ⊥
pads_letter n x t h (zero, k, e) = not_letter x 58 h (let e' : letter x ≡ 58 = cc in e') refl
pads_letter n x t h (suc m, k, e) = not_letter x 61 h (let e' : letter x ≡ 61 = cc in e') refl

-- the parts of three bytes
pub first_small : (a : ℕ) → a < 256 → a / 4 < 64
first_small a h = omega arith

pub second_small : (a b : ℕ) → b < 256 → a % 4 * 16 + b / 16 < 64
second_small a b h = omega arith

pub third_small : (b c : ℕ) → c < 256 → b % 16 * 4 + c / 64 < 64
third_small b c h = omega arith

pub fourth_small : (c : ℕ) → c % 64 < 64
fourth_small c = omega arith

pub alone_small : (a low : ℕ) → low < 16 → a % 4 * 16 + low < 64
alone_small a low h = omega arith

pub last_small : (b low : ℕ) → low < 4 → b % 16 * 4 + low < 64
last_small b low h = omega arith

-- the bytes that letters stand for
pub one_byte : (a low x y : ℕ) → low < 16 → a / 4 ≡ x → a % 4 * 16 + low ≡ y → a ≡ x * 4 + y / 16
one_byte a low x y l e d = omega arith

pub two_bytes : (a b low x y z : ℕ) → low < 4 → b < 256 → a / 4 ≡ x → a % 4 * 16 + b / 16 ≡ y
    → b % 16 * 4 + low ≡ z → (a ≡ x * 4 + y / 16) × (b ≡ y % 16 * 16 + z / 4)
two_bytes a b low x y z l h e d c = (omega arith, omega arith)

pub three_bytes : (a b c x y z w : ℕ) → b < 256 → c < 256 → a / 4 ≡ x → a % 4 * 16 + b / 16 ≡ y
    → b % 16 * 4 + c / 64 ≡ z → c % 64 ≡ w
    → (a ≡ x * 4 + y / 16) × (b ≡ y % 16 * 16 + z / 4) × (c ≡ z % 4 * 64 + w)
three_bytes a b c x y z w h k e d f g = (omega arith, omega arith, omega arith)

-- four letters: three bytes, and what follows
unfoldable pub quad : ℕ → ℕ → ℕ → ℕ → List ℕ
quad x y z w = (x * 4 + y / 16) ∷ (y % 16 * 16 + z / 4) ∷ (z % 4 * 64 + w) ∷ []

pub quad_from : (x y z w : ℕ) (u s : List ℕ) → x < 64 → y < 64 → z < 64 → w < 64
    → Sextets (letter x ∷ letter y ∷ letter z ∷ letter w ∷ u) s
    → (r : List ℕ) × Sextets u r × (s ≡ quad x y z w ++ r)
unfolding quad
quad_from x y z w u [] gx gy gz gw (
  low,
  suffix,
  lt,
  e,
  f,
  p,
) = absurd (pads_letter 0 x (letter y ∷ letter z ∷ letter w ∷ u) gx (subst (Pads 0) (sym e) p))
quad_from x y z w u (a ∷ []) gx gy gz gw (
  low,
  suffix,
  lt,
  e,
  f,
  p,
) = absurd (pads_letter 2 z (letter w ∷ u) gz (subst (Pads 2) (let e' : suffix
    ≡ letter z ∷ letter w ∷ u = cc in
    e') p))
quad_from x y z w u (a ∷ c ∷ []) gx gy gz gw (
  low,
  suffix,
  lt,
  e,
  f,
  p,
) = absurd (pads_letter 1 w u gw (subst (Pads 1) (let e' : suffix ≡ letter w ∷ u = cc in
    e') p))
quad_from x y z w u (a ∷ c ∷ d ∷ s) gx gy gz gw (low, suffix, lt, e, f, p) =
    let e1 : letter (a / 4) ≡ letter x = cc in
    let e2 : letter (a % 4 * 16 + c / 16) ≡ letter y = cc in
    let e3 : letter (c % 16 * 4 + d / 64) ≡ letter z = cc in
    let e4 : letter (d % 64) ≡ letter w = cc in
    let e5 : u ≡ unpadded low s ++ suffix = cc in
    let fc = byte_small c f.1.0 in
    let fd = byte_small d f.1.1.0 in
    let k = three_bytes a c d x y z w fc fd
    (letter_same (a / 4) x (first_small a (byte_small a f.0)) gx e1)
    (letter_same (a % 4 * 16 + c / 16) y (second_small a c fc) gy e2)
    (letter_same (c % 16 * 4 + d / 64) z (third_small c d fd) gz e3)
    (letter_same (d % 64) w (fourth_small d) gw e4) in
    (s, (low, suffix, lt, e5, f.1.1.1, p), go k.0 k.1 k.2)
  where
    go : a ≡ x * 4 + y / 16 → c ≡ y % 16 * 16 + z / 4 → d ≡ z % 4 * 64 + w
        → a ∷ c ∷ d ∷ s ≡ (x * 4 + y / 16) ∷ (y % 16 * 16 + z / 4) ∷ (z % 4 * 64 + w) ∷ s
    go p q r = ap₂ (λ p q. p ∷ q) p (ap₂ (λ p q. p ∷ q) q (ap (λ p. p ∷ s) r))

quad_digits : (x y z w : ℕ) → x < 64 → y < 64 → z < 64 → w < 64
    → ((x * 4 + y / 16) / 4 ≡ x) × ((x * 4 + y / 16) % 4 * 16 + (y % 16 * 16 + z / 4) / 16 ≡ y)
    × ((y % 16 * 16 + z / 4) % 16 * 4 + (z % 4 * 64 + w) / 64 ≡ z) × ((z % 4 * 64 + w) % 64 ≡ w)
quad_digits x y z w gx gy gz gw = (omega arith, omega arith, omega arith, omega arith)

quad_bytes : (x y z w : ℕ) → x < 64 → y < 64 → z < 64 → w < 64
    → (x * 4 + y / 16 < 256) × (y % 16 * 16 + z / 4 < 256) × (z % 4 * 64 + w < 256)
quad_bytes x y z w gx gy gz gw = (omega arith, omega arith, omega arith)

pub quad_gives : (x y z w : ℕ) (u r : List ℕ) → x < 64 → y < 64 → z < 64 → w < 64 → Sextets u r
    → Sextets (letter x ∷ letter y ∷ letter z ∷ letter w ∷ u) (quad x y z w ++ r)
unfolding quad
quad_gives x y z w u r gx gy gz gw (low, suffix, lt, e, f, p) =
    let k = quad_digits x y z w gx gy gz gw in
    let b = quad_bytes x y z w gx gy gz gw in (
      low,
      suffix,
      lt,
      ap₂ (λ p q. letter p ∷ q) (sym k.0)
          (ap₂ (λ p q. letter p ∷ q) (sym k.1)
          (ap₂ (λ p q. letter p ∷ q) (sym k.2) (ap₂ (λ p q. letter p ∷ q) (sym k.3) e))),
      (small_byte _ b.0, (small_byte _ b.1, (small_byte _ b.2, f))),
      p,
    )
