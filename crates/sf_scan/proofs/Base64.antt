-- Groups of characters of base64, and the bytes that they stand for.
use Rattle.std.proofs.Common.{◌≡◌, ℕ, ◌+◌, ◌*◌, ◌/◌, ◌%◌, ◌<◌, true, false}
use Rattle.std.proofs.Common.{List, [], ◌∷◌, Some, None, refl, sym, ap₂}
use Rattle.std.proofs.Common.{arith, subst}
use Rattle.sf_value.specs.Digits.{sextet}
use Rattle.sf_value.specs.Grammar.Classes.{is_byte}
use Rattle.sf_value.specs.Grammar.ByteSequences.{is_base64, letter, Pads, Sextets}
use Rattle.sf_value.proofs.DigitValues.{read_letter}
use Rattle.sf_value.proofs.Tables.{each_below}
use Rattle.sf_scan.specs.Blobs.{octets}

-- characters and their values
pub letter_base64 : (x : ℕ) → x < 64 → is_base64 (letter x) ≡ true
unfolding letter
letter_base64 x h = each_below 64 (λ y. is_base64 (letter y)) refl x h

pub value_base64 : (b x : ℕ) → sextet b ≡ Some x → is_base64 b ≡ true
value_base64 b x e =
    let k = read_letter b x e in
    subst (λ c. is_base64 c ≡ true) k.0 (letter_base64 x k.1)

pub none_base64 : (b : ℕ) → sextet b ≡ None → is_base64 b ≡ false
none_base64 b e = grind arith

-- bytes
pub byte_small : (a : ℕ) → is_byte a ≡ true → a < 256
byte_small a e = grind arith

pub small_byte : (a : ℕ) → a < 256 → is_byte a ≡ true
small_byte a e = grind arith

pub first_small : (a : ℕ) → a < 256 → a / 4 < 64
first_small a h = omega arith

pub second_small : (a b : ℕ) → b < 256 → a % 4 * 16 + b / 16 < 64
second_small a b h = omega arith

pub third_small : (b c : ℕ) → c < 256 → b % 16 * 4 + c / 64 < 64
third_small b c h = omega arith

pub fourth_small : (c : ℕ) → c % 64 < 64
fourth_small c = omega arith

pub alone_small : (a low : ℕ) → low < 16 → a % 4 * 16 + low < 64
alone_small a low h = omega arith

pub last_small : (b low : ℕ) → low < 4 → b % 16 * 4 + low < 64
last_small b low h = omega arith

-- the values of a group, of which a first part was read
pub data Held : Type 0 where
  H0 : Held
  H1 : (x : ℕ) → Held
  H2 : (x y : ℕ) → Held
  H3 : (x y z : ℕ) → Held

abbrev pub letters : Held → List ℕ → List ℕ
letters H0 t = t
letters (H1 x) t = letter x ∷ t
letters (H2 x y) t = letter x ∷ letter y ∷ t
letters (H3 x y z) t = letter x ∷ letter y ∷ letter z ∷ t

abbrev pub held : Held → List ℕ → List ℕ
held H0 xs = xs
held (H1 x) xs = x ∷ xs
held (H2 x y) xs = x ∷ y ∷ xs
held (H3 x y z) xs = x ∷ y ∷ z ∷ xs

abbrev pub Small : Held → Type 0
Small H0 = Unit {0}
Small (H1 x) = x < 64
Small (H2 x y) = (x < 64) × (y < 64)
Small (H3 x y z) = (x < 64) × (y < 64) × (z < 64)

-- a last group
alone_gives : (x y : ℕ) → x < 64 → y < 64
    → ((x * 4 + y / 16) / 4 ≡ x) × ((x * 4 + y / 16) % 4 * 16 + y % 16 ≡ y) × (x * 4 + y / 16 < 256)
    × (y % 16 < 16)
alone_gives x y g k = (omega arith, omega arith, omega arith, omega arith)

pair_gives : (x y z : ℕ) → x < 64 → y < 64 → z < 64
    → ((x * 4 + y / 16) / 4 ≡ x) × ((x * 4 + y / 16) % 4 * 16 + (y % 16 * 16 + z / 4) / 16 ≡ y)
    × ((y % 16 * 16 + z / 4) % 16 * 4 + z % 4 ≡ z) × (x * 4 + y / 16 < 256)
    × (y % 16 * 16 + z / 4 < 256) × (z % 4 < 4)
pair_gives x y z g k f = (
  omega arith,
  omega arith,
  omega arith,
  omega arith,
  omega arith,
  omega arith,
)

pub none_gives : (t : List ℕ) → Pads 0 t → Sextets t []
none_gives t p = (0, t, omega arith, refl, tt, p)

pub two_gives : (x y : ℕ) (t : List ℕ) → x < 64 → y < 64 → Pads 2 t
    → Sextets (letter x ∷ letter y ∷ t) (octets (x ∷ y ∷ []))
two_gives x y t g h p = let k = alone_gives x y g h in (
  y % 16,
  t,
  k.3,
  ap₂ (λ p q. letter p ∷ letter q ∷ t) (sym k.0) (sym k.1),
  (small_byte _ k.2, tt),
  p,
)

pub three_gives : (x y z : ℕ) (t : List ℕ) → x < 64 → y < 64 → z < 64 → Pads 1 t
    → Sextets (letter x ∷ letter y ∷ letter z ∷ t) (octets (x ∷ y ∷ z ∷ []))
three_gives x y z t g h i p = let k = pair_gives x y z g h i in (
  z % 4,
  t,
  k.5,
  ap₂ (λ p q. letter p ∷ q) (sym k.0) (ap₂ (λ p q. letter p ∷ letter q ∷ t) (sym k.1) (sym k.2)),
  (small_byte _ k.3, (small_byte _ k.4, tt)),
  p,
)

-- a whole group
quad_digits : (x y z w : ℕ) → x < 64 → y < 64 → z < 64 → w < 64
    → ((x * 4 + y / 16) / 4 ≡ x) × ((x * 4 + y / 16) % 4 * 16 + (y % 16 * 16 + z / 4) / 16 ≡ y)
    × ((y % 16 * 16 + z / 4) % 16 * 4 + (z % 4 * 64 + w) / 64 ≡ z) × ((z % 4 * 64 + w) % 64 ≡ w)
quad_digits x y z w gx gy gz gw = (omega arith, omega arith, omega arith, omega arith)

quad_bytes : (x y z w : ℕ) → x < 64 → y < 64 → z < 64 → w < 64
    → (x * 4 + y / 16 < 256) × (y % 16 * 16 + z / 4 < 256) × (z % 4 * 64 + w < 256)
quad_bytes x y z w gx gy gz gw = (omega arith, omega arith, omega arith)

pub four_gives : (x y z w : ℕ) (u xs : List ℕ) → x < 64 → y < 64 → z < 64 → w < 64
    → Sextets u (octets xs)
    → Sextets (letter x ∷ letter y ∷ letter z ∷ letter w ∷ u) (octets (x ∷ y ∷ z ∷ w ∷ xs))
four_gives x y z w u xs gx gy gz gw (low, suffix, lt, e, f, p) =
    let k = quad_digits x y z w gx gy gz gw in
    let b = quad_bytes x y z w gx gy gz gw in (
      low,
      suffix,
      lt,
      ap₂ (λ p q. letter p ∷ q) (sym k.0)
          (ap₂ (λ p q. letter p ∷ q) (sym k.1)
          (ap₂ (λ p q. letter p ∷ q) (sym k.2) (ap₂ (λ p q. letter p ∷ q) (sym k.3) e))),
      (small_byte _ b.0, (small_byte _ b.1, (small_byte _ b.2, f))),
      p,
    )
