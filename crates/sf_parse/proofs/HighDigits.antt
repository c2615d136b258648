-- The bytes of UTF-8 by their two hexadecimal digits.
use Rattle.std.proofs.Common.{◌≡◌, ℕ, zero, suc, ◌*◌, ◌/◌, ◌%◌, ◌+◌, ◌<◌, ◌≤◌, true, nat_le, ◌&&◌}
use Rattle.std.proofs.Common.{Some, ⊎_elim, refl, sym, subst, ◌⊎◌, arith, max}
use Rattle.sf_value.specs.Grammar.Utf8.{Utf8, Start, Within, followed_by, within, rows, utf8_step}
use Rattle.sf_parse.specs.Machine.Showns.{can_begin, GoodUtf8}
use Rattle.sf_value.proofs.Words.{allow_cases}
use Rattle.sf_value.proofs.Utf8Table.{ranged, in_range, EachRow, looked_up}

pub high_small : (c : ℕ) → c < 256 → c / 16 < 16
high_small c h = omega arith

pub low_small : (c : ℕ) → c % 16 < 16
low_small c = omega arith

pub joined : (c : ℕ) → c / 16 * 16 + c % 16 ≡ c
joined c = omega arith

good_rows : EachRow (λ b x. GoodUtf8 x) rows
good_rows = (
  (λ b l h. tt),
  (
    (λ b l h. omega arith),
    (
      (λ b l h. omega arith),
      (
        (λ b l h. omega arith),
        (
          (λ b l h. omega arith),
          (
            (λ b l h. omega arith),
            (
              (λ b l h. omega arith),
              ((λ b l h. omega arith), ((λ b l h. omega arith), tt)),
            ),
          ),
        ),
      ),
    ),
  ),
)

begin_small : (b : ℕ) → b ≤ 127 → can_begin Start (b / 16) ≡ true
begin_small b h = let k : b / 16 < 8 = omega arith in grind arith

begin_large : (b : ℕ) → 194 ≤ b → can_begin Start (b / 16) ≡ true
begin_large b h = let k : 12 ≤ b / 16 = omega arith in grind arith

begin_rows : EachRow (λ b x. can_begin Start (b / 16) ≡ true) rows
begin_rows = (
  (λ b l h. begin_small b h),
  (
    (λ b l h. begin_large b (omega arith)),
    (
      (λ b l h. begin_large b (omega arith)),
      (
        (λ b l h. begin_large b (omega arith)),
        (
          (λ b l h. begin_large b (omega arith)),
          (
            (λ b l h. begin_large b (omega arith)),
            (
              (λ b l h. begin_large b (omega arith)),
              (
                (λ b l h. begin_large b (omega arith)),
                ((λ b l h. begin_large b (omega arith)), tt),
              ),
            ),
          ),
        ),
      ),
    ),
  ),
)

pub followed_good : (n : ℕ) → GoodUtf8 (followed_by n)
followed_good zero = tt
followed_good (suc n) = omega arith

pub utf8_good : (x y : Utf8) (b : ℕ) → utf8_step x b ≡ Some y → GoodUtf8 y
utf8_good Start y b e = looked_up (λ b x. GoodUtf8 x) rows good_rows b y e
utf8_good (Within n low high) y b e = subst GoodUtf8
    (sym (allow_cases (within low high b) (followed_by n) y e).1) (followed_good n)

pub utf8_begins : (x y : Utf8) (b : ℕ) → utf8_step x b ≡ Some y → can_begin x (b / 16) ≡ true
utf8_begins Start y b e = looked_up (λ b x. can_begin Start (b / 16) ≡ true) rows begin_rows b y e
utf8_begins (Within n low high) y b e = let r = ranged low high b
    (allow_cases (within low high b) (followed_by n) y e).0 in
    go low high b r.0 r.1
  where
    go : (low high b : ℕ) → low ≤ b → b ≤ high → can_begin (Within n low high) (b / 16) ≡ true
    go low high b l h = let k1 : low / 16 ≤ b / 16 = omega arith in
        let k2 : b / 16 ≤ high / 16 = omega arith in grind arith

-- a byte with a given high digit
found_small : (h : ℕ) → h < 8
    → (c : ℕ) × (y : Utf8) × (c / 16 ≡ h) × (c < 256) × (utf8_step Start c ≡ Some y)
found_small h k = (
  h * 16,
  Start,
  omega arith,
  omega arith,
  rw (in_range 0 127 (h * 16) (omega arith) (omega arith)) refl,
)

found_large : (h : ℕ) → 12 ≤ h → h < 16
    → (c : ℕ) × (y : Utf8) × (c / 16 ≡ h) × (c < 256) × (utf8_step Start c ≡ Some y)
found_large h k l = ⊎_elim (λ e. at 12 h e (194, Within 0 128 191, refl, omega arith, refl))
    (⊎_elim (λ e. at 13 h e (208, Within 0 128 191, refl, omega arith, refl))
    (⊎_elim (λ e. at 14 h e (225, Within 1 128 191, refl, omega arith, refl))
    (λ e. at 15 h e (241, Within 2 128 191, refl, omega arith, refl))))
    (four h k l)
  where
    four : (h : ℕ) → 12 ≤ h → h < 16 → (12 ≡ h) ⊎ ((13 ≡ h) ⊎ ((14 ≡ h) ⊎ (15 ≡ h)))
    four h k l = grind arith

    at : (g h : ℕ) → g ≡ h
        → (c : ℕ) × (y : Utf8) × (c / 16 ≡ g) × (c < 256) × (utf8_step Start c ≡ Some y)
        → (c : ℕ) × (y : Utf8) × (c / 16 ≡ h) × (c < 256) × (utf8_step Start c ≡ Some y)
    at g h e r = subst (λ g. (c : ℕ) × (y : Utf8) × (c / 16 ≡ g) × (c < 256)
        × (utf8_step Start c ≡ Some y)) e r

pub found : (x : Utf8) (h : ℕ) → GoodUtf8 x → h < 16 → can_begin x h ≡ true
    → (c : ℕ) × (y : Utf8) × (c / 16 ≡ h) × (c < 256) × (utf8_step x c ≡ Some y)
found Start h g k e = ⊎_elim (λ l. found_small h l) (λ l. found_large h l k) (start_cases h e)
  where
    start_cases : (h : ℕ) → can_begin Start h ≡ true → (h < 8) ⊎ (12 ≤ h)
    start_cases h e = grind arith
found (Within n low high) h g k e = go (wants_cases low high h e)
  where
    wants_cases : (low high h : ℕ) → (nat_le (low / 16) h && nat_le h (high / 16)) ≡ true
        → (low / 16 ≤ h) × (h ≤ high / 16)
    wants_cases low high h e = (grind arith, grind arith)

    go : (low / 16 ≤ h) × (h ≤ high / 16)
        → (c : ℕ) × (y : Utf8) × (c / 16 ≡ h) × (c < 256)
        × (utf8_step (Within n low high) c ≡ Some y)
    go r =
        let c = max low (h * 16) in (
          c,
          followed_by n,
          omega arith,
          omega arith,
          rw (in_range low high c (omega arith) (omega arith)) refl,
        )
