-- The first bytes of Integers, Decimals and Dates.
use Rattle.std.proofs.Common.{◌≡◌, ℕ, ℤ, Bool, true, false, List, [], ◌∷◌, ◌++◌, ◌≤◌, length, refl, sym, ap}
use Rattle.std.proofs.Common.{◌==◌, ◌&&◌, ◌∙◌, arith, eqb-true, append-nil}
use Rattle.std.proofs.lemmas.Bool.{and_parts}
use Rattle.sf_value.specs.Ascii.{minus, digit_zero, at_sign, point}
use Rattle.sf_value.specs.declared.dialect.Dialect.{Dialect}
use Rattle.sf_value.specs.declared.value.Bare.TheVariants as bare
use Rattle.sf_value.specs.Grammar.Classes.{is_digit}
use Rattle.sf_value.specs.Grammar.Dialects.{is_rfc9651}
use Rattle.sf_value.specs.Grammar.Words.{Every}
use Rattle.sf_value.specs.Grammar.Lines.{Continues}
use Rattle.sf_value.specs.Grammar.Numbers.{sign, signed, value_from, AreDigits}
use Rattle.sf_value.specs.Grammar.Numbers.{SpellsInteger, SpellsDecimal}
use Rattle.sf_value.specs.Grammar.BareItems.{SpellsBare}
use Rattle.sf_scan.specs.NumberPlaces.{is_signed_start}
use Rattle.sf_scan.proofs.Lists.{heads, cons_nil}

-- some digits
pub are_digits : (low high : ℕ) (w : List ℕ) → Every is_digit w → low ≤ length w → length w ≤ high
    → AreDigits low high 0 w
are_digits low high w h l m = record { each = h; enough = omega arith; fits = omega arith }

one_digit : (high b : ℕ) → is_digit b ≡ true → 1 ≤ high → AreDigits 1 high 0 (b ∷ [])
one_digit high b h l = are_digits 1 high (b ∷ []) (h, tt) (omega arith) (omega arith)

pub no_digits : (high : ℕ) → AreDigits 1 high 0 [] → ⊥
no_digits high d = let k = d.enough in omega arith

-- the first byte
digit_signed : (b : ℕ) → is_digit b ≡ true → is_signed_start b ≡ true
digit_signed b h = rw h refl

minus_signed : (b : ℕ) → b ≡ minus → is_signed_start b ≡ true
minus_signed b h = rw h refl

signed_first : (neg : Bool) (b : ℕ) (t w rest : List ℕ) (high : ℕ)
    → b ∷ t ≡ sign neg ++ (w ++ rest) → AreDigits 1 high 0 w → is_signed_start b ≡ true
signed_first true b t w rest high e d = minus_signed b (heads b minus t _ e)
signed_first false b t [] rest high e d = absurd (no_digits high d)
signed_first false b t (c ∷ w) rest high e d =
    digit_signed b (ap is_digit (heads b c t _ e) ∙ d.each.0)

signed_some : (neg : Bool) (w rest : List ℕ) (high : ℕ) → [] ≡ sign neg ++ (w ++ rest)
    → AreDigits 1 high 0 w → ⊥
signed_some true w rest high e d = cons_nil _ _ (sym e)
signed_some false [] rest high e d = no_digits high d
signed_some false (c ∷ w) rest high e d = cons_nil _ _ (sym e)

pub whole_text : (neg : Bool) (t w : List ℕ) → t ≡ sign neg ++ w → t ≡ sign neg ++ (w ++ [])
whole_text neg t w e = e ∙ ap (λ x. sign neg ++ x) (sym (append-nil w))

pub integer_first : (b : ℕ) (t : List ℕ) (n : ℤ) → SpellsInteger (b ∷ t) n
    → is_signed_start b ≡ true
integer_first b t n h = signed_first h.0 b t h.1 [] 15 (whole_text h.0 (b ∷ t) h.1 h.2) h.3

pub decimal_first : (b : ℕ) (t : List ℕ) (m : ℤ) → SpellsDecimal (b ∷ t) m
    → is_signed_start b ≡ true
decimal_first b t m h = signed_first h.0 b t h.1 (point ∷ h.2) 12 h.3 h.4

pub integer_some : (n : ℤ) → SpellsInteger [] n → ⊥
integer_some n h = signed_some h.0 h.1 [] 15 (whole_text h.0 [] h.1 h.2) h.3

pub decimal_some : (m : ℤ) → SpellsDecimal [] m → ⊥
decimal_some m h = signed_some h.0 h.1 (point ∷ h.2) 12 h.3 h.4

-- what begins with it
pub signed_continues : (b : ℕ) → is_signed_start b ≡ true → Continues SpellsInteger (b ∷ [])
signed_continues b h = by (is_digit b) refl
  where
    by : (x : Bool) → is_digit b ≡ x → Continues SpellsInteger (b ∷ [])
    by true e = (
      [],
      signed false (value_from 0 (b ∷ [])),
      (false, b ∷ [], refl, one_digit 15 b e (omega arith), refl),
    )
    by false e =
        let k : (b == minus) ≡ true = rw e at h in (
          digit_zero ∷ [],
          signed true (value_from 0 (digit_zero ∷ [])),
          (
            true,
            digit_zero ∷ [],
            ap (λ x. x ∷ digit_zero ∷ []) (eqb-true b minus k),
            one_digit 15 digit_zero refl (omega arith),
            refl,
          ),
        )

pub signed_started : (d : Dialect) (b : ℕ) → is_signed_start b ≡ true
    → Continues (SpellsBare d) (b ∷ [])
signed_started d b h = let c = signed_continues b h in (c.0, bare.Integer c.1, c.2)

pub date_started : (d : Dialect) (b : ℕ) → (b == at_sign && is_rfc9651 d) ≡ true
    → Continues (SpellsBare d) (b ∷ [])
date_started d b h =
    let k = and_parts (b == at_sign) (is_rfc9651 d) h in (
      digit_zero ∷ [],
      bare.Date (signed false (value_from 0 (digit_zero ∷ []))),
      (
        k.1,
        (
          digit_zero ∷ [],
          ap (λ x. x ∷ digit_zero ∷ []) (eqb-true b at_sign k.0),
          (false, digit_zero ∷ [], refl, one_digit 15 digit_zero refl (omega arith), refl),
        ),
      ),
    )
