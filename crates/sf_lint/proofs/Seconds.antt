-- The seconds of digits, of which each sum is saturated.
use Rattle.std.proofs.Common.{◌≡◌, ℕ, ◌+◌, ◌-◌, ◌*◌, ◌<◌, ◌≤◌, true, false, List, [], ◌∷◌}
use Rattle.std.proofs.Common.{length, Option, Some, None, min, arith, refl, sym, ap, ◌∙◌}
use Rattle.std.specs.Prelude.{if◌then◌else◌}
use Rattle.std.specs.List.{list_all}
use Rattle.sf_value.specs.Grammar.Classes.{is_digit}
use Rattle.sf_value.specs.Grammar.Numbers.{value_from}
use Rattle.sf_use.specs.CacheControl.{delta_seconds}
use Rattle.sf_use.specs.Caching.{saturated}

-- the seconds of more digits, after some of this value
abbrev pub more_seconds : ℕ → List ℕ → Option ℕ
more_seconds a v = if list_all is_digit v then Some (saturated (value_from a v)) else None

saturates : (a d : ℕ) → saturated (10 * saturated a + d) ≡ saturated (10 * a + d)
saturates a d = omega arith

saturated_twice : (a : ℕ) → saturated (saturated a) ≡ saturated a
saturated_twice a = omega arith

same_value : (a b : ℕ) (v : List ℕ) → saturated a ≡ saturated b
    → saturated (value_from a v) ≡ saturated (value_from b v)
same_value a b [] e = e
same_value a b (d ∷ v) e =
    same_value (10 * a + (d - 48)) (10 * b + (d - 48)) v
    (sym (saturates a (d - 48)) ∙ ap (λ n. saturated (10 * n + (d - 48))) e ∙ saturates b (d - 48))

same_seconds : (a b : ℕ) (v : List ℕ) → saturated a ≡ saturated b
    → more_seconds a v ≡ more_seconds b v
same_seconds a b v e = ap (λ n. if list_all is_digit v then Some n else None) (same_value a b v e)

-- a digit more
pub seconds-digit : (a b : ℕ) (v : List ℕ) → is_digit b ≡ true
    → more_seconds a (b ∷ v) ≡ more_seconds (min (10 * a + (b - 48)) 2147483648) v
seconds-digit a b v e =
    rw e (same_seconds (10 * a + (b - 48)) (saturated (10 * a + (b - 48))) v
    (sym (saturated_twice (10 * a + (b - 48)))))

-- another byte
pub seconds-other : (a b : ℕ) (v : List ℕ) → is_digit b ≡ false → more_seconds a (b ∷ v) ≡ None
seconds-other a b v e = rw e refl

-- the end
pub seconds-end : (a : ℕ) → a ≤ 2147483648 → more_seconds a [] ≡ Some a
seconds-end a h = let e : saturated a ≡ a = omega arith in ap Some e

pub seconds-all : (text : List ℕ) → 0 < length text → delta_seconds text ≡ more_seconds 0 text
seconds-all [] h = absurd (omega arith)
seconds-all (b ∷ t) h = refl
