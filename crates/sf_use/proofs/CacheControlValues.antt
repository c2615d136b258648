-- The seconds of values, and the text of a quoted-string.
use Rattle.std.proofs.Common.{◌≡◌, ◌⊎◌, inl, inr, ℕ, ◌+◌, ◌-◌, ◌*◌, ◌<◌, ◌≤◌, Bool, true, false}
use Rattle.std.proofs.Common.{List, [], ◌∷◌, ◌++◌, Option, Some, None, refl, sym, ap, subst, ◌∙◌}
use Rattle.std.proofs.Common.{arith, min, eqb-true}
use Rattle.std.specs.Prelude.{◌==◌, if◌then◌else◌, not, ◌&&◌, ◌||◌}
use Rattle.std.specs.List.{list_all}
use Rattle.std.proofs.lemmas.Bool.{and_parts}
use Rattle.std.proofs.lemmas.Bool.Decides.{nat_tests}
use Rattle.sf_value.specs.Ascii.{quote, backslash, digit_zero}
use Rattle.sf_value.specs.Grammar.Classes.{is_digit}
use Rattle.sf_value.specs.Grammar.Numbers.{value_from}
use Rattle.sf_use.specs.declared.cache_control.Delta.{Delta}
use Rattle.sf_use.specs.declared.cache_control.Delta.TheVariants.{Empty, Seconds, Other}
use Rattle.sf_use.specs.Caching.{saturated}
use Rattle.sf_use.specs.CacheControl.{SpellsChars, delta_seconds, is_qdtext, is_quotable}
use Rattle.sf_use.specs.CacheControlSteps.{delta_seconds_of, quoted_at, with_byte, with_bytes}
use Rattle.sf_use.specs.CacheControlSteps.{with_digit}
use Rattle.sf_use.proofs.CacheControlRuns.{some_pair}

-- what is no number of seconds stays so
other_stays : (v : List ℕ) → delta_seconds_of (with_bytes Other v) ≡ None
other_stays [] = refl
other_stays (b ∷ v) = by (is_digit b) refl (other_stays v)
  where
    by : (r : Bool) → is_digit b ≡ r → delta_seconds_of (with_bytes Other v) ≡ None
        → delta_seconds_of (with_bytes (with_byte Other b) v) ≡ None
    by true e more = rw e more
    by false e more = rw e more

saturates : (a d : ℕ) → saturated (10 * saturated a + d) ≡ saturated (10 * a + d)
saturates a d = omega arith

-- the seconds of more digits, after some of this value
abbrev more_seconds : ℕ → List ℕ → Option ℕ
more_seconds a v = if list_all is_digit v then Some (saturated (value_from a v)) else None

seconds_after : (a : ℕ) (v : List ℕ)
    → delta_seconds_of (with_bytes (Seconds (saturated a)) v) ≡ more_seconds a v
seconds_after a [] = refl
seconds_after a (b ∷ v) = by (is_digit b) refl (seconds_after (10 * a + (b - digit_zero)) v)
  where
    by : (r : Bool) → is_digit b ≡ r
        → delta_seconds_of (with_bytes (Seconds (saturated (10 * a + (b - digit_zero)))) v)
        ≡ more_seconds (10 * a + (b - digit_zero)) v
        → delta_seconds_of (with_bytes (with_byte (Seconds (saturated a)) b) v)
        ≡ more_seconds a (b ∷ v)
    by true e more = rw (e, saturates a (b - digit_zero)) more
    by false e more = rw e (other_stays v)

zero_times : (d : ℕ) → saturated d ≡ saturated (10 * 0 + d)
zero_times d = omega arith

pub seconds_of_bytes : (v : List ℕ) → delta_seconds_of (with_bytes Empty v) ≡ delta_seconds v
seconds_of_bytes [] = refl
seconds_of_bytes (b ∷ v) = by (is_digit b) refl (seconds_after (10 * 0 + (b - digit_zero)) v)
  where
    by : (r : Bool) → is_digit b ≡ r
        → delta_seconds_of (with_bytes (Seconds (saturated (10 * 0 + (b - digit_zero)))) v)
        ≡ more_seconds (10 * 0 + (b - digit_zero)) v
        → delta_seconds_of (with_bytes (with_byte Empty b) v)
        ≡ delta_seconds (b ∷ v)
    by true e more = rw (e, zero_times (b - digit_zero)) more
    by false e more = rw e (other_stays v)

-- a byte that passes a test is another than one that does not
pub is_other : (p : ℕ → Bool) (c b : ℕ) → p c ≡ false → p b ≡ true → (b == c) ≡ false
is_other p c b n h = by (b == c) refl
  where
    by : (x : Bool) → (b == c) ≡ x → (b == c) ≡ false
    by false e = e
    by true e =
        let same : b ≡ c = eqb-true b c e in
        let clash : true ≡ false = sym h ∙ ap p same ∙ n in
        absurd cc

-- a byte of a quoted-string that needs no backslash is neither a quote nor a backslash
qdtext_is : (b : ℕ) → is_qdtext b ≡ true → ((b == quote) ≡ false) × ((b == backslash) ≡ false)
qdtext_is b h = (is_other is_qdtext quote b refl h, is_other is_qdtext backslash b refl h)

pub quoted_reads : (d : Delta) (t v rest : List ℕ) → SpellsChars t v
    → quoted_at false d (t ++ quote ∷ rest) ≡ Some (with_bytes d v, rest)
quoted_reads d t [] rest h = rw h refl
quoted_reads d t (b ∷ v) rest (u, way, chars) =
    by way (quoted_reads (with_byte d b) u v rest chars)
  where
    by : (((t ≡ b ∷ u) × (is_qdtext b ≡ true)) ⊎ ((t ≡ backslash ∷ b ∷ u) × (is_quotable b ≡ true)))
        → quoted_at false (with_byte d b) (u ++ quote ∷ rest)
        ≡ Some (with_bytes (with_byte d b) v, rest)
        → quoted_at false d (t ++ quote ∷ rest) ≡ Some (with_bytes d (b ∷ v), rest)
    by (inl (e, q)) more =
        let n = qdtext_is b q in
        let n0 : (b == quote) ≡ false = n.0 in
        let n1 : (b == backslash) ≡ false = n.1 in
        rw e (rw (q, n0, n1) more)
    by (inr (e, q)) more = rw e (rw q more)

-- the text of the quoted-string that was read, perhaps after a backslash
abbrev pub before_text : Bool → List ℕ → List ℕ
before_text true t = backslash ∷ t
before_text false t = t

pub record Quoted (escaped : Bool) (d : Delta) (t : List ℕ) (e : Delta) (rest : List ℕ) : Type 0 where
  pub inner : List ℕ
  pub value : List ℕ
  pub split : t ≡ inner ++ quote ∷ rest
  pub chars : SpellsChars (before_text escaped inner) value
  pub seconds : e ≡ with_bytes d value

pub quoted_found : (escaped : Bool) (d : Delta) (t : List ℕ) (e : Delta) (rest : List ℕ)
    → quoted_at escaped d t ≡ Some (e, rest) → Quoted escaped d t e rest
quoted_found true d [] e rest h = absurd cc
quoted_found false d [] e rest h = absurd cc
quoted_found true d (b ∷ t) e rest h =
    by (is_quotable b) refl (quoted_found false (with_byte d b) t e rest)
  where
    by : (r : Bool) → is_quotable b ≡ r
        → (quoted_at false (with_byte d b) t ≡ Some (e, rest)
        → Quoted false (with_byte d b) t e rest)
        → Quoted true d (b ∷ t) e rest
    by true q more =
        let found : quoted_at false (with_byte d b) t ≡ Some (e, rest) = rw q at h in
        let m = more found in
        record {
          inner = b ∷ m.inner;
          value = b ∷ m.value;
          split = ap (λ s. b ∷ s) m.split;
          chars = (m.inner, inr (refl, q), m.chars);
          seconds = m.seconds;
        }
    by false q more =
        let found : ◌≡◌ {A = Option (Delta × List ℕ)} None (Some (e, rest)) = rw q at h in
        absurd cc
quoted_found false d (b ∷ t) e rest h =
    by (b == quote) refl (b == backslash) refl (is_qdtext b) refl
    (quoted_found true d t e rest) (quoted_found false (with_byte d b) t e rest)
  where
    by : (x : Bool) → (b == quote) ≡ x → (y : Bool) → (b == backslash) ≡ y
        → (z : Bool) → is_qdtext b ≡ z
        → (quoted_at true d t ≡ Some (e, rest) → Quoted true d t e rest)
        → (quoted_at false (with_byte d b) t ≡ Some (e, rest)
        → Quoted false (with_byte d b) t e rest)
        → Quoted false d (b ∷ t) e rest
    by true p y q z s after more =
        let found : Some (d, t) ≡ Some (e, rest) = rw p at h in
        let is : b ≡ quote = eqb-true b quote p in
        let pair = some_pair d e t rest found in
        record {
          inner = [];
          value = [];
          split = ap (λ c. c ∷ t) is ∙ ap (λ s. quote ∷ s) pair.1;
          chars = refl;
          seconds = sym pair.0;
        }
    by false p true q z s after more =
        let found : quoted_at true d t ≡ Some (e, rest) = rw (p, q) at h in
        let m = after found in
        let is : b ≡ backslash = eqb-true b backslash q in
        record {
          inner = b ∷ m.inner;
          value = m.value;
          split = ap (λ s. b ∷ s) m.split;
          chars = subst (λ c. SpellsChars (c ∷ m.inner) m.value) (sym is) m.chars;
          seconds = m.seconds;
        }
    by false p false q true s after more =
        let found : quoted_at false (with_byte d b) t ≡ Some (e, rest) = rw (s, p, q) at h in
        let m = more found in
        record {
          inner = b ∷ m.inner;
          value = b ∷ m.value;
          split = ap (λ s. b ∷ s) m.split;
          chars = (m.inner, inl (refl, s), m.chars);
          seconds = m.seconds;
        }
    by false p false q false s after more =
        let found : ◌≡◌ {A = Option (Delta × List ℕ)} None (Some (e, rest)) = rw (s, p, q) at h in
        absurd cc
