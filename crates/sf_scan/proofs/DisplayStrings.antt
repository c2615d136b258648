-- Display Strings are read by an automaton, whose states are the places in them and, within an
-- escape, its first digit.
use Rattle.std.proofs.Common.{◌≡◌, ℕ, ◌+◌, ◌*◌, ◌/◌, ◌%◌, ◌<◌, Bool, true, false}
use Rattle.std.proofs.Common.{◌==◌, if◌then◌else◌, List, [], ◌∷◌}
use Rattle.std.proofs.Common.{Option, Some, None, is_some, refl, sym, ap, ap₂, ◌∙◌, subst}
use Rattle.std.proofs.Common.{eqb-true, arith, inl, inr}
use Rattle.sf_value.specs.Ascii.{quote, percent}
use Rattle.sf_value.specs.Digits.{unhex}
use Rattle.sf_value.specs.Grammar.Classes.{is_visible, is_byte}
use Rattle.sf_value.specs.Grammar.DisplayStrings.{hex, is_unencoded, EncodedBytes}
use Rattle.sf_value.specs.Grammar.Utf8.{utf8_step, WellFormed}
use Rattle.sf_value.proofs.DigitValues.{hex_read, read_hex}
use Rattle.sf_scan.specs.Characters.{utf8_of, char_step, can_begin, low_digits, is_low}
use Rattle.sf_scan.specs.DisplayStrings.{passes, in_between, is_second_digit, in_shown}
use Rattle.sf_scan.specs.DisplayStrings.{digit_or_zero}
use Rattle.sf_scan.specs.declared.char_place.CharPlace.{CharPlace}
use Rattle.sf_scan.specs.declared.char_place.CharPlace.TheVariants as chars
use Rattle.sf_scan.specs.declared.shown_place.ShownPlace.TheVariants as shown
use Rattle.sf_scan.proofs.Automata.{Leads, Accepts}
use Rattle.sf_scan.proofs.Base64.{byte_small, small_byte}
use Rattle.sf_scan.proofs.Characters.{step_on, step_back, formed_next, formed_more, formed_end}
use Rattle.sf_scan.proofs.Characters.{visible_step, visible_start, step_begins, low_same}

pub data State : Type 0 where
  Opening : State
  Between : (chars : CharPlace) → State
  Percent : (chars : CharPlace) → State
  -- after the first digit of an escape, of this value
  Digit : (chars : CharPlace) (high : ℕ) → State
  Closed : State

abbrev pub next : State → ℕ → Bool
next Opening b = in_shown shown.Quote b
next (Between c) b = in_shown (shown.Between c) b
next (Percent c) b = in_shown (shown.Percent c) b
next (Digit c h) b = in_shown (shown.Digit (low_digits c h)) b
next Closed b = false

abbrev pub reached : Option CharPlace → State
reached (Some c) = Between c
reached None = Closed

abbrev pub after : State → ℕ → State
after Opening b = Between chars.Start
after (Between c) b = if b == quote then Closed else (if b == percent then Percent c else Between c)
after (Percent c) b = Digit c (digit_or_zero (unhex b))
after (Digit c h) b = reached (char_step c (h * 16 + digit_or_zero (unhex b)))
after Closed b = Closed

abbrev pub final : State → Bool
final Closed = true
final s = false

abbrev pub Text : State → List ℕ → Type 0
Text = Accepts next after final

abbrev pub Path : State → List ℕ → State → Type 0
Path = Leads next after

-- the tests of single bytes
pub unencoded_tests : (b : ℕ) → is_unencoded b ≡ true
    → ((b == quote) ≡ false) × ((b == percent) ≡ false) × (is_visible b ≡ true)
unencoded_tests b e = (grind arith, grind arith, grind arith)

pub unencoded_is : (b : ℕ) → is_visible b ≡ true → (b == quote) ≡ false → (b == percent) ≡ false
    → is_unencoded b ≡ true
unencoded_is b h e f = rw (h, e, f) refl

pub percent_comes : (c : CharPlace) → in_between c percent ≡ true
percent_comes chars.Start = refl
percent_comes chars.Last = refl
percent_comes chars.LastTwo = refl
percent_comes chars.LastThree = refl
percent_comes chars.AfterE0 = refl
percent_comes chars.AfterEd = refl
percent_comes chars.AfterF0 = refl
percent_comes chars.AfterF4 = refl

-- what is no percent sign comes between two characters
pub between_start : (c : CharPlace) (b : ℕ) → in_between c b ≡ true → (b == percent) ≡ false
    → (c ≡ chars.Start) × (is_visible b ≡ true)
between_start chars.Start b h n = (refl, h)
between_start chars.Last b h n = absurd cc
between_start chars.LastTwo b h n = absurd cc
between_start chars.LastThree b h n = absurd cc
between_start chars.AfterE0 b h n = absurd cc
between_start chars.AfterEd b h n = absurd cc
between_start chars.AfterF0 b h n = absurd cc
between_start chars.AfterF4 b h n = absurd cc

pub high_small : (b : ℕ) → b < 256 → b / 16 < 16
high_small b h = omega arith

pub low_small : (b : ℕ) → b % 16 < 16
low_small b = omega arith

pub joined : (b : ℕ) → b / 16 * 16 + b % 16 ≡ b
joined b = omega arith

-- a second digit that can't come
pub no_second : (c : CharPlace) (h b l : ℕ) → h < 16 → can_begin c h ≡ true → unhex b ≡ Some l
    → char_step c (h * 16 + l) ≡ None → is_second_digit (low_digits c h) b ≡ false
no_second c h b l g k u s =
    ap (passes (is_low (low_digits c h))) u
    ∙ (sym (low_same c h l g (read_hex b l u).1 k) ∙ ap is_some s)

-- where a byte between the quotes leads
closes : (c : CharPlace) (b : ℕ) → (b == quote) ≡ true → after (Between c) b ≡ Closed
closes c b e = rw e refl

escapes : (c : CharPlace) (b : ℕ) → (b == quote) ≡ false → (b == percent) ≡ true
    → after (Between c) b ≡ Percent c
escapes c b e f = rw (e, f) refl

pub stays : (c : CharPlace) (b : ℕ) → (b == quote) ≡ false → (b == percent) ≡ false
    → after (Between c) b ≡ Between c
stays c b e f = rw (e, f) refl

-- one byte of the value, in the text
unencoded_text : (b : ℕ) (t : List ℕ) → is_unencoded b ≡ true → Text (Between chars.Start) t
    → Text (Between chars.Start) (b ∷ t)
unencoded_text b t e h =
    let k = unencoded_tests b e in
    (k.2, subst (λ s. Text s t) (sym (stays chars.Start b k.0 k.1)) h)

-- the two digits of a byte
pub first_path : (c : CharPlace) (b h : ℕ) → unhex b ≡ Some h → can_begin c h ≡ true
    → (next (Percent c) b ≡ true) × (after (Percent c) b ≡ Digit c h)
first_path c b h e k = (
  subst (λ o. passes (can_begin c) o ≡ true) (sym e) k,
  ap (λ o. Digit c (digit_or_zero o)) e,
)

pub second_path : (c e : CharPlace) (b h l : ℕ) → h < 16 → l < 16 → unhex b ≡ Some l
    → can_begin c h ≡ true → char_step c (h * 16 + l) ≡ Some e
    → (next (Digit c h) b ≡ true) × (after (Digit c h) b ≡ Between e)
second_path c e b h l i j u k s = (
  subst (λ o. passes (is_low (low_digits c h)) o ≡ true) (sym u)
      (sym (low_same c h l i j k) ∙ ap is_some s),
  ap (λ o. reached (char_step c (h * 16 + digit_or_zero o))) u ∙ ap reached s,
)

escape_text : (c e : CharPlace) (b : ℕ) (t : List ℕ) → b < 256 → char_step c b ≡ Some e
    → Text (Between e) t → Text (Between c) (percent ∷ hex (b / 16) ∷ hex (b % 16) ∷ t)
escape_text c e b t l s h =
    let k = step_begins c e b l s in
    let p = first_path c (hex (b / 16)) (b / 16) (hex_read (b / 16) (high_small b l)) k in
    let q = second_path c e (hex (b % 16)) (b / 16) (b % 16) (high_small b l) (low_small b)
    (hex_read (b % 16) (low_small b)) k (ap (char_step c) (joined b) ∙ s) in (
      percent_comes c,
      (
        p.0,
        subst (λ s. Text s (hex (b % 16) ∷ t)) (sym p.1)
            (q.0, subst (λ s. Text s t) (sym q.1) h),
      ),
    )

-- every text of the grammar is accepted
pub bytes_text : (s u : List ℕ) (c : CharPlace) → EncodedBytes u s → WellFormed (utf8_of c) s
    → Text (Between c) u
bytes_text [] u c e w =
    subst (λ x. Text (Between x) u) (sym (formed_end c w))
    (subst (Text (Between chars.Start)) (sym e) (refl, refl))
bytes_text (b ∷ s) u c (t, inl (k, e), f) w =
    let n = formed_next (utf8_of c) b s w in
    let y = step_back c b n.0 n.1 in
    let v = visible_start c y.0 b (unencoded_tests b k).2 y.1 in
    subst (λ x. Text (Between x) u) (sym v.0)
    (subst (Text (Between chars.Start)) (sym e)
    (unencoded_text b t k (subst (λ x. Text (Between x) t) v.1
    (bytes_text s t y.0 f (subst (λ x. WellFormed x s) (sym y.2) n.2)))))
bytes_text (b ∷ s) u c (t, inr (k, e), f) w =
    let n = formed_next (utf8_of c) b s w in
    let y = step_back c b n.0 n.1 in
    subst (Text (Between c)) (sym e)
    (escape_text c y.0 b t (byte_small b k) y.1
    (bytes_text s t y.0 f (subst (λ x. WellFormed x s) (sym y.2) n.2)))

-- every accepted text is one of the grammar
pub record SpellsRest (c : CharPlace) (t : List ℕ) : Type 0 where
  pub bytes : List ℕ
  pub encoded : EncodedBytes t bytes
  pub formed : WellFormed (utf8_of c) bytes

-- after the percent sign of the escape of a byte
record SpellsEscape (c : CharPlace) (t : List ℕ) : Type 0 where
  byte : ℕ
  rest : List ℕ
  text : t ≡ hex (byte / 16) ∷ hex (byte % 16) ∷ rest
  small : is_byte byte ≡ true
  bytes : List ℕ
  encoded : EncodedBytes rest bytes
  formed : WellFormed (utf8_of c) (byte ∷ bytes)

-- and after its first digit
record SpellsDigit (c : CharPlace) (h : ℕ) (t : List ℕ) : Type 0 where
  low : ℕ
  rest : List ℕ
  text : t ≡ hex low ∷ rest
  small : low < 16
  bytes : List ℕ
  encoded : EncodedBytes rest bytes
  formed : WellFormed (utf8_of c) ((h * 16 + low) ∷ bytes)

Residual : State → List ℕ → Type 0
Residual Opening t = Unit {0}
Residual (Between c) t = SpellsRest c t
Residual (Percent c) t = SpellsEscape c t
Residual (Digit c h) t = SpellsDigit c h t
Residual Closed t = t ≡ []

abbrev pub Good : State → Type 0
Good (Digit c h) = (h < 16) × (can_begin c h ≡ true)
Good s = Unit {0}

between_read : (c : CharPlace) (b : ℕ) (t : List ℕ)
    → ((s : State) → Good s → Text s t → Residual s t) → Text (Between c) (b ∷ t)
    → SpellsRest c (b ∷ t)
unfolding Residual
between_read c b t read h = by (b == quote) refl (b == percent) refl
  where
    apart : (b : ℕ) → (b == quote) ≡ true → (b == percent) ≡ false
    apart b e = grind arith

    by : (x : Bool) → (b == quote) ≡ x → (y : Bool) → (b == percent) ≡ y → SpellsRest c (b ∷ t)
    by true e y f =
        let k = read Closed tt (subst (λ s. Text s t) (closes c b e) h.1) in
        let s = (between_start c b h.0 (apart b e)).0 in
        record {
          bytes = [];
          encoded = ap₂ (λ x y. x ∷ y) (eqb-true b quote e) k;
          formed = subst (λ x. WellFormed (utf8_of x) []) (sym s) tt;
        }
    by false e true f =
        let r = read (Percent c) tt (subst (λ s. Text s t) (escapes c b e f) h.1) in
        record {
          bytes = r.byte ∷ r.bytes;
          encoded = (
            r.rest,
            inr (r.small, ap₂ (λ x y. x ∷ y) (eqb-true b percent f) r.text),
            r.encoded,
          );
          formed = r.formed;
        }
    by false e false f =
        let r = read (Between c) tt (subst (λ s. Text s t) (stays c b e f) h.1) in
        let s = between_start c b h.0 f in
        record {
          bytes = b ∷ r.bytes;
          encoded = (t, inl (unencoded_is b s.1 e f, refl), r.encoded);
          formed = formed_more (utf8_of c) (utf8_of c) b r.bytes
              (subst (λ x. utf8_step (utf8_of x) b ≡ Some (utf8_of x)) (sym s.0)
              (step_on chars.Start chars.Start b (visible_step b s.1))) r.formed;
        }

pub passed : (p : ℕ → Bool) (o : Option ℕ) → passes p o ≡ true
    → (d : ℕ) × (o ≡ Some d) × (p d ≡ true)
passed p (Some d) h = (d, refl, h)
passed p None h = absurd cc

split_high : (h l : ℕ) → l < 16 → (h * 16 + l) / 16 ≡ h
split_high h l k = omega arith

split_low : (h l : ℕ) → l < 16 → (h * 16 + l) % 16 ≡ l
split_low h l k = omega arith

split_small : (h l : ℕ) → h < 16 → l < 16 → h * 16 + l < 256
split_small h l k j = omega arith

percent_read : (c : CharPlace) (b : ℕ) (t : List ℕ)
    → ((s : State) → Good s → Text s t → Residual s t) → Text (Percent c) (b ∷ t)
    → SpellsEscape c (b ∷ t)
unfolding Residual
percent_read c b t read h =
    let p = passed (can_begin c) (unhex b) h.0 in
    let d = read_hex b p.0 p.1 in
    let r = read (Digit c p.0) (d.1, p.2)
    (subst (λ o. Text (Digit c (digit_or_zero o)) t) p.1 h.1) in
    record {
      byte = p.0 * 16 + r.low;
      rest = r.rest;
      text = ap₂ (λ x y. x ∷ y) (sym d.0 ∙ ap hex (sym (split_high p.0 r.low r.small)))
          (r.text ∙ ap (λ x. hex x ∷ r.rest) (sym (split_low p.0 r.low r.small)));
      small = small_byte (p.0 * 16 + r.low) (split_small p.0 r.low d.1 r.small);
      bytes = r.bytes;
      encoded = r.encoded;
      formed = r.formed;
    }

pub some_of : {A : Type 0} (o : Option A) → is_some o ≡ true → (x : A) × (o ≡ Some x)
some_of (Some x) h = (x, refl)
some_of None h = absurd cc

digit_read : (c : CharPlace) (n b : ℕ) (t : List ℕ) → n < 16 → can_begin c n ≡ true
    → ((s : State) → Good s → Text s t → Residual s t) → Text (Digit c n) (b ∷ t)
    → SpellsDigit c n (b ∷ t)
unfolding Residual
digit_read c n b t g k read h =
    let p = passed (is_low (low_digits c n)) (unhex b) h.0 in
    let d = read_hex b p.0 p.1 in
    let s = some_of (char_step c (n * 16 + p.0)) (low_same c n p.0 g d.1 k ∙ p.2) in
    let a : Text (reached (char_step c (n * 16 + p.0))) t =
    subst (λ o. Text (reached (char_step c (n * 16 + digit_or_zero o))) t) p.1 h.1 in
    let r = read (Between s.0) tt (subst (λ o. Text (reached o) t) s.1 a) in
    record {
      low = p.0;
      rest = t;
      text = ap (λ x. x ∷ t) (sym d.0);
      small = d.1;
      bytes = r.bytes;
      encoded = r.encoded;
      formed = formed_more (utf8_of c) (utf8_of s.0) (n * 16 + p.0) r.bytes
          (step_on c s.0 (n * 16 + p.0) s.1) r.formed;
    }

bytes_read : (t : List ℕ) (s : State) → Good s → Text s t → Residual s t
unfolding Residual
bytes_read [] Opening g h = tt
bytes_read [] (Between c) g h = absurd cc
bytes_read [] (Percent c) g h = absurd cc
bytes_read [] (Digit c n) g h = absurd cc
bytes_read [] Closed g h = refl
bytes_read (b ∷ t) Opening g h = tt
bytes_read (b ∷ t) (Between c) g h = between_read c b t (λ s. bytes_read t s) h
bytes_read (b ∷ t) (Percent c) g h = percent_read c b t (λ s. bytes_read t s) h
bytes_read (b ∷ t) (Digit c n) g h = digit_read c n b t g.0 g.1 (λ s. bytes_read t s) h
bytes_read (b ∷ t) Closed g h = absurd (let k = h.0 in cc)

pub shows : (t : List ℕ) → Text (Between chars.Start) t → SpellsRest chars.Start t
unfolding Residual
shows t h = bytes_read t (Between chars.Start) tt h
