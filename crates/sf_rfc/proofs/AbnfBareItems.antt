-- Every text of a bare item keeps to the ABNF.
use Rattle.std.proofs.Common.{◌≡◌, ℕ, ℤ, zero, suc, ◌/◌, ◌%◌, ◌<◌, ◌≤◌, Bool, true, false}
use Rattle.std.proofs.Common.{◌==◌, List, [], ◌∷◌, ◌++◌, length, replicate, refl, sym, ap, ◌∙◌}
use Rattle.std.proofs.Common.{inl, inr, ⊎_elim, subst, true≢false, nat_le, eqb-true}
use Rattle.std.proofs.Common.{append_assoc, arith}
use Rattle.std.specs.Prelude.{codes, get_or}
use Rattle.std.proofs.lemmas.Bool.Decides.{nat_tests}
use Rattle.sf_value.specs.declared.dialect.Dialect.{Dialect}
use Rattle.sf_value.specs.declared.dialect.Dialect.TheVariants.{Rfc8941, Rfc9651}
use Rattle.sf_value.specs.declared.value.Bare.{Bare}
use Rattle.sf_value.specs.declared.value.Bare.TheVariants.{Integer, Decimal, Text, Token, Blob}
use Rattle.sf_value.specs.declared.value.Bare.TheVariants.{Boolean, Date, Shown}
use Rattle.sf_value.specs.Grammar.Words.{Every}
use Rattle.sf_value.specs.Grammar.Classes.{is_digit, is_visible, is_byte, is_in_token}
use Rattle.sf_value.specs.Grammar.Numbers.{sign, AreDigits, SpellsInteger, SpellsDecimal}
use Rattle.sf_value.specs.Grammar.Numbers.{SpellsDate}
use Rattle.sf_value.specs.Grammar.Strings.{is_escaped, escaped, SpellsString}
use Rattle.sf_value.specs.Grammar.Tokens.{IsToken, SpellsToken}
use Rattle.sf_value.specs.Grammar.Booleans.{SpellsBoolean}
use Rattle.sf_value.specs.Grammar.ByteSequences.{unpadded, spare, letter, SpellsByteSequence}
use Rattle.sf_value.specs.Grammar.DisplayStrings.{hex, is_unencoded, EncodedBytes}
use Rattle.sf_value.specs.Grammar.DisplayStrings.{SpellsDisplayString}
use Rattle.sf_value.specs.Grammar.BareItems.{SpellsBare}
use Rattle.sf_parse.proofs.Quads.{byte_small}
use Rattle.sf_rfc.specs.Rfc9651.AbnfNotation.{Rule, text, either, then, times, many, repeated}
use Rattle.sf_rfc.specs.Rfc9651.AbnfNotation.{optional, DIGIT, DQUOTE}
use Rattle.sf_rfc.specs.Rfc9651.Abnf.{sf_integer, sf_decimal, unescaped, bs_escaped, sf_string}
use Rattle.sf_rfc.specs.Rfc9651.Abnf.{sf_token, sf_binary, sf_boolean, sf_date, pct_encoded}
use Rattle.sf_rfc.specs.Rfc9651.Abnf.{sf_displaystring, bare_item}
use Rattle.sf_rfc.proofs.AbnfCharacters.{digit, token_start, in_token, base64_char, a_letter}
use Rattle.std.proofs.lemmas.Bool.{or_cases}
use Rattle.sf_rfc.proofs.AbnfCharacters.{hex_digit, every_times, every_many}

-- numbers
digits : (low high : ℕ) (w : List ℕ) → AreDigits low high 0 w → repeated low high DIGIT w
digits low high w k = (
  length w,
  (let e = k.enough in omega arith),
  (let e = k.fits in omega arith),
  every_times is_digit DIGIT digit w k.each,
)

minus_or_not : (neg : Bool) → optional (text (codes "-")) (sign neg)
minus_or_not false = inl refl
minus_or_not true = inr refl

pub integer_keeps : (t : List ℕ) (n : ℤ) → SpellsInteger t n → sf_integer t
integer_keeps t n (neg, w, e, k, v) = (sign neg, w, e, minus_or_not neg, digits 1 15 w k)

pub decimal_keeps : (t : List ℕ) (n : ℤ) → SpellsDecimal t n → sf_decimal t
decimal_keeps t n (neg, w, f, e, k, j, v) = (
  sign neg,
  w ++ 46 ∷ f,
  e,
  minus_or_not neg,
  (w, 46 ∷ f, refl, digits 1 12 w k, (46 ∷ [], f, refl, refl, digits 1 3 f j)),
)

pub date_keeps : (t : List ℕ) (n : ℤ) → SpellsDate t n → sf_date t
date_keeps t n (suffix, e, s) = (64 ∷ [], suffix, e, refl, integer_keeps suffix n s)

-- Strings
abbrev string_char : Rule
string_char = either unescaped (either (text (codes "%")) bs_escaped)

-- a visible character that needs no escape, by where it lies
plain_char : (c : ℕ) → 32 ≤ c → c ≤ 126 → (c == 34) ≡ false → (c == 92) ≡ false
    → either unescaped (text (codes "%")) (c ∷ [])
plain_char c l h q b =
    go (nat_le c 33) (nat_le c 36) (nat_le c 37) (nat_le c 91) refl refl refl refl
  where
    go : (w x y z : Bool) → nat_le c 33 ≡ w → nat_le c 36 ≡ x → nat_le c 37 ≡ y → nat_le c 91 ≡ z
        → either unescaped (text (codes "%")) (c ∷ [])
    go true x y z e f g k = inl (inl (c, refl, l, grind (arith, nat_tests)))
    go false true y z e f g k =
        inl (inr (inl (c, refl, grind (arith, nat_tests), grind (arith, nat_tests))))
    go false false true z e f g k =
        let same : c ≡ 37 = grind (arith, nat_tests) in inr (ap (λ y. y ∷ []) same)
    go false false false true e f g k =
        inl (inr (inr (inl (c, refl, grind (arith, nat_tests), grind (arith, nat_tests)))))
    go false false false false e f g k =
        inl (inr (inr (inr (c, refl, grind (arith, nat_tests), h))))

visible_char : (c : ℕ) → is_visible c ≡ true → is_escaped c ≡ false → string_char (c ∷ [])
visible_char c h e =
    ⊎_elim (λ k. inl k) (λ k. inr (inl k))
    (plain_char c (grind (arith, nat_tests)) (grind (arith, nat_tests)) (grind (arith, nat_tests))
    (grind (arith, nat_tests)))

escape : (c : ℕ) → is_escaped c ≡ true → bs_escaped (92 ∷ c ∷ [])
escape c h = (
  92 ∷ [],
  c ∷ [],
  refl,
  refl,
  ⊎_elim (λ k. inl (ap (λ y. y ∷ []) (eqb-true c 34 k)))
      (λ k. inr (ap (λ y. y ∷ []) (eqb-true c 92 k))) (or_cases (c == 34) (c == 92) h),
)

string_chars : (s : List ℕ) → Every is_visible s → times (length s) string_char (escaped s)
string_chars [] h = refl
string_chars (c ∷ s) h = go (is_escaped c) refl (string_chars s h.1)
  where
    go : (x : Bool) → is_escaped c ≡ x → times (length s) string_char (escaped s)
        → times (length (c ∷ s)) string_char (escaped (c ∷ s))
    go true e k = (92 ∷ c ∷ [], escaped s, rw e refl, inr (inr (escape c e)), k)
    go false e k = (c ∷ [], escaped s, rw e refl, visible_char c h.0 e, k)

pub string_keeps : (t s : List ℕ) → SpellsString t s → sf_string t
string_keeps t s (e, h) = (
  34 ∷ [],
  escaped s ++ 34 ∷ [],
  e,
  refl,
  (escaped s, 34 ∷ [], refl, (length s, string_chars s h), refl),
)

-- Tokens and Booleans
word_keeps : (s : List ℕ) → IsToken s → sf_token s
word_keeps [] h = absurd h
word_keeps (c ∷ s) h =
    (c ∷ [], s, refl, token_start c h.0, every_many is_in_token _ in_token s h.1)

pub token_keeps : (t s : List ℕ) → SpellsToken t s → sf_token t
token_keeps t s (e, h) = subst sf_token (sym e) (word_keeps s h)

pub boolean_keeps : (t : List ℕ) (b : Bool) → SpellsBoolean t b → sf_boolean t
boolean_keeps t true e = (63 ∷ [], 49 ∷ [], e, refl, inr refl)
boolean_keeps t false e = (63 ∷ [], 48 ∷ [], e, refl, inl refl)

-- Byte Sequences
-- one more letter
with_letter : (n x : ℕ) (t : List ℕ) → x < 64 → times n base64_char t
    → times (suc n) base64_char (letter x ∷ t)
with_letter n x t h k = (letter x ∷ [], t, refl, a_letter x h, k)

letters : (low : ℕ) (s : List ℕ) → low < spare s → Every is_byte s
    → many base64_char (unpadded low s)
letters low [] l h = (0, refl)
letters low (a ∷ []) l h =
    let p = byte_small a h.0 in (
      2,
      with_letter 1 _ _ (omega arith) (with_letter 0 _ [] (omega arith) refl),
    )
letters low (a ∷ b ∷ []) l h =
    let p = byte_small a h.0 in
    let q = byte_small b h.1.0 in (
      3,
      with_letter 2 _ _ (omega arith) (with_letter 1 _ _ (omega arith)
          (with_letter 0 _ [] (omega arith) refl)),
    )
letters low (a ∷ b ∷ c ∷ s) l h =
    let p = byte_small a h.0 in
    let q = byte_small b h.1.0 in
    let r = byte_small c h.1.1.0 in
    let (n, k) = letters low s l h.1.1.1 in (
      suc (suc (suc (suc n))),
      with_letter (suc (suc (suc n))) _ _ (omega arith) (with_letter (suc (suc n)) _ _ (omega arith)
          (with_letter (suc n) _ _ (omega arith) (with_letter n _ _ (omega arith) k))),
    )

pub pads : (m : ℕ) → times m (text (codes "=")) (replicate m 61)
pads zero = refl
pads (suc m) = (61 ∷ [], replicate m 61, refl, refl, pads m)

pub blob_keeps : (t s : List ℕ) → SpellsByteSequence t s → sf_binary t
blob_keeps t s (suffix, e, (low, tail, l, f, h, (m, k, g))) = (
  58 ∷ [],
  suffix,
  e,
  refl,
  (
    unpadded low s ++ replicate m 61,
    58 ∷ [],
    f ∙ ap (λ y. unpadded low s ++ y) g
        ∙ sym (append_assoc (unpadded low s) (replicate m 61) (58 ∷ [])),
    (unpadded low s, replicate m 61, refl, letters low s l h, (m, pads m)),
    refl,
  ),
)

-- Display Strings
abbrev shown_char : Rule
shown_char = either unescaped (either (text (codes "\\")) pct_encoded)

not_percent : (c : ℕ) → is_unencoded c ≡ true → c ∷ [] ≡ 37 ∷ [] → ⊥
not_percent c h k =
    let same : c ≡ 37 = ap (λ y. get_or y 0 0) k in
    let n : ⊥ = grind (arith, nat_tests) in n

-- a character that stands for itself: as in a String, but "%" has no part in it, and "\" has one
itself : (c : ℕ) → is_unencoded c ≡ true → shown_char (c ∷ [])
itself c h = go (c == 92) refl
  where
    go : (x : Bool) → (c == 92) ≡ x → shown_char (c ∷ [])
    go true e = inr (inl (ap (λ y. y ∷ []) (eqb-true c 92 e)))
    go false e =
        ⊎_elim (λ k. inl k) (λ k. absurd (not_percent c h k))
        (plain_char c (grind (arith, nat_tests)) (grind (arith, nat_tests))
        (grind (arith, nat_tests)) e)

pub encoded : (c : ℕ) → c < 256 → pct_encoded (37 ∷ hex (c / 16) ∷ hex (c % 16) ∷ [])
encoded c h = (
  37 ∷ [],
  hex (c / 16) ∷ hex (c % 16) ∷ [],
  refl,
  refl,
  (
    hex (c / 16) ∷ [],
    hex (c % 16) ∷ [],
    refl,
    hex_digit (c / 16) (omega arith),
    hex_digit (c % 16) (omega arith),
  ),
)

-- the bytes of s, and the quote after them
shown_chars : (s t : List ℕ) → EncodedBytes t s → then (many shown_char) DQUOTE t
shown_chars [] t e = ([], 34 ∷ [], e, (0, refl), refl)
shown_chars (c ∷ s) t (suffix, inl (h, e), k) =
    let (before, behind, f, (n, g), q) = shown_chars s suffix k in (
      c ∷ before,
      behind,
      e ∙ ap (λ y. c ∷ y) f,
      (suc n, (c ∷ [], before, refl, itself c h, g)),
      q,
    )
shown_chars (c ∷ s) t (suffix, inr (h, e), k) =
    let (before, behind, f, (n, g), q) = shown_chars s suffix k in (
      37 ∷ hex (c / 16) ∷ hex (c % 16) ∷ before,
      behind,
      e ∙ ap (λ y. 37 ∷ hex (c / 16) ∷ hex (c % 16) ∷ y) f,
      (
        suc n,
        (
          37 ∷ hex (c / 16) ∷ hex (c % 16) ∷ [],
          before,
          refl,
          inr (inr (encoded c (byte_small c h))),
          g,
        ),
      ),
      q,
    )

pub shown_keeps : (t s : List ℕ) → SpellsDisplayString t s → sf_displaystring t
shown_keeps t s (suffix, e, k, w) =
    (37 ∷ [], 34 ∷ suffix, e, refl, (34 ∷ [], suffix, refl, refl, shown_chars s suffix k))

-- bare items
pub bare_keeps : (d : Dialect) (t : List ℕ) (x : Bare) → SpellsBare d t x → bare_item d t
bare_keeps Rfc8941 t (Integer n) h = inl (integer_keeps t n h)
bare_keeps Rfc8941 t (Decimal m) h = inr (inl (decimal_keeps t m h))
bare_keeps Rfc8941 t (Text s) h = inr (inr (inl (string_keeps t s h)))
bare_keeps Rfc8941 t (Token s) h = inr (inr (inr (inl (token_keeps t s h))))
bare_keeps Rfc8941 t (Blob s) h = inr (inr (inr (inr (inl (blob_keeps t s h)))))
bare_keeps Rfc8941 t (Boolean b) h = inr (inr (inr (inr (inr (boolean_keeps t b h)))))
bare_keeps Rfc8941 t (Date n) h = absurd (true≢false (sym h.0))
bare_keeps Rfc8941 t (Shown s) h = absurd (true≢false (sym h.0))
bare_keeps Rfc9651 t (Integer n) h = inl (integer_keeps t n h)
bare_keeps Rfc9651 t (Decimal m) h = inr (inl (decimal_keeps t m h))
bare_keeps Rfc9651 t (Text s) h = inr (inr (inl (string_keeps t s h)))
bare_keeps Rfc9651 t (Token s) h = inr (inr (inr (inl (token_keeps t s h))))
bare_keeps Rfc9651 t (Blob s) h = inr (inr (inr (inr (inl (blob_keeps t s h)))))
bare_keeps Rfc9651 t (Boolean b) h = inr (inr (inr (inr (inr (inl (boolean_keeps t b h))))))
bare_keeps Rfc9651 t (Date n) h =
    inr (inr (inr (inr (inr (inr (inl (date_keeps t n h.1)))))))
bare_keeps Rfc9651 t (Shown s) h =
    inr (inr (inr (inr (inr (inr (inr (shown_keeps t s h.1)))))))
