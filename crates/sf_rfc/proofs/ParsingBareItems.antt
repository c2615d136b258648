-- Parsing bare items, by their first character.
use Rattle.std.proofs.Common.{◌≡◌, ℕ, ℤ, Bool, true, false, ◌||◌, ◌==◌, List, [], ◌∷◌, ◌++◌}
use Rattle.std.proofs.Common.{Option, Some, None, refl, sym, ap, ◌∙◌, subst, inl, inr, arith}
use Rattle.std.proofs.lemmas.Bool.Decides.{nat_tests}
use Rattle.sf_value.specs.declared.dialect.Dialect.{Dialect}
use Rattle.sf_value.specs.declared.dialect.Dialect.TheVariants.{Rfc8941, Rfc9651}
use Rattle.sf_value.specs.declared.value.Bare.{Bare}
use Rattle.sf_value.specs.declared.value.Bare.TheVariants.{Integer, Decimal, Text, Token}
use Rattle.sf_value.specs.declared.value.Bare.TheVariants.{Blob, Boolean, Date, Shown}
use Rattle.sf_value.specs.Grammar.Classes.{is_digit, is_token_start, is_in_token}
use Rattle.sf_value.specs.Grammar.Numbers.{SpellsInteger, SpellsDecimal}
use Rattle.sf_value.specs.Grammar.Numbers.{sign}
use Rattle.sf_value.specs.Grammar.BareItems.{SpellsBare}
use Rattle.sf_rfc.specs.Rfc9651.Words.{Parse, first_is}
use Rattle.sf_rfc.specs.Rfc9651.Alphabets.{is_DIGIT, can_start_token}
use Rattle.sf_rfc.specs.Rfc9651.Utf8Coding.{utf8_encode}
use Rattle.sf_rfc.specs.Rfc9651.ParsingBare.{parse_number, parse_string, parse_token, as_bare}
use Rattle.sf_rfc.specs.Rfc9651.ParsingBare.{parse_byte_sequence, parse_boolean, parse_date}
use Rattle.sf_rfc.specs.Rfc9651.ParsingBare.{parse_display_string, parse_added, as_shown, parse_bare}
use Rattle.sf_rfc.specs.ParsingLaws.{Agrees, SpellsNumber, SpellsBareDate, is_in_number}
use Rattle.sf_rfc.specs.ParsingLaws.{BareItemsAgree}
use Rattle.sf_rfc.proofs.ParsingWords.{tokens_agree}
use Rattle.sf_rfc.proofs.SerialisingWords.{token_start}
use Rattle.sf_rfc.proofs.ParsingStrings.{booleans_agree, strings_agree}
use Rattle.sf_rfc.proofs.ParsingNumbers.{numbers_agree, dates_agree}
use Rattle.sf_rfc.proofs.ParsingBase64.{byte_sequences_agree}
use Rattle.sf_rfc.proofs.Utf8Codings.{formed_decoded}
use Rattle.sf_rfc.proofs.ParsingDisplay.{display_strings_agree}
use Rattle.sf_rfc.proofs.ParsingSteps.{never, some_is, some_pair, and_then_cases, if_so}
use Rattle.sf_rfc.proofs.ParsingSteps.{if_either}

-- a test that is passed by less
pub first_less : (p q : ℕ → Bool) → ((c : ℕ) → q c ≡ false → p c ≡ false) → (r : List ℕ)
    → first_is q r ≡ false → first_is p r ≡ false
first_less p q less [] h = refl
first_less p q less (c ∷ r) h = less c h

first_none : (r : List ℕ) → first_is (λ c. false) r ≡ false
first_none [] = refl
first_none (c ∷ r) = refl

-- sound
as_cases : {A : Type 0} (f : A → Bare) (o : Option (A × List ℕ)) (v : Bare) (r : List ℕ)
    → as_bare f o ≡ Some (v, r) → (x : A) × (o ≡ Some (x, r)) × (v ≡ f x)
as_cases f None v r e = never (v, r) e
as_cases f (Some (x, u)) v r e =
    let k = some_pair (f x) v u r e in (x, ap (λ y. Some (x, y)) k.1, sym k.0)

-- a prefix with its rest and its value
abbrev Prefix : (List ℕ → Bare → Type 0) → List ℕ → List ℕ → Bare → Type 0
Prefix L t r v = (prefix : List ℕ) × (t ≡ prefix ++ r) × L prefix v

prefix_as : (d : Dialect) {A : Type 0} (f : A → Bare) (L : List ℕ → A → Type 0) (g : Parse A)
    (more : ℕ → Bool) → Agrees A L g more
    → ((prefix : List ℕ) (x : A) → L prefix x → SpellsBare d prefix (f x)) → (t r : List ℕ) (v : Bare)
    → as_bare f (g t) ≡ Some (v, r) → Prefix (SpellsBare d) t r v
prefix_as d f L g more agree into t r v e =
    let (x, a, b) = as_cases f (g t) v r e in
    let (prefix, i, s) = agree.sound t r x a in
    (prefix, i, subst (λ y. SpellsBare d prefix y) (sym b) (into prefix x s))

number_as : (d : Dialect) (t : List ℕ) (v : Bare) → SpellsNumber t v → SpellsBare d t v
number_as d t v (inl (n, e, s)) = subst (λ y. SpellsBare d t y) (sym e) s
number_as d t v (inr (m, e, s)) = subst (λ y. SpellsBare d t y) (sym e) s

date_as : (t : List ℕ) (v : Bare) → SpellsBareDate t v → SpellsBare Rfc9651 t v
date_as t v (n, e, s) = subst (λ y. SpellsBare Rfc9651 t y) (sym e) (refl, s)

-- a Display String of code points, and of their octets
shown_sound : (t r : List ℕ) (v : Bare) → as_shown (parse_display_string t) ≡ Some (v, r)
    → Prefix (SpellsBare Rfc9651) t r v
shown_sound t r v e =
    let (p, i, f) = and_then_cases (parse_display_string t) _ (v, r) e in
    let (o, j, g) = and_then_cases (utf8_encode p.0) _ (v, r) f in
    let y = some_pair (Shown o) v p.1 r g in
    let (prefix, k, q) = display_strings_agree.sound t p.1 p.0 i in
    let same : q.0 ≡ o = some_is q.0 o (sym q.1 ∙ j) in (
      prefix,
      k ∙ ap (λ z. prefix ++ z) y.1,
      subst (λ z. SpellsBare Rfc9651 prefix z) (ap Shown same ∙ y.0) (refl, q.2),
    )

shown_read : (t u : List ℕ) (x octets : List ℕ) → parse_display_string t ≡ Some (x, u)
    → utf8_encode x ≡ Some octets → as_shown (parse_display_string t) ≡ Some (Shown octets, u)
shown_read t u x octets e f = rw (e, f) refl

added_sound : (d : Dialect) (t r : List ℕ) (v : Bare) → parse_added d t ≡ Some (v, r)
    → Prefix (SpellsBare d) t r v
added_sound Rfc8941 t r v e = never (v, r) e
added_sound Rfc9651 t r v e = elim (if_either (first_is (λ c. c == 64) t) _ _ (v, r) e) [
  | inl k ↦
      let (prefix, i, s) = dates_agree.sound t r v k.1 in (prefix, i, date_as prefix v s)
  | inr k ↦
      let (h, a) = if_so (first_is (λ c. c == 37) t) _ (v, r) k.1 in
      shown_sound t r v a
]

bare_sound : (d : Dialect) (t r : List ℕ) (v : Bare) → parse_bare d t ≡ Some (v, r)
    → Prefix (SpellsBare d) t r v
bare_sound d t r v e =
    elim (if_either (first_is (λ c. c == 45 || is_DIGIT c) t) _ _ (v, r) e) [
      | inl k ↦ let (prefix, i, s) = numbers_agree.sound t r v k.1 in
          (prefix, i, number_as d prefix v s)
      | inr k ↦ elim (if_either (first_is (λ c. c == 34) t) _ _ (v, r) k.1) [
        | inl j ↦ prefix_as d Text _ parse_string _ strings_agree (λ f x s. s) t r v j.1
        | inr j ↦ elim (if_either (first_is can_start_token t) _ _ (v, r) j.1) [
          | inl m ↦ prefix_as d Token _ parse_token _ tokens_agree (λ f x s. s) t r v m.1
          | inr m ↦ elim (if_either (first_is (λ c. c == 58) t) _ _ (v, r) m.1) [
            | inl n ↦ prefix_as d Blob _ parse_byte_sequence _ byte_sequences_agree (λ f x s. s) t r v n.1
            | inr n ↦ elim (if_either (first_is (λ c. c == 63) t) _ _ (v, r) n.1) [
              | inl o ↦ prefix_as d Boolean _ parse_boolean _ booleans_agree (λ f x s. s) t r v o.1
              | inr o ↦ added_sound d t r v o.1
            ]
          ]
        ]
      ]
    ]

-- whole
no_number : (c : ℕ) → is_in_token c ≡ false → is_in_number c ≡ false
no_number c h = grind (arith, nat_tests)

starts_no_number : (c : ℕ) → is_token_start c ≡ true → (c == 45 || is_DIGIT c) ≡ false
starts_no_number c h = grind (arith, nat_tests)

starts_no_quote : (c : ℕ) → is_token_start c ≡ true → (c == 34) ≡ false
starts_no_quote c h = grind (arith, nat_tests)

-- how a number begins
Begins : List ℕ → Type 0
Begins t = (c : ℕ) × (u : List ℕ) × (t ≡ c ∷ u) × ((c == 45 || is_DIGIT c) ≡ true)

digit_begins : (c : ℕ) → is_digit c ≡ true → (c == 45 || is_DIGIT c) ≡ true
digit_begins c h = grind (arith, nat_tests)

signed_begins : (neg : Bool) (c : ℕ) (u t : List ℕ) → t ≡ sign neg ++ c ∷ u → is_digit c ≡ true
    → Begins t
unfolding Begins
signed_begins true c u t e h = (45, c ∷ u, e, refl)
signed_begins false c u t e h = (c, u, e, digit_begins c h)

integer_begins : (t : List ℕ) (n : ℤ) → SpellsInteger t n → Begins t
integer_begins t n (neg, [], e, d, j) = absurd (omega (arith, d.enough))
integer_begins t n (neg, c ∷ w, e, d, j) = signed_begins neg c w t e d.each.0

decimal_begins : (t : List ℕ) (n : ℤ) → SpellsDecimal t n → Begins t
decimal_begins t n (neg, [], f, e, d, g, j) = absurd (omega (arith, d.enough))
decimal_begins t n (neg, c ∷ w, f, e, d, g, j) = signed_begins neg c (w ++ 46 ∷ f) t e d.each.0

number_first : (d : Dialect) (c : ℕ) (t : List ℕ) → (c == 45 || is_DIGIT c) ≡ true
    → parse_bare d (c ∷ t) ≡ parse_number (c ∷ t)
number_first d c t h = rw (h, parse_bare) refl

number_read : (d : Dialect) (t r : List ℕ) (v : Bare) → Begins t → SpellsNumber t v
    → first_is is_in_token r ≡ false → parse_bare d (t ++ r) ≡ Some (v, r)
unfolding Begins
number_read d t r v (c, u, i, h) s f =
    ap (λ y. parse_bare d (y ++ r)) i ∙ number_first d c (u ++ r) h
    ∙ ap (λ y. parse_number (y ++ r)) (sym i)
    ∙ numbers_agree.whole t r v s (first_less is_in_number is_in_token no_number r f)

token_read : (d : Dialect) (c : ℕ) (t : List ℕ) → is_token_start c ≡ true
    → parse_bare d (c ∷ t) ≡ as_bare Token (parse_token (c ∷ t))
token_read d c t h =
    rw (starts_no_number c h, starts_no_quote c h, token_start c ∙ h, parse_bare) refl

as_read : {A : Type 0} (f : A → Bare) (o : Option (A × List ℕ)) (x : A) (r : List ℕ)
    → o ≡ Some (x, r) → as_bare f o ≡ Some (f x, r)
as_read f o x r e = ap (as_bare f) e

bare_whole : (d : Dialect) (t r : List ℕ) (v : Bare) → SpellsBare d t v
    → first_is is_in_token r ≡ false → parse_bare d (t ++ r) ≡ Some (v, r)
bare_whole d t r (Integer n) s f =
    number_read d t r (Integer n) (integer_begins t n s) (inl (n, refl, s)) f
bare_whole d t r (Decimal m) s f =
    number_read d t r (Decimal m) (decimal_begins t m s) (inr (m, refl, s)) f
bare_whole d t r (Text x) s f =
    ap (λ y. parse_bare d (y ++ r)) s.0
    ∙ as_read Text _ x r (ap (λ y. parse_string (y ++ r)) (sym s.0)
    ∙ strings_agree.whole t r x s (first_none r))
bare_whole d t r (Token []) s f = absurd s.1
bare_whole d t r (Token (c ∷ x)) s f =
    ap (λ y. parse_bare d (y ++ r)) s.0 ∙ token_read d c (x ++ r) s.1.0
    ∙ as_read Token _ (c ∷ x) r (ap (λ y. parse_token (y ++ r)) (sym s.0)
    ∙ tokens_agree.whole t r (c ∷ x) s f)
bare_whole d t r (Blob x) s f =
    ap (λ y. parse_bare d (y ++ r)) s.1
    ∙ as_read Blob _ x r (ap (λ y. parse_byte_sequence (y ++ r)) (sym s.1)
    ∙ byte_sequences_agree.whole t r x s (first_none r))
bare_whole d t r (Boolean x) s f =
    ap (λ y. parse_bare d (y ++ r)) s
    ∙ as_read Boolean _ x r (ap (λ y. parse_boolean (y ++ r)) (sym s)
    ∙ booleans_agree.whole t r x s (first_none r))
bare_whole Rfc8941 t r (Date n) s f = absurd (let h : false ≡ true = s.0 in cc)
bare_whole Rfc9651 t r (Date n) s f =
    ap (λ y. parse_bare Rfc9651 (y ++ r)) s.1.1
    ∙ ap (λ y. parse_date (y ++ r)) (sym s.1.1)
    ∙ dates_agree.whole t r (Date n) (n, refl, s.1)
    (first_less is_in_number is_in_token no_number r f)
bare_whole Rfc8941 t r (Shown x) s f = absurd (let h : false ≡ true = s.0 in cc)
bare_whole Rfc9651 t r (Shown x) s f =
    let (sequence, i, j) = formed_decoded x s.1.3 in
    ap (λ y. parse_bare Rfc9651 (y ++ r)) s.1.1
    ∙ ap (λ y. as_shown (parse_display_string (y ++ r))) (sym s.1.1)
    ∙ shown_read (t ++ r) r sequence x
    (display_strings_agree.whole t r sequence (x, i, s.1) (first_none r)) i

pub bare_items_agree : BareItemsAgree
bare_items_agree d = record { sound = bare_sound d; whole = bare_whole d }
