-- Parsing Display Strings.
use Rattle.std.proofs.Common.{◌≡◌, ℕ, ◌+◌, ◌*◌, ◌/◌, ◌%◌, ◌<◌, Bool, true, false, ◌&&◌, ◌==◌, List, []}
use Rattle.std.proofs.Common.{◌∷◌, ◌++◌, get_or, Option, Some, None, refl, sym, ap, ap₂, ◌∙◌, subst}
use Rattle.std.proofs.Common.{append_assoc, append-nil, inl, inr, arith, eqb-true}
use Rattle.std.proofs.lemmas.Bool.Decides.{nat_tests}
use Rattle.std.specs.Cmp.{first_so, second_so}
use Rattle.std.specs.Prelude.{codes}
use Rattle.sf_value.specs.Grammar.Classes.{is_byte}
use Rattle.sf_value.specs.Grammar.DisplayStrings.{hex, is_unencoded, EncodedBytes}
use Rattle.sf_value.proofs.Tables.{each_below}
use Rattle.sf_parse.proofs.Quads.{byte_small, small_byte}
use Rattle.sf_rfc.specs.Rfc9651.Words.{first_is, and_then}
use Rattle.sf_rfc.specs.Rfc9651.Alphabets.{is_unprintable, is_lower_hex}
use Rattle.sf_rfc.specs.Rfc9651.Utf8Coding.{utf8_decode}
use Rattle.sf_rfc.specs.Rfc9651.ParsingBare.{hex_value, octet_of, display_loop, display_octet}
use Rattle.sf_rfc.specs.Rfc9651.ParsingBare.{display_second, parse_display_string}
use Rattle.sf_rfc.specs.ParsingLaws.{SpellsCodePoints, DisplayStringsAgree}
use Rattle.sf_rfc.proofs.Utf8Codings.{decoding_inverts, decoded_formed}
use Rattle.sf_rfc.proofs.ParsingBase64.{placed, is_value, the_value}
use Rattle.sf_rfc.proofs.ParsingSteps.{never, some_is, some_pair, and_then_cases}
use Rattle.sf_rfc.proofs.ParsingSteps.{if_so, if_not, if_either}

-- hexadecimal digits
abbrev hex_digits : List ℕ
hex_digits = codes "0123456789abcdef"

digit_is : (x : ℕ) → x < 16 → get_or hex_digits x 0 ≡ hex x
digit_is x h =
    eqb-true (get_or hex_digits x 0) (hex x)
    (each_below 16 (λ y. get_or hex_digits y 0 == hex y) refl x h)

hex_sound : (c x : ℕ) → hex_value c ≡ Some x → (x < 16) × (c ≡ hex x)
unfolding hex_value
hex_sound c x e =
    let (i, a, b, d) = placed 0 hex_digits c x e in
    let k : i ≡ x = omega arith in
    let h : x < 16 = omega arith in
    (h, sym d ∙ ap (λ y. get_or hex_digits y 0) k ∙ digit_is x h)

octet_is : (c : ℕ) → c < 256 → octet_of (hex (c / 16)) (hex (c % 16)) ≡ Some c
unfolding hex_value is_value
octet_is c h =
    the_value (octet_of (hex (c / 16)) (hex (c % 16))) c
    (each_below 256 (λ y. is_value (octet_of (hex (y / 16)) (hex (y % 16))) y) refl c h)

octet_sound : (a b c : ℕ) → octet_of a b ≡ Some c
    → (is_byte c ≡ true) × (a ≡ hex (c / 16)) × (b ≡ hex (c % 16))
octet_sound a b c e =
    let (i, f) = if_so (is_lower_hex a && is_lower_hex b) _ c e in
    let (x, g, h) = and_then_cases (hex_value a) _ c f in
    let (y, j, k) = and_then_cases (hex_value b) _ c h in
    let (lx, ax) = hex_sound a x g in
    let (ly, by) = hex_sound b y j in
    let m : x * 16 + y ≡ c = some_is (x * 16 + y) c k in
    let p : x ≡ c / 16 = omega arith in
    let q : y ≡ c % 16 = omega arith in
    (small_byte c (omega arith), ax ∙ ap hex p, by ∙ ap hex q)

-- what the loop takes: encoded bytes and the quote
abbrev Shown : List ℕ → List ℕ → List ℕ → List ℕ → Type 0
Shown bytes t v r =
    (prefix s : List ℕ) × (t ≡ prefix ++ r) × EncodedBytes prefix s
    × (utf8_decode (bytes ++ s) ≡ Some v)

unencoded : (c : ℕ) → is_unprintable c ≡ false → (c == 37) ≡ false → (c == 34) ≡ false
    → is_unencoded c ≡ true
unencoded c i j k = grind (arith, nat_tests)

itself : (bytes : List ℕ) (c : ℕ) (t v r : List ℕ) → is_unencoded c ≡ true
    → Shown (bytes ++ c ∷ []) t v r → Shown bytes (c ∷ t) v r
itself bytes c t v r h (prefix, s, i, a, k) = (
  c ∷ prefix,
  c ∷ s,
  ap (λ x. c ∷ x) i,
  (prefix, inl (h, refl), a),
  ap utf8_decode (sym (append_assoc bytes (c ∷ []) s)) ∙ k,
)

encoded : (bytes : List ℕ) (a b c : ℕ) (t v r : List ℕ) → octet_of a b ≡ Some c
    → Shown (bytes ++ c ∷ []) t v r → Shown bytes (37 ∷ a ∷ b ∷ t) v r
encoded bytes a b c t v r o (prefix, s, i, e, k) =
    let (h, p, q) = octet_sound a b c o in (
      37 ∷ a ∷ b ∷ prefix,
      c ∷ s,
      ap (λ x. 37 ∷ a ∷ b ∷ x) i,
      (prefix, inr (h, ap₂ (λ x y. 37 ∷ x ∷ y ∷ prefix) p q), e),
      ap utf8_decode (sym (append_assoc bytes (c ∷ []) s)) ∙ k,
    )

ended : (bytes t v r : List ℕ) (c : ℕ) → (c == 34) ≡ true
    → and_then {A = List ℕ} {B = List ℕ × List ℕ} (utf8_decode bytes) (λ x. Some (x, t)) ≡ Some (v, r)
    → Shown bytes (c ∷ t) v r
ended bytes t v r c h e =
    let (x, j, k) = and_then_cases (utf8_decode bytes) (λ y. Some (y, t)) (v, r) e in
    let i = some_pair x v t r k in (
      34 ∷ [],
      [],
      ap₂ (λ x y. x ∷ y) (eqb-true c 34 h) i.1,
      refl,
      ap utf8_decode (append-nil bytes) ∙ j ∙ ap Some i.0,
    )

octet_cases : (bytes : List ℕ) (a b : ℕ) (t v r : List ℕ)
    → display_second bytes a (b ∷ t) ≡ Some (v, r)
    → (c : ℕ) × (octet_of a b ≡ Some c) × (display_loop (bytes ++ c ∷ []) t ≡ Some (v, r))
octet_cases bytes a b t v r e = go (octet_of a b) refl
  where
    go : (o : Option ℕ) → octet_of a b ≡ o
        → (c : ℕ) × (octet_of a b ≡ Some c) × (display_loop (bytes ++ c ∷ []) t ≡ Some (v, r))
    go None i =
        let k : ◌≡◌ {A = Option (List ℕ × List ℕ)} None (Some (v, r)) = rw (i, display_second) at e in
        absurd cc
    go (Some c) i = (c, i, rw (i, display_second) at e)

shown_round : (bytes : List ℕ) (c : ℕ) (t v r : List ℕ)
    → (display_octet bytes t ≡ Some (v, r) → Shown bytes (37 ∷ t) v r)
    → (display_loop (bytes ++ c ∷ []) t ≡ Some (v, r) → Shown (bytes ++ c ∷ []) t v r)
    → display_loop bytes (c ∷ t) ≡ Some (v, r) → Shown bytes (c ∷ t) v r
shown_round bytes c t v r octet loop e =
    let (i, a) = if_not (is_unprintable c) _ (v, r) e in
    elim (if_either (c == 37) _ _ (v, r) a) [
      | inl k ↦ subst (λ y. Shown bytes (y ∷ t) v r) (sym (eqb-true c 37 k.0)) (octet k.1)
      | inr k ↦ elim (if_either (c == 34) _ _ (v, r) k.1) [
        | inl j ↦ ended bytes t v r c j.0 j.1
        | inr j ↦ itself bytes c t v r (unencoded c i k.0 j.0) (loop j.1)
      ]
    ]

shown_sound : (bytes t v r : List ℕ) → display_loop bytes t ≡ Some (v, r) → Shown bytes t v r
shown_sound bytes [] v r e = never (v, r) e
shown_sound bytes (c ∷ []) v r e =
    shown_round bytes c [] v r (λ o. never (v, r) o) (shown_sound (bytes ++ c ∷ []) [] v r) e
shown_sound bytes (c ∷ a ∷ []) v r e =
    shown_round bytes c (a ∷ []) v r (λ o. never (v, r) o)
    (shown_sound (bytes ++ c ∷ []) (a ∷ []) v r) e
shown_sound bytes (c ∷ a ∷ b ∷ t) v r e =
    shown_round bytes c (a ∷ b ∷ t) v r
    (λ o. let (x, i, k) = octet_cases bytes a b t v r o in
    encoded bytes a b x t v r i (shown_sound (bytes ++ x ∷ []) t v r k))
    (shown_sound (bytes ++ c ∷ []) (a ∷ b ∷ t) v r) e

display_sound : (t r v : List ℕ) → parse_display_string t ≡ Some (v, r)
    → (prefix : List ℕ) × (t ≡ prefix ++ r) × SpellsCodePoints prefix v
display_sound [] r v e = never (v, r) e
display_sound (a ∷ []) r v e = never (v, r) e
display_sound (a ∷ b ∷ t) r v e =
    let (h, k) = if_so (a == 37 && b == 34) _ (v, r) e in
    let i = eqb-true a 37 (first_so (a == 37) (b == 34) h) in
    let j = eqb-true b 34 (second_so (a == 37) (b == 34) h) in
    let (prefix, s, m, c, u) = shown_sound [] t v r k in (
      37 ∷ 34 ∷ prefix,
      ap₂ (λ x y. x ∷ y) i (ap₂ (λ x y. x ∷ y) j m),
      (s, (decoding_inverts v s).1 u, (prefix, refl, c, decoded_formed s v u)),
    )

-- what is spelled is read
not_unprintable : (c : ℕ) → is_unencoded c ≡ true → is_unprintable c ≡ false
not_unprintable c h = grind (arith, nat_tests)

not_percent : (c : ℕ) → is_unencoded c ≡ true → (c == 37) ≡ false
not_percent c h = grind (arith, nat_tests)

not_quote : (c : ℕ) → is_unencoded c ≡ true → (c == 34) ≡ false
not_quote c h = grind (arith, nat_tests)

read_itself : (bytes v : List ℕ) (c : ℕ) (t r : List ℕ) → is_unencoded c ≡ true
    → display_loop (bytes ++ c ∷ []) t ≡ Some (v, r)
    → display_loop bytes (c ∷ t) ≡ Some (v, r)
read_itself bytes v c t r h e =
    rw (not_unprintable c h, not_percent c h, not_quote c h, display_loop) e

read_encoded : (bytes v : List ℕ) (c : ℕ) (t r : List ℕ) → is_byte c ≡ true
    → display_loop (bytes ++ c ∷ []) t ≡ Some (v, r)
    → display_loop bytes (37 ∷ hex (c / 16) ∷ hex (c % 16) ∷ t) ≡ Some (v, r)
read_encoded bytes v c t r h e = second (hex (c / 16)) (hex (c % 16)) (octet_is c (byte_small c h))
  where
    second : (a b : ℕ) → octet_of a b ≡ Some c → display_second bytes a (b ∷ t) ≡ Some (v, r)
    second a b o = rw (o, display_second) e

shown_read : (bytes t s r v : List ℕ) → EncodedBytes t s → utf8_decode (bytes ++ s) ≡ Some v
    → display_loop bytes (t ++ r) ≡ Some (v, r)
shown_read bytes t [] r v e u =
    rw e (ap (λ o. and_then o (λ x. Some (x, r))) (ap utf8_decode (sym (append-nil bytes)) ∙ u))
shown_read bytes t (c ∷ s) r v (suffix, inl (h, i), e) u =
    rw i (read_itself bytes v c (suffix ++ r) r h
    (shown_read (bytes ++ c ∷ []) suffix s r v e (ap utf8_decode (append_assoc bytes (c ∷ []) s) ∙ u)))
shown_read bytes t (c ∷ s) r v (suffix, inr (h, i), e) u =
    rw i (read_encoded bytes v c (suffix ++ r) r h
    (shown_read (bytes ++ c ∷ []) suffix s r v e (ap utf8_decode (append_assoc bytes (c ∷ []) s) ∙ u)))

display_whole : (t r v : List ℕ) → SpellsCodePoints t v → first_is (λ c. false) r ≡ false
    → parse_display_string (t ++ r) ≡ Some (v, r)
display_whole t r v (s, k, (suffix, i, e, w)) f =
    rw i (shown_read [] suffix s r v e ((decoding_inverts v s).0 k))

pub display_strings_agree : DisplayStringsAgree
display_strings_agree = record { sound = display_sound; whole = display_whole }
