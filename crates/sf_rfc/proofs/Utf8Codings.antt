-- UTF-8 by RFC 3629 section 3: decoding inverts encoding, and succeeds as the ABNF says.
use Rattle.std.specs.List.{list_all}
use Rattle.std.proofs.Common.{◌≡◌, ℕ, zero, suc, ◌+◌, ◌-◌, ◌*◌, ◌/◌, ◌%◌, ◌<◌, ◌≤◌, Bool, true, false}
use Rattle.std.proofs.Common.{◌&&◌, List, [], ◌∷◌, ◌++◌, length, Option, Some, None, IsUtf8}
use Rattle.std.proofs.Common.{refl, sym, ap, ap₂, ◌∙◌, subst, ◌⊎◌, inl, inr, ⊎_elim, arith}
use Rattle.std.proofs.Common.{append_assoc, length-append, le_refl}
use Rattle.std.specs.Prelude.{nat_le, is_some}
use Rattle.std.specs.Cmp.{first_so, second_so}
use Rattle.std.proofs.lemmas.Bool.Decides.{nat_tests}
use lib.Utf8.{encode, encodes, scalar, scalars, next}
use Rattle.sf_value.specs.Grammar.Utf8.{Start, WellFormed}
use Rattle.sf_value.proofs.Utf8Table.{from_utf8, to_utf8}
use Rattle.sf_rfc.specs.Rfc9651.Words.{and_then, only_if}
use Rattle.sf_rfc.specs.Rfc9651.Alphabets.{in_range}
use Rattle.sf_rfc.specs.Rfc9651.Utf8.{is_utf8}
use Rattle.sf_rfc.specs.Rfc9651.Utf8Coding.{is_scalar, tail_octet, octets_of, utf8_encode}
use Rattle.sf_rfc.specs.Rfc9651.Utf8Coding.{tail_bits, of_row, decode_character}
use Rattle.sf_rfc.specs.Rfc9651.Utf8Coding.{decode_characters, utf8_decode}
use Rattle.sf_rfc.specs.Utf8Laws.{ScalarsEncode, DecodingInverts, AbnfDecodes}
use Rattle.sf_rfc.proofs.SerialisingUtf8.{well_formed_utf8}
use Rattle.sf_rfc.proofs.ParsingUtf8.{utf8_formed}
use Rattle.sf_rfc.proofs.ParsingSteps.{never, some_is, some_pair, and_then_cases, only_if_cases}
use Rattle.sf_rfc.proofs.ParsingSteps.{if_either}

-- the rows of the table
Split : ℕ → Type 0
Split c = (c ≤ 127) ⊎ (((128 ≤ c) × (c ≤ 2047)) ⊎ (((2048 ≤ c) × (c ≤ 65535)) ⊎ (65536 ≤ c)))

split : (c : ℕ) → Split c
unfolding Split
split c = grind arith

at_most : (high c : ℕ) → c ≤ high → nat_le c high ≡ true
at_most high c h = grind arith

more_than : (high c : ℕ) → high < c → nat_le c high ≡ false
more_than high c h = grind arith

inside : (low high c : ℕ) → low ≤ c → c ≤ high → in_range low high c ≡ true
inside low high c l h = grind arith

under : (low high c : ℕ) → c < low → in_range low high c ≡ false
under low high c h = grind arith

over : (low high c : ℕ) → high < c → in_range low high c ≡ false
over low high c h = grind arith

ranged : (low high c : ℕ) → in_range low high c ≡ true → (low ≤ c) × (c ≤ high)
ranged low high c e = (grind arith, grind arith)

scalar_top : (c : ℕ) → is_scalar c ≡ true → c ≤ 1114111
scalar_top c e = grind (arith, nat_tests)

one_octet : (c : ℕ) → c ≤ 127 → octets_of c ≡ c ∷ []
one_octet c h = rw (at_most 127 c h, octets_of) refl

two_octets : (c : ℕ) → 128 ≤ c → c ≤ 2047 → octets_of c ≡ (192 + c / 64) ∷ tail_octet c ∷ []
two_octets c l h = rw (more_than 127 c (omega arith), at_most 2047 c h, octets_of) refl

three_octets : (c : ℕ) → 2048 ≤ c → c ≤ 65535
    → octets_of c ≡ (224 + c / 4096) ∷ tail_octet (c / 64) ∷ tail_octet c ∷ []
three_octets c l h =
    rw (
      more_than 127 c (omega arith),
      more_than 2047 c (omega arith),
      at_most 65535 c h,
      octets_of,
    ) refl

four_octets : (c : ℕ) → 65536 ≤ c
    → octets_of c
    ≡ (240 + c / 262144) ∷ tail_octet (c / 4096) ∷ tail_octet (c / 64) ∷ tail_octet c ∷ []
four_octets c l =
    rw (
      more_than 127 c (omega arith),
      more_than 2047 c (omega arith),
      more_than 65535 c (omega arith),
      octets_of,
    ) refl

-- what is encoded is decoded
one_decoded : (a : ℕ) (t : List ℕ) → a ≤ 127 → decode_character (a ∷ t) ≡ Some (a, t)
one_decoded a t h = rw (at_most 127 a h, decode_character) refl

in_row : (low high c : ℕ) (t : List ℕ) → low ≤ c → c ≤ high → is_scalar c ≡ true
    → of_row low high (Some (c, t)) ≡ Some (c, t)
in_row low high c t l h s = rw (inside low high c l h, s) refl

tail_step : (n bits o : ℕ) (t : List ℕ) → 128 ≤ o → o ≤ 191
    → tail_bits (suc n) bits (o ∷ t) ≡ tail_bits n (bits * 64 + (o - 128)) t
tail_step n bits o t l h = rw (inside 128 191 o l h, tail_bits) refl

-- a number and the rest
abbrev and_rest : List ℕ → ℕ → Option (ℕ × List ℕ)
and_rest t c = Some (c, t)

-- the first octet says how many follow
first_two : (a : ℕ) (t : List ℕ) → 192 ≤ a → a ≤ 223
    → decode_character (a ∷ t) ≡ of_row 128 2047 (tail_bits 1 (a - 192) t)
first_two a t l h =
    rw (more_than 127 a (omega arith), inside 192 223 a l h, decode_character) refl

first_three : (a : ℕ) (t : List ℕ) → 224 ≤ a → a ≤ 239
    → decode_character (a ∷ t) ≡ of_row 2048 65535 (tail_bits 2 (a - 224) t)
first_three a t l h =
    rw (
      more_than 127 a (omega arith),
      over 192 223 a (omega arith),
      inside 224 239 a l h,
      decode_character,
    ) refl

first_four : (a : ℕ) (t : List ℕ) → 240 ≤ a → a ≤ 247
    → decode_character (a ∷ t) ≡ of_row 65536 1114111 (tail_bits 3 (a - 240) t)
first_four a t l h =
    rw (
      more_than 127 a (omega arith),
      over 192 223 a (omega arith),
      over 224 239 a (omega arith),
      inside 240 247 a l h,
      decode_character,
    ) refl

two_decoded : (a b c : ℕ) (t : List ℕ) → 192 ≤ a → a ≤ 223 → 128 ≤ b → b ≤ 191
    → (a - 192) * 64 + (b - 128) ≡ c → 128 ≤ c → c ≤ 2047 → is_scalar c ≡ true
    → decode_character (a ∷ b ∷ t) ≡ Some (c, t)
two_decoded a b c t la ha lb hb e l h s =
    first_two a (b ∷ t) la ha
    ∙ ap (of_row 128 2047) (tail_step 0 (a - 192) b t lb hb ∙ ap (and_rest t) e)
    ∙ in_row 128 2047 c t l h s

three_decoded : (a b d c : ℕ) (t : List ℕ) → 224 ≤ a → a ≤ 239 → 128 ≤ b → b ≤ 191 → 128 ≤ d
    → d ≤ 191 → ((a - 224) * 64 + (b - 128)) * 64 + (d - 128) ≡ c → 2048 ≤ c → c ≤ 65535
    → is_scalar c ≡ true → decode_character (a ∷ b ∷ d ∷ t) ≡ Some (c, t)
three_decoded a b d c t la ha lb hb ld hd e l h s =
    first_three a (b ∷ d ∷ t) la ha
    ∙ ap (of_row 2048 65535)
    (tail_step 1 (a - 224) b (d ∷ t) lb hb
    ∙ tail_step 0 ((a - 224) * 64 + (b - 128)) d t ld hd ∙ ap (and_rest t) e)
    ∙ in_row 2048 65535 c t l h s

four_decoded : (a b d f c : ℕ) (t : List ℕ) → 240 ≤ a → a ≤ 247 → 128 ≤ b → b ≤ 191 → 128 ≤ d
    → d ≤ 191 → 128 ≤ f → f ≤ 191
    → (((a - 240) * 64 + (b - 128)) * 64 + (d - 128)) * 64 + (f - 128) ≡ c → 65536 ≤ c
    → c ≤ 1114111 → is_scalar c ≡ true → decode_character (a ∷ b ∷ d ∷ f ∷ t) ≡ Some (c, t)
four_decoded a b d f c t la ha lb hb ld hd lf hf e l h s =
    first_four a (b ∷ d ∷ f ∷ t) la ha
    ∙ ap (of_row 65536 1114111)
    (tail_step 2 (a - 240) b (d ∷ f ∷ t) lb hb
    ∙ tail_step 1 ((a - 240) * 64 + (b - 128)) d (f ∷ t) ld hd
    ∙ tail_step 0 (((a - 240) * 64 + (b - 128)) * 64 + (d - 128)) f t lf hf
    ∙ ap (and_rest t) e)
    ∙ in_row 65536 1114111 c t l h s

octets_decoded : (c : ℕ) (t : List ℕ) → is_scalar c ≡ true
    → decode_character (octets_of c ++ t) ≡ Some (c, t)
unfolding Split
octets_decoded c t s = ⊎_elim
    (λ k. of (c ∷ []) (one_octet c k) (one_decoded c t k))
    (⊎_elim
    (λ k. of _ (two_octets c k.0 k.1)
    (two_decoded (192 + c / 64) (tail_octet c) c t (omega arith) (omega arith) (omega arith)
    (omega arith) (omega arith) k.0 k.1 s))
    (⊎_elim
    (λ k. of _ (three_octets c k.0 k.1)
    (three_decoded (224 + c / 4096) (tail_octet (c / 64)) (tail_octet c) c t (omega arith)
    (omega arith) (omega arith) (omega arith) (omega arith) (omega arith) (omega arith) k.0 k.1 s))
    (λ k. let top : c ≤ 1114111 = scalar_top c s in
    of _ (four_octets c k)
    (four_decoded (240 + c / 262144) (tail_octet (c / 4096)) (tail_octet (c / 64)) (tail_octet c) c
    t (omega arith) (omega arith) (omega arith) (omega arith) (omega arith) (omega arith)
    (omega arith) (omega arith) (omega arith) k top s))))
    (split c)
  where
    of : (o : List ℕ) → octets_of c ≡ o → decode_character (o ++ t) ≡ Some (c, t)
        → decode_character (octets_of c ++ t) ≡ Some (c, t)
    of o i h = subst (λ y. decode_character (y ++ t) ≡ Some (c, t)) (sym i) h

-- what is decoded was encoded
tail_cases : (n bits : ℕ) (s t : List ℕ) (c : ℕ) → tail_bits (suc n) bits s ≡ Some (c, t)
    → (o : ℕ) × (u : List ℕ) × (s ≡ o ∷ u) × (128 ≤ o) × (o ≤ 191)
    × (tail_bits n (bits * 64 + (o - 128)) u ≡ Some (c, t))
tail_cases n bits [] t c e = never (c, t) e
tail_cases n bits (o ∷ u) t c e = elim (if_either (in_range 128 191 o) _ _ (c, t) e) [
  | inl k ↦ let r = ranged 128 191 o k.0 in (o, u, refl, r.0, r.1, k.1)
  | inr k ↦ never (c, t) k.1
]

row_cases : (low high c : ℕ) (t : List ℕ) (o : Option (ℕ × List ℕ)) → of_row low high o ≡ Some (c, t)
    → (o ≡ Some (c, t)) × (low ≤ c) × (c ≤ high) × (is_scalar c ≡ true)
row_cases low high c t None e = never (c, t) e
row_cases low high c t (Some (x, u)) e =
    let k = only_if_cases (in_range low high x && is_scalar x) (x, u) (c, t) e in
    let p = some_pair x c u t (ap Some k.1) in
    let a = ranged low high x (first_so (in_range low high x) (is_scalar x) k.0) in
    let b = second_so (in_range low high x) (is_scalar x) k.0 in
    (ap Some k.1, omega (arith, p.0), omega (arith, p.0), subst (λ y. is_scalar y ≡ true) p.0 b)

-- the octets, and what they are the octets of
abbrev Encoded : List ℕ → ℕ → List ℕ → Type 0
Encoded s c t = (is_scalar c ≡ true) × (s ≡ octets_of c ++ t)

encoded_as : (s o t : List ℕ) (c : ℕ) → is_scalar c ≡ true → octets_of c ≡ o → s ≡ o ++ t
    → Encoded s c t
encoded_as s o t c s' i e = (s', e ∙ ap (λ y. y ++ t) (sym i))

two_sound : (a c : ℕ) (s t : List ℕ) → 192 ≤ a → a ≤ 223
    → of_row 128 2047 (tail_bits 1 (a - 192) s) ≡ Some (c, t) → Encoded (a ∷ s) c t
two_sound a c s t la ha e =
    let (i, l, h, k) = row_cases 128 2047 c t (tail_bits 1 (a - 192) s) e in
    let (b, u, j, lb, hb, f) = tail_cases 0 (a - 192) s t c i in
    let p = some_pair ((a - 192) * 64 + (b - 128)) c u t f in
    let v : (a - 192) * 64 + (b - 128) ≡ c = p.0 in
    let x : a ≡ 192 + c / 64 = omega arith in
    let y : b ≡ tail_octet c = omega arith in
    encoded_as (a ∷ s) _ t c k (two_octets c l h)
    (ap₂ (λ w r. w ∷ r) x (j ∙ ap₂ (λ w r. w ∷ r) y p.1))

three_sound : (a c : ℕ) (s t : List ℕ) → 224 ≤ a → a ≤ 239
    → of_row 2048 65535 (tail_bits 2 (a - 224) s) ≡ Some (c, t) → Encoded (a ∷ s) c t
three_sound a c s t la ha e =
    let (i, l, h, k) = row_cases 2048 65535 c t (tail_bits 2 (a - 224) s) e in
    let (b, u, j, lb, hb, f) = tail_cases 1 (a - 224) s t c i in
    let (d, w, m, ld, hd, g) = tail_cases 0 ((a - 224) * 64 + (b - 128)) u t c f in
    let p = some_pair (((a - 224) * 64 + (b - 128)) * 64 + (d - 128)) c w t g in
    let v : ((a - 224) * 64 + (b - 128)) * 64 + (d - 128) ≡ c = p.0 in
    let x : a ≡ 224 + c / 4096 = omega arith in
    let y : b ≡ tail_octet (c / 64) = omega arith in
    let z : d ≡ tail_octet c = omega arith in
    encoded_as (a ∷ s) _ t c k (three_octets c l h)
    (ap₂ (λ q r. q ∷ r) x (j ∙ ap₂ (λ q r. q ∷ r) y (m ∙ ap₂ (λ q r. q ∷ r) z p.1)))

four_sound : (a c : ℕ) (s t : List ℕ) → 240 ≤ a → a ≤ 247
    → of_row 65536 1114111 (tail_bits 3 (a - 240) s) ≡ Some (c, t) → Encoded (a ∷ s) c t
four_sound a c s t la ha e =
    let (i, l, h, k) = row_cases 65536 1114111 c t (tail_bits 3 (a - 240) s) e in
    let (b, u, j, lb, hb, f) = tail_cases 2 (a - 240) s t c i in
    let (d, w, m, ld, hd, g) = tail_cases 1 ((a - 240) * 64 + (b - 128)) u t c f in
    let (n, q, o, ln, hn, r) =
    tail_cases 0 (((a - 240) * 64 + (b - 128)) * 64 + (d - 128)) w t c g in
    let p = some_pair ((((a - 240) * 64 + (b - 128)) * 64 + (d - 128)) * 64 + (n - 128)) c q t r in
    let v : (((a - 240) * 64 + (b - 128)) * 64 + (d - 128)) * 64 + (n - 128) ≡ c = p.0 in
    let x : a ≡ 240 + c / 262144 = omega arith in
    let y : b ≡ tail_octet (c / 4096) = omega arith in
    let z : d ≡ tail_octet (c / 64) = omega arith in
    let last : n ≡ tail_octet c = omega arith in
    encoded_as (a ∷ s) _ t c k (four_octets c l)
    (ap₂ (λ y z. y ∷ z) x (j ∙ ap₂ (λ y z. y ∷ z) y
    (m ∙ ap₂ (λ y z. y ∷ z) z (o ∙ ap₂ (λ y z. y ∷ z) last p.1))))

low_scalar : (c : ℕ) → c ≤ 127 → is_scalar c ≡ true
low_scalar c h = grind (arith, nat_tests)

le_of : (high c : ℕ) → nat_le c high ≡ true → c ≤ high
le_of high c e = grind arith

character_sound : (s t : List ℕ) (c : ℕ) → decode_character s ≡ Some (c, t) → Encoded s c t
character_sound [] t c e = never (c, t) e
character_sound (a ∷ s) t c e = elim (if_either (nat_le a 127) _ _ (c, t) e) [
  | inl k ↦
      let p = some_pair a c s t k.1 in
      let h : c ≤ 127 = omega (arith, le_of 127 a k.0, p.0) in
      encoded_as (a ∷ s) (c ∷ []) t c (low_scalar c h) (one_octet c h)
      (ap₂ (λ w r. w ∷ r) p.0 p.1)
  | inr i ↦ elim (if_either (in_range 192 223 a) _ _ (c, t) i.1) [
    | inl k ↦ let r = ranged 192 223 a k.0 in two_sound a c s t r.0 r.1 k.1
    | inr j ↦ elim (if_either (in_range 224 239 a) _ _ (c, t) j.1) [
      | inl k ↦ let r = ranged 224 239 a k.0 in three_sound a c s t r.0 r.1 k.1
      | inr l ↦ elim (if_either (in_range 240 247 a) _ _ (c, t) l.1) [
        | inl k ↦ let r = ranged 240 247 a k.0 in four_sound a c s t r.0 r.1 k.1
        | inr k ↦ never (c, t) k.1
      ]
    ]
  ]
]

-- sequences of characters
encode_cases : (c : ℕ) (cs s : List ℕ) → utf8_encode (c ∷ cs) ≡ Some s
    → (is_scalar c ≡ true) × (u : List ℕ) × (utf8_encode cs ≡ Some u) × (s ≡ octets_of c ++ u)
encode_cases c cs s e =
    let (o, i, f) = and_then_cases (only_if (is_scalar c) (octets_of c)) _ s e in
    let (u, j, g) = and_then_cases (utf8_encode cs) _ s f in
    let k = only_if_cases (is_scalar c) (octets_of c) o i in
    (k.0, u, j, sym (some_is (o ++ u) s g) ∙ ap (λ y. y ++ u) (sym k.1))

encode_more : (c : ℕ) (cs u : List ℕ) → is_scalar c ≡ true → utf8_encode cs ≡ Some u
    → utf8_encode (c ∷ cs) ≡ Some (octets_of c ++ u)
encode_more c cs u h e =
    ap (λ x. and_then (only_if x (octets_of c)) (λ o. and_then (utf8_encode cs) (λ s. Some (o ++ s)))) h
    ∙ ap (λ p. and_then p (λ s. Some (octets_of c ++ s))) e

has_first : (c : ℕ) → (a : ℕ) × (r : List ℕ) × (octets_of c ≡ a ∷ r)
unfolding Split
has_first c = ⊎_elim
    (λ k. (c, [], one_octet c k))
    (⊎_elim
    (λ k. (192 + c / 64, _, two_octets c k.0 k.1))
    (⊎_elim
    (λ k. (224 + c / 4096, _, three_octets c k.0 k.1))
    (λ k. (240 + c / 262144, _, four_octets c k))))
    (split c)

-- the characters after the first
abbrev with_more : ℕ → ℕ × List ℕ → Option (List ℕ)
with_more n p = and_then (decode_characters n p.1) (λ cs. Some (p.0 ∷ cs))

-- a character and those that follow
both : (n c : ℕ) (o : Option (ℕ × List ℕ)) (u cs : List ℕ) → o ≡ Some (c, u)
    → decode_characters n u ≡ Some cs → and_then o (with_more n) ≡ Some (c ∷ cs)
both n c o u cs d e =
    ap (λ p. and_then p (with_more n)) d ∙ ap (λ p. and_then p (λ ds. Some (c ∷ ds))) e

decode_more : (n c : ℕ) (cs s u : List ℕ) → is_scalar c ≡ true → s ≡ octets_of c ++ u
    → length s ≤ suc n → (length u ≤ n → decode_characters n u ≡ Some cs)
    → decode_characters (suc n) s ≡ Some (c ∷ cs)
decode_more n c cs s u h e l ih =
    let (a, r, i) = has_first c in
    let f : s ≡ a ∷ (r ++ u) = e ∙ ap (λ y. y ++ u) i in
    let m : length u ≤ n = omega (arith, ap length f, length-append r u) in
    let d : decode_character (a ∷ (r ++ u)) ≡ Some (c, u) =
    ap (λ y. decode_character (y ++ u)) (sym i) ∙ octets_decoded c u h in
    ap (λ y. decode_characters (suc n) y) f ∙ both n c (decode_character (a ∷ (r ++ u))) u cs d (ih m)

decode_enough : (n : ℕ) (cs s : List ℕ) → utf8_encode cs ≡ Some s → length s ≤ n
    → decode_characters n s ≡ Some cs
decode_enough n [] s e l =
    subst (λ y. decode_characters n y ≡ Some []) (some_is [] s e) refl
decode_enough zero (c ∷ cs) s e l =
    let (h, u, i, k) = encode_cases c cs s e in
    let (a, r, j) = has_first c in
    absurd (omega (arith, ap length (k ∙ ap (λ y. y ++ u) j)))
decode_enough (suc n) (c ∷ cs) s e l =
    let (h, u, i, k) = encode_cases c cs s e in
    decode_more n c cs s u h k l (decode_enough n cs u i)

decode_sound : (n : ℕ) (s cs : List ℕ) → decode_characters n s ≡ Some cs → utf8_encode cs ≡ Some s
decode_sound n [] cs e = subst (λ y. utf8_encode y ≡ Some []) (some_is [] cs e) refl
decode_sound zero (o ∷ s) cs e = never cs e
decode_sound (suc n) (o ∷ s) cs e =
    let (p, i, f) = and_then_cases (decode_character (o ∷ s)) (with_more n) cs e in
    let (ds, j, g) = and_then_cases (decode_characters n p.1) _ cs f in
    let (h, k) = character_sound (o ∷ s) p.1 p.0 i in
    subst (λ y. utf8_encode y ≡ Some (o ∷ s)) (some_is (p.0 ∷ ds) cs g)
    (encode_more p.0 ds p.1 h (decode_sound n p.1 ds j) ∙ ap Some (sym k))

pub decoding_inverts : DecodingInverts
decoding_inverts cs s = (
  (λ e. decode_enough (length s) cs s e (le_refl (length s))),
  (λ e. decode_sound (length s) s cs e),
)

-- which characters are encoded
some_kept : {A B : Type 0} (o : Option A) (f : A → B)
    → is_some (and_then o (λ a. Some (f a))) ≡ is_some o
some_kept None f = refl
some_kept (Some a) f = refl

pub scalars_encode : ScalarsEncode
scalars_encode [] = refl
scalars_encode (c ∷ cs) = go (is_scalar c) refl (scalars_encode cs)
  where
    encoded : Bool → Bool
    encoded x = is_some (and_then (only_if x (octets_of c)) (λ o.
        and_then (utf8_encode cs) (λ s. Some (o ++ s))))

    go : (x : Bool) → is_scalar c ≡ x → is_some (utf8_encode cs) ≡ list_all is_scalar cs
        → is_some (utf8_encode (c ∷ cs)) ≡ list_all is_scalar (c ∷ cs)
    go true e h =
        ap encoded e ∙ some_kept (utf8_encode cs) (λ s. octets_of c ++ s) ∙ h
        ∙ sym (ap (λ x. x && list_all is_scalar cs) e)
    go false e h = ap encoded e ∙ sym (ap (λ x. x && list_all is_scalar cs) e)

-- std's UTF-8
same_scalar : (c : ℕ) → is_scalar c ≡ scalar c
same_scalar c = grind (arith, nat_tests)

std_one : (c : ℕ) → c ≤ 127 → encode c ≡ c ∷ []
unfolding encode
std_one c h = grind arith

std_two : (c : ℕ) → 128 ≤ c → c ≤ 2047 → encode c ≡ (192 + c / 64) ∷ next c ∷ []
unfolding encode
std_two c l h = grind arith

std_three : (c : ℕ) → 2048 ≤ c → c ≤ 65535
    → encode c ≡ (224 + c / 4096) ∷ next (c / 64) ∷ next c ∷ []
unfolding encode
std_three c l h = grind arith

std_four : (c : ℕ) → 65536 ≤ c
    → encode c ≡ (240 + c / 262144) ∷ next (c / 4096) ∷ next (c / 64) ∷ next c ∷ []
unfolding encode
std_four c l = grind arith

same_octets : (c : ℕ) → octets_of c ≡ encode c
unfolding Split
same_octets c = ⊎_elim
    (λ k. one_octet c k ∙ sym (std_one c k))
    (⊎_elim
    (λ k. two_octets c k.0 k.1 ∙ sym (std_two c k.0 k.1))
    (⊎_elim
    (λ k. three_octets c k.0 k.1 ∙ sym (std_three c k.0 k.1))
    (λ k. four_octets c k ∙ sym (std_four c k))))
    (split c)

std_encoded : (cs : List ℕ) → scalars cs ≡ true → utf8_encode cs ≡ Some (encodes cs)
std_encoded [] e = refl
std_encoded (c ∷ cs) e =
    encode_more c cs (encodes cs) (same_scalar c ∙ first_so (scalar c) (scalars cs) e)
    (std_encoded cs (second_so (scalar c) (scalars cs) e))
    ∙ ap (λ y. Some (y ++ encodes cs)) (same_octets c)

encoded_std : (cs s : List ℕ) → utf8_encode cs ≡ Some s → (scalars cs ≡ true) × (encodes cs ≡ s)
encoded_std [] s e = (refl, some_is [] s e)
encoded_std (c ∷ cs) s e =
    let (h, u, i, k) = encode_cases c cs s e in
    let (g, j) = encoded_std cs u i in (
      rw (sym (same_scalar c) ∙ h, g) refl,
      ap₂ (λ x y. x ++ y) (sym (same_octets c)) j ∙ sym k,
    )

-- octets decode exactly if they are well-formed
pub decoded_formed : (s cs : List ℕ) → utf8_decode s ≡ Some cs → WellFormed Start s
decoded_formed s cs e = from_utf8 s (cs, encoded_std cs s ((decoding_inverts cs s).1 e))

pub formed_decoded : (s : List ℕ) → WellFormed Start s
    → (cs : List ℕ) × (utf8_encode cs ≡ Some s) × (utf8_decode s ≡ Some cs)
formed_decoded s w =
    let k = to_utf8 s w in
    let e : utf8_encode k.0 ≡ Some s = std_encoded k.0 k.1.0 ∙ ap Some k.1.1 in
    (k.0, e, (decoding_inverts k.0 s).0 e)

pub abnf_decodes : AbnfDecodes
abnf_decodes s = go (is_utf8 s) refl (utf8_decode s) refl
  where
    go : (x : Bool) → is_utf8 s ≡ x → (o : Option (List ℕ)) → utf8_decode s ≡ o
        → is_some (utf8_decode s) ≡ is_utf8 s
    go true h o i =
        let (cs, e, d) = formed_decoded s (utf8_formed s h) in
        ap (λ y. is_some y) d ∙ sym h
    go false h None i = ap (λ y. is_some y) i ∙ sym h
    go false h (Some cs) i =
        let k : true ≡ false = sym (well_formed_utf8 s (decoded_formed s cs i)) ∙ h in absurd cc
