-- Booleans and Strings.
use Rattle.std.proofs.Common.{◌≡◌, ℕ, Bool, true, false, ◌==◌, List, [], ◌∷◌, ◌++◌}
use Rattle.std.proofs.Common.{Some, None, refl, sym, ap, ap₂, ◌∙◌, subst, arith, append_assoc}
use Rattle.std.proofs.Common.{append-nil, inl, inr, eqb-true}
use Rattle.std.specs.Prelude.{if◌then◌else◌}
use Rattle.std.proofs.lemmas.Bool.Decides.{nat_tests}
use Rattle.sf_value.specs.Grammar.Words.{Every}
use Rattle.sf_value.specs.Grammar.Classes.{is_visible}
use Rattle.sf_value.specs.Grammar.Strings.{is_escaped, escaped, SpellsString}
use Rattle.sf_value.specs.Grammar.Booleans.{SpellsBoolean}
use Rattle.sf_rfc.specs.Rfc9651.Words.{Parse, first_is}
use Rattle.sf_rfc.specs.Rfc9651.Alphabets.{is_unprintable, needs_escape}
use Rattle.sf_rfc.specs.Rfc9651.ParsingBare.{parse_boolean, boolean_value, parse_string, string_loop}
use Rattle.sf_rfc.specs.Rfc9651.ParsingBare.{string_escape}
use Rattle.sf_rfc.proofs.ParsingSteps.{some_pair, if_so, if_not, if_either}
use Rattle.sf_rfc.specs.ParsingLaws.{BooleansAgree, StringsAgree}

abbrev text_of : Bool → List ℕ
text_of v = 63 ∷ (if v then 49 else 48) ∷ []

value_sound : (t r : List ℕ) (v : Bool) → boolean_value t ≡ Some (v, r)
    → 63 ∷ t ≡ text_of v ++ r
value_sound [] r v e = absurd cc
value_sound (c ∷ t) r v e = elim (if_either (c == 49) _ _ (v, r) e) [
  | inl (i, k) ↦
      let j = some_pair true v t r k in
      rw (← j.0, ← j.1) (ap (λ x. 63 ∷ x ∷ t) (eqb-true c 49 i))
  | inr (i, k) ↦
      let (h, m) = if_so (c == 48) _ (v, r) k in
      let j = some_pair false v t r m in
      rw (← j.0, ← j.1) (ap (λ x. 63 ∷ x ∷ t) (eqb-true c 48 h))
]

boolean_sound : (t r : List ℕ) (v : Bool) → parse_boolean t ≡ Some (v, r)
    → (prefix : List ℕ) × (t ≡ prefix ++ r) × SpellsBoolean prefix v
boolean_sound [] r v e = absurd cc
boolean_sound (c ∷ t) r v e =
    let (i, k) = if_so (c == 63) _ (v, r) e in
    (text_of v, ap (λ x. x ∷ t) (eqb-true c 63 i) ∙ value_sound t r v k, refl)

boolean_whole : (t r : List ℕ) (v : Bool) → SpellsBoolean t v
    → first_is (λ c. false) r ≡ false → parse_boolean (t ++ r) ≡ Some (v, r)
boolean_whole t r true h f = rw h refl
boolean_whole t r false h f = rw h refl

pub booleans_agree : BooleansAgree
booleans_agree = record { sound = boolean_sound; whole = boolean_whole }

-- Strings: the classes
visible_not : (c : ℕ) → is_unprintable c ≡ false → is_visible c ≡ true
visible_not c h = grind (arith, nat_tests)

not_visible : (c : ℕ) → is_visible c ≡ true → is_unprintable c ≡ false
not_visible c h = grind (arith, nat_tests)

escape_is : (c : ℕ) → needs_escape c ≡ true → is_escaped c ≡ true
escape_is c h = grind (arith, nat_tests)

escape_visible : (c : ℕ) → needs_escape c ≡ true → is_visible c ≡ true
escape_visible c h = grind (arith, nat_tests)

not_escaped : (c : ℕ) → (c == 92) ≡ false → (c == 34) ≡ false → is_escaped c ≡ false
not_escaped c h k = grind (arith, nat_tests)

is_needed : (c : ℕ) → is_escaped c ≡ true → needs_escape c ≡ true
is_needed c h = grind (arith, nat_tests)

not_backslash : (c : ℕ) → is_escaped c ≡ false → (c == 92) ≡ false
not_backslash c h = grind (arith, nat_tests)

not_quote : (c : ℕ) → is_escaped c ≡ false → (c == 34) ≡ false
not_quote c h = grind (arith, nat_tests)

-- what the loop takes: the escaped bytes of some w, and the quote
abbrev TakenString : List ℕ → List ℕ → List ℕ → List ℕ → Type 0
TakenString output t v r =
    (w : List ℕ) × (t ≡ escaped w ++ 34 ∷ r) × (v ≡ output ++ w) × Every is_visible w

-- an unescaped character, and an escaped one
plain_taken : (output : List ℕ) (c : ℕ) (t v r : List ℕ) → is_escaped c ≡ false
    → is_visible c ≡ true → TakenString (output ++ c ∷ []) t v r → TakenString output (c ∷ t) v r
plain_taken output c t v r i h (w, a, b, k) = (
  c ∷ w,
  rw i (ap (λ y. c ∷ y) a),
  b ∙ append_assoc output (c ∷ []) w,
  (h, k),
)

escaped_taken : (output : List ℕ) (c : ℕ) (t v r : List ℕ) → is_escaped c ≡ true
    → is_visible c ≡ true → TakenString (output ++ c ∷ []) t v r
    → TakenString output (92 ∷ c ∷ t) v r
escaped_taken output c t v r i h (w, a, b, k) = (
  c ∷ w,
  rw i (ap (λ y. 92 ∷ c ∷ y) a),
  b ∙ append_assoc output (c ∷ []) w,
  (h, k),
)

sound_step : (output : List ℕ) (c : ℕ) (t v r : List ℕ)
    → (string_loop (output ++ c ∷ []) t ≡ Some (v, r) → TakenString (output ++ c ∷ []) t v r)
    → (string_escape output t ≡ Some (v, r) → TakenString output (92 ∷ t) v r)
    → string_loop output (c ∷ t) ≡ Some (v, r) → TakenString output (c ∷ t) v r
sound_step output c t v r loop escape e = elim (if_either (c == 92) _ _ (v, r) e) [
  | inl (i, a) ↦
      subst (λ y. TakenString output (y ∷ t) v r) (sym (eqb-true c 92 i)) (escape a)
  | inr (i, a) ↦ elim (if_either (c == 34) _ _ (v, r) a) [
    | inl (j, b) ↦
        let k = some_pair output v t r b in
        ([], ap₂ (λ x y. x ∷ y) (eqb-true c 34 j) k.1, sym k.0 ∙ sym (append-nil output), tt)
    | inr (j, b) ↦
        let (u, k) = if_not (is_unprintable c) _ (v, r) b in
        plain_taken output c t v r (not_escaped c i j) (visible_not c u) (loop k)
  ]
]

escape_step : (output : List ℕ) (c : ℕ) (t v r : List ℕ)
    → (string_loop (output ++ c ∷ []) t ≡ Some (v, r) → TakenString (output ++ c ∷ []) t v r)
    → string_escape output (c ∷ t) ≡ Some (v, r) → TakenString output (92 ∷ c ∷ t) v r
escape_step output c t v r loop e =
    let (i, k) = if_so (needs_escape c) _ (v, r) e in
    escaped_taken output c t v r (escape_is c i) (escape_visible c i) (loop k)

mutual
  string_sound : (output t v r : List ℕ) → string_loop output t ≡ Some (v, r)
      → TakenString output t v r
  string_sound output [] v r e = absurd cc
  string_sound output (c ∷ t) v r e =
      sound_step output c t v r (string_sound (output ++ c ∷ []) t v r) (escape_sound output t v r)
      e

  escape_sound : (output t v r : List ℕ) → string_escape output t ≡ Some (v, r)
      → TakenString output (92 ∷ t) v r
  escape_sound output [] v r e = absurd cc
  escape_sound output (c ∷ t) v r e =
      escape_step output c t v r (string_sound (output ++ c ∷ []) t v r) e

-- a round of the loop by its three tests
abbrev string_round : Bool → Bool → Bool → List ℕ → ℕ → Parse (List ℕ)
string_round x y z output c t = elim x [
  | true ↦ string_escape output t
  | false ↦ elim y [
    | true ↦ Some (output, t)
    | false ↦ elim z [ true ↦ None | false ↦ string_loop (output ++ c ∷ []) t ]
  ]
]

round_is : (output : List ℕ) (c : ℕ) (t : List ℕ)
    → string_loop output (c ∷ t)
    ≡ string_round (c == 92) (c == 34) (is_unprintable c) output c t
round_is output c t = refl

escape_round : (output : List ℕ) (c : ℕ) (t : List ℕ)
    → string_escape output (c ∷ t)
    ≡ (elim (needs_escape c) [ false ↦ None | true ↦ string_loop (output ++ c ∷ []) t ])
escape_round output c t = refl

-- what is spelled the loop takes
string_whole : (output w r : List ℕ) → Every is_visible w
    → string_loop output (escaped w ++ 34 ∷ r) ≡ Some (output ++ w, r)
string_whole output [] r h = ap (λ y. Some (y, r)) (sym (append-nil output))
string_whole output (c ∷ w) r h =
    go (is_escaped c) refl (string_whole (output ++ c ∷ []) w r h.1)
  where
    go : (x : Bool) → is_escaped c ≡ x
        → string_loop (output ++ c ∷ []) (escaped w ++ 34 ∷ r) ≡ Some ((output ++ c ∷ []) ++ w, r)
        → string_loop output (escaped (c ∷ w) ++ 34 ∷ r) ≡ Some (output ++ c ∷ w, r)
    go true i ih = rw i (rw (escape_round output c (escaped w ++ 34 ∷ r), is_needed c i)
        (ih ∙ ap (λ y. Some (y, r)) (append_assoc output (c ∷ []) w)))
    go false i ih = rw i (rw (round_is output c (escaped w ++ 34 ∷ r), not_backslash c i, not_quote c i, not_visible c h.0)
        (ih ∙ ap (λ y. Some (y, r)) (append_assoc output (c ∷ []) w)))

strings_sound : (t r v : List ℕ) → parse_string t ≡ Some (v, r)
    → (prefix : List ℕ) × (t ≡ prefix ++ r) × SpellsString prefix v
strings_sound [] r v e = absurd cc
strings_sound (c ∷ t) r v e =
    let (i, j) = if_so (c == 34) _ (v, r) e in
    let k = string_sound [] t v r j in (
      34 ∷ (escaped k.0 ++ 34 ∷ []),
      ap₂ (λ x y. x ∷ y) (eqb-true c 34 i) (k.1 ∙ sym (append_assoc (escaped k.0) (34 ∷ []) r)),
      (
        ap (λ y. 34 ∷ (escaped y ++ 34 ∷ [])) (sym k.2),
        subst (Every is_visible) (sym k.2) k.3,
      ),
    )

strings_whole : (t r v : List ℕ) → SpellsString t v
    → first_is (λ c. false) r ≡ false → parse_string (t ++ r) ≡ Some (v, r)
strings_whole t r v h f = rw h.0 (rw (append_assoc (escaped v) (34 ∷ []) r)
    (string_whole [] v r h.1))

pub strings_agree : StringsAgree
strings_agree = record { sound = strings_sound; whole = strings_whole }
