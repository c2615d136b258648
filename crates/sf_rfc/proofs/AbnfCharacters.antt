-- The classes of characters of the grammar keep to the rules of the ABNF.
use Rattle.std.proofs.Common.{◌≡◌, ℕ, ◌+◌, ◌<◌, ◌≤◌, Bool, true, false, ◌==◌, ◌||◌}
use Rattle.std.proofs.Common.{List, [], ◌∷◌, length, refl, sym, ap, inl, inr}
use Rattle.std.proofs.Common.{⊎_elim, true≢false, eqb-true, arith}
use Rattle.std.specs.Prelude.{if◌then◌else◌, nat_lt, codes}
use Rattle.std.proofs.lemmas.Bool.{or_cases}
use Rattle.std.proofs.lemmas.Bool.Decides.{nat_tests}
use Rattle.sf_value.specs.Grammar.Words.{Every}
use Rattle.sf_value.specs.Grammar.Classes.{is_one_of, is_sp, is_ows, is_digit, is_lower, is_alpha}
use Rattle.sf_value.specs.Grammar.Classes.{is_key_start, is_in_key, is_tchar, is_token_start}
use Rattle.sf_value.specs.Grammar.Classes.{is_in_token}
use Rattle.sf_value.specs.Grammar.DisplayStrings.{hex}
use Rattle.sf_value.specs.Grammar.ByteSequences.{letter}
use Rattle.sf_value.proofs.Tables.{each_below}
use Rattle.sf_rfc.specs.Rfc9651.AbnfNotation.{Rule, text, either, one_of, times, many, some}
use Rattle.sf_rfc.specs.Rfc9651.AbnfNotation.{ALPHA, DIGIT, SP, HTAB, OWS, tchar}
use Rattle.sf_rfc.specs.Rfc9651.Abnf.{lcalpha, lc_hexdig}

-- a character that passes the test keeps to the rule
abbrev pub Rules : (ℕ → Bool) → Rule → Type 0
Rules p R = (c : ℕ) → p c ≡ true → R (c ∷ [])

-- p or q, in the order of the rules P and Q
rules_either : (p q : ℕ → Bool) (P Q : Rule) → Rules p P → Rules q Q
    → Rules (λ c. p c || q c) (either P Q)
rules_either p q P Q f g c h =
    ⊎_elim (λ k. inl (f c k)) (λ k. inr (g c k)) (or_cases (p c) (q c) h)

-- the same of three
rules_three : (p q r : ℕ → Bool) (P Q R : Rule) → Rules p P → Rules q Q → Rules r R
    → Rules (λ c. (p c || q c) || r c) (either P (either Q R))
rules_three p q r P Q R f g h c k =
    ⊎_elim
    (λ x. ⊎_elim (λ y. inl (f c y)) (λ y. inr (inl (g c y))) (or_cases (p c) (q c) x))
    (λ x. inr (inr (h c x))) (or_cases (p c || q c) (r c) k)

is_text : (c x : ℕ) → (c == x) ≡ true → text (x ∷ []) (c ∷ [])
is_text c x h = ap (λ y. y ∷ []) (eqb-true c x h)

rules_one_of : (cs : List ℕ) → Rules (is_one_of cs) (one_of cs)
rules_one_of [] c h = absurd (true≢false (sym h))
rules_one_of (x ∷ cs) c h =
    ⊎_elim (λ k. inl (is_text c x k)) (λ k. inr (rules_one_of cs c k))
    (or_cases (c == x) (is_one_of cs c) h)

pub digit : Rules is_digit DIGIT
digit c h = (c, refl, grind (arith, nat_tests), grind (arith, nat_tests))

lower : Rules is_lower lcalpha
lower c h = (c, refl, grind (arith, nat_tests), grind (arith, nat_tests))

alpha : Rules is_alpha ALPHA
alpha c h =
    ⊎_elim (λ k. inr (lower c k))
    (λ k. inl (c, refl, grind (arith, nat_tests), grind (arith, nat_tests)))
    (or_cases (is_lower c) _ h)

pub key_start : Rules is_key_start (either lcalpha (text (codes "*")))
key_start =
    rules_either is_lower (λ c. c == 42) lcalpha (text (codes "*")) lower (λ c k. is_text c 42 k)

pub in_key : Rules is_in_key (either lcalpha (either DIGIT (one_of (codes "_-.*"))))
in_key =
    rules_three is_lower is_digit (is_one_of (codes "_-.*")) lcalpha DIGIT (one_of (codes "_-.*"))
    lower digit (rules_one_of (codes "_-.*"))

in_tchar : Rules is_tchar tchar
in_tchar c h =
    ⊎_elim
    (λ k. ⊎_elim (λ x. inr (inr (alpha c x))) (λ x. inr (inl (digit c x)))
    (or_cases (is_alpha c) (is_digit c) k))
    (λ k. inl (rules_one_of (codes "!#$%&'*+-.^_`|~") c k))
    (or_cases (is_alpha c || is_digit c) (is_one_of (codes "!#$%&'*+-.^_`|~") c) h)

pub token_start : Rules is_token_start (either ALPHA (text (codes "*")))
token_start =
    rules_either is_alpha (λ c. c == 42) ALPHA (text (codes "*")) alpha (λ c k. is_text c 42 k)

pub in_token : Rules is_in_token (either tchar (either (text (codes ":")) (text (codes "/"))))
in_token =
    rules_three is_tchar (λ c. c == 58) (λ c. c == 47) tchar (text (codes ":")) (text (codes "/"))
    in_tchar (λ c k. is_text c 58 k) (λ c k. is_text c 47 k)

-- the characters of base64
abbrev pub base64_char : Rule
base64_char = either ALPHA (either DIGIT (either (text (codes "+")) (text (codes "/"))))

abbrev pub is_base64 : ℕ → Bool
is_base64 c = is_alpha c || is_digit c || is_one_of (codes "+/") c

pub in_base64 : Rules is_base64 base64_char
in_base64 c h =
    ⊎_elim
    (λ k. ⊎_elim (λ x. inl (alpha c x)) (λ x. inr (inl (digit c x)))
    (or_cases (is_alpha c) (is_digit c) k))
    (λ k. ⊎_elim (λ x. inr (inr (inl x))) (λ x. ⊎_elim (λ y. inr (inr (inr y))) (λ y. absurd y) x)
    (rules_one_of (codes "+/") c k))
    (or_cases (is_alpha c || is_digit c) (is_one_of (codes "+/") c) h)

pub a_letter : (x : ℕ) → x < 64 → base64_char (letter x ∷ [])
unfolding letter
a_letter x h = in_base64 (letter x) (each_below 64 (λ y. is_base64 (letter y)) refl x h)

pub hex_digit : (x : ℕ) → x < 16 → lc_hexdig (hex x ∷ [])
hex_digit x h = go (nat_lt x 10) refl
  where
    go : (b : Bool) → nat_lt x 10 ≡ b → lc_hexdig ((if b then x + 48 else x + 87) ∷ [])
    go true e = inl (x + 48, refl, omega arith, grind (arith, nat_tests))
    go false e = inr (x + 87, refl, grind (arith, nat_tests), omega arith)

-- characters that all pass
pub every_times : (p : ℕ → Bool) (R : Rule) → Rules p R → (w : List ℕ) → Every p w
    → times (length w) R w
every_times p R f [] h = refl
every_times p R f (c ∷ w) h = (c ∷ [], w, refl, f c h.0, every_times p R f w h.1)

pub every_many : (p : ℕ → Bool) (R : Rule) → Rules p R → (w : List ℕ) → Every p w → many R w
every_many p R f w h = (length w, every_times p R f w h)

pub spaces : (w : List ℕ) → Every is_sp w → many SP w
spaces w h = every_many is_sp SP (λ c k. is_text c 32 k) w h

pub some_spaces : (w : List ℕ) → 1 ≤ length w → Every is_sp w → some SP w
some_spaces w l h = (length w, l, every_times is_sp SP (λ c k. is_text c 32 k) w h)

pub white_space : (w : List ℕ) → Every is_ows w → OWS w
white_space w h =
    every_many is_ows (either SP HTAB)
    (rules_either (λ c. c == 32) (λ c. c == 9) SP HTAB (λ c k. is_text c 32 k)
    (λ c k. is_text c 9 k)) w h
