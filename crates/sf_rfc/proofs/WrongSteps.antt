-- Algorithms with a wrong step do not agree with the grammar, whatever else they do: one that takes
-- a digit as a key, one that takes a Decimal with four digits after its point, and one that
-- discards HTAB before an Item.
use Rattle.std.proofs.Common.{◌≡◌, ℕ, ℤ, pos, ◌≤◌, Bool, true, false, ◌==◌, List, [], ◌∷◌}
use Rattle.std.proofs.Common.{◌++◌, length, Option, Some, drop, get_or, sym, ap, ◌∙◌, inl, inr}
use Rattle.std.proofs.Common.{true≢false}
use Rattle.std.proofs.Common.{append-nil, append_assoc, arith, ◌↔◌}
use Rattle.std.specs.Prelude.{codes}
use Rattle.std.proofs.lemmas.Bool.Decides.{nat_tests}
use Rattle.sf_value.specs.declared.dialect.Dialect.{Dialect}
use Rattle.sf_value.specs.declared.dialect.Dialect.TheVariants.{Rfc9651}
use Rattle.sf_value.specs.declared.value.Bare.{Bare}
use Rattle.sf_value.specs.declared.value.Bare.TheVariants.{Integer, Decimal}
use Rattle.sf_value.specs.declared.value.Field.{Field}
use Rattle.sf_value.specs.declared.value.Field.TheVariants as field
use Rattle.sf_value.specs.declared.value.Kind.{Kind}
use Rattle.sf_value.specs.declared.value.Kind.TheVariants as kind
use Rattle.sf_value.specs.Grammar.Words.{Every}
use Rattle.sf_value.specs.Grammar.Classes.{is_digit, is_sp, is_key_start, is_in_key}
use Rattle.sf_value.specs.Grammar.Numbers.{sign}
use Rattle.sf_value.specs.Grammar.Tokens.{SpellsWord}
use Rattle.sf_value.specs.Grammar.Fields.{SpellsField}
use Rattle.sf_rfc.specs.Rfc9651.Words.{Parse}
use Rattle.sf_rfc.specs.ParsingLaws.{Agrees, SpellsNumber, is_in_number}

-- a key that begins with a digit
digit_key : (f : Parse (List ℕ)) → f (codes "1") ≡ Some (codes "1", [])
    → Agrees (List ℕ) (SpellsWord is_key_start is_in_key) f is_in_key → ⊥
digit_key f e k =
    let (prefix, g, (h, (start, more))) = k.sound (codes "1") [] (codes "1") e in
    true≢false (sym start)

-- a Decimal with four digits after its point, whatever its value
four_digits : (neg : Bool) (w f : List ℕ) → Every is_digit w → 1 ≤ length w → length f ≤ 3
    → codes "1.2345" ≡ sign neg ++ (w ++ 46 ∷ f) → ⊥
four_digits true w f h l m e = true≢false (ap (λ t. get_or t 0 0 == 49) e)
four_digits false [] f h l m e = let none : ⊥ = omega arith in none
four_digits false (a ∷ []) f h l m e =
    let c : 4 ≡ length f = ap (λ t. length (drop 2 t)) e in
    let none : ⊥ = omega arith in none
four_digits false (a ∷ b ∷ w) f h l m e =
    let c : 46 ≡ b = ap (λ t. get_or t 1 0) e in
    let d : is_digit b ≡ true = h.1.0 in
    let none : ⊥ = grind (arith, nat_tests) in none

is_decimal : Bare → Bool
is_decimal (Decimal m) = true
is_decimal x = false

not_spelled : (x : ℤ) (prefix : List ℕ) → codes "1.2345" ≡ prefix ++ []
    → SpellsNumber prefix (Decimal x) → ⊥
unfolding is_decimal
not_spelled x prefix e (inl (n, f, s)) = true≢false (ap is_decimal f)
not_spelled x prefix e (inr (m, f, (neg, w, u, g, k, j, v))) =
    four_digits neg w u k.each (let a = k.enough in omega arith) (let a = j.fits in omega arith)
    (e ∙ append-nil prefix ∙ g)

long_decimal : (f : Parse Bare) (x : ℤ) → f (codes "1.2345") ≡ Some (Decimal x, [])
    → Agrees Bare SpellsNumber f is_in_number → ⊥
long_decimal f x e k =
    let (prefix, g, s) = k.sound (codes "1.2345") [] (Decimal x) e in not_spelled x prefix g s

-- HTAB before an Item
abbrev five : Field
five = field.Item (record { bare = Integer (pos 5); params = [] })

no_digit : (neg : Bool) (w u : List ℕ) → Every is_digit w → 1 ≤ length w
    → 9 ∷ 53 ∷ [] ≡ (sign neg ++ w) ++ u → ⊥
no_digit true w u h l e = true≢false (ap (λ t. get_or t 0 0 == 9) e)
no_digit false [] u h l e = let none : ⊥ = omega arith in none
no_digit false (a ∷ w) u h l e =
    let c : 9 ≡ a = ap (λ t. get_or t 0 0) e in
    let d : is_digit a ≡ true = h.0 in
    let none : ⊥ = grind (arith, nat_tests) in none

tab_item : SpellsField Rfc9651 kind.Item (9 ∷ 53 ∷ []) five → ⊥
tab_item ([], body, tail, e, g, (prefix, suffix, f, (neg, w, q, k, v), s), z) =
    no_digit neg w (suffix ++ tail) k.each (let a = k.enough in omega arith)
    (e ∙ ap (λ y. y ++ tail) (f ∙ ap (λ y. y ++ suffix) q)
    ∙ append_assoc (sign neg ++ w) suffix tail)
tab_item (c ∷ gap, body, tail, e, g, h, z) =
    let a : 9 ≡ c = ap (λ t. get_or t 0 0) e in
    let d : is_sp c ≡ true = g.0 in
    let none : ⊥ = grind (arith, nat_tests) in none

discarded_tab : (f : Dialect → Kind → List ℕ → Option Field)
    → f Rfc9651 kind.Item (9 ∷ 53 ∷ []) ≡ Some five
    → ((d : Dialect) (k : Kind) (t : List ℕ) (v : Field) → (f d k t ≡ Some v) ↔ SpellsField d k t v)
    → ⊥
discarded_tab f e k = tab_item ((k Rfc9651 kind.Item (9 ∷ 53 ∷ []) five).0 e)
