-- Parsing Items, Inner Lists and members.
use Rattle.std.proofs.Common.{◌≡◌, ℕ, Bool, true, false, ◌||◌, ◌==◌}
use Rattle.std.proofs.Common.{List, [], ◌∷◌, ◌++◌, Option, Some, None, refl, sym, ap}
use Rattle.std.proofs.Common.{◌∙◌, subst, append_assoc, arith}
use Rattle.std.proofs.lemmas.Bool.Decides.{nat_tests}
use Rattle.sf_value.specs.declared.dialect.Dialect.{Dialect}
use Rattle.sf_value.specs.declared.dialect.Dialect.TheVariants.{Rfc8941, Rfc9651}
use Rattle.sf_value.specs.declared.value.Bare.{Bare}
use Rattle.sf_value.specs.declared.value.Item.{Item}
use Rattle.sf_value.specs.Grammar.Classes.{is_in_token}
use Rattle.sf_value.specs.Grammar.Pairs.{Pairs}
use Rattle.sf_value.specs.Grammar.BareItems.{SpellsBare}
use Rattle.sf_value.specs.Grammar.Parameters.{SpellsParams}
use Rattle.sf_value.specs.Grammar.Items.{item, SpellsItem}
use Rattle.sf_rfc.specs.Rfc9651.Words.{and_then, first_is}
use Rattle.sf_rfc.specs.Rfc9651.Alphabets.{is_DIGIT, can_start_token}
use Rattle.sf_rfc.specs.Rfc9651.ParsingBare.{parse_bare, parse_added}
use Rattle.sf_rfc.specs.Rfc9651.Parsing.{parse_params, parse_item}
use Rattle.sf_rfc.specs.ParsingLaws.{is_in_params, ItemsAgree}
use Rattle.sf_rfc.proofs.ParsingBareItems.{bare_items_agree, first_less}
use Rattle.sf_rfc.proofs.ParsingParameters.{parameters_agree, is_value_or_key, raw_first}
use Rattle.sf_rfc.proofs.ParsingSteps.{never, some_pair, and_then_cases}

-- what no bare item begins with: SP, HTAB, ",", ")" and "("
abbrev pub is_no_start : ℕ → Bool
is_no_start c = c == 32 || (c == 9 || (c == 44 || (c == 41 || c == 40)))

no_start : (c : ℕ) → is_no_start c ≡ true
    → ((c == 45 || is_DIGIT c) ≡ false) × ((c == 34) ≡ false) × (can_start_token c ≡ false)
    × ((c == 58) ≡ false) × ((c == 63) ≡ false) × ((c == 64) ≡ false) × ((c == 37) ≡ false)
no_start c h = (
  grind (arith, nat_tests),
  grind (arith, nat_tests),
  grind (arith, nat_tests),
  grind (arith, nat_tests),
  grind (arith, nat_tests),
  grind (arith, nat_tests),
  grind (arith, nat_tests),
)

no_added : (d : Dialect) (c : ℕ) (t : List ℕ) → is_no_start c ≡ true → parse_added d (c ∷ t) ≡ None
no_added Rfc8941 c t h = refl
no_added Rfc9651 c t h =
    let (n, q, s, b, v, a, p) = no_start c h in
    rw (a, p, parse_added) refl

no_bare : (d : Dialect) (c : ℕ) (t : List ℕ) → is_no_start c ≡ true → parse_bare d (c ∷ t) ≡ None
no_bare d c t h =
    let (n, q, s, b, v, a, p) = no_start c h in
    rw (n, q, s, b, v, parse_bare) (no_added d c t h)

none_bare : (d : Dialect) → parse_bare d [] ≡ None
none_bare Rfc8941 = refl
none_bare Rfc9651 = refl

clash : {A P : Type 0} (o : Option A) (a : A) → o ≡ None → o ≡ Some a → P
clash o a e f = never a (sym e ∙ f)

module _ (d : Dialect) where
  bare_start : (t : List ℕ) (x : Bare) → SpellsBare d t x
      → (c : ℕ) × (u : List ℕ) × (t ≡ c ∷ u) × (is_no_start c ≡ false)
  bare_start [] x s =
      clash (parse_bare d []) (x, []) (none_bare d) ((bare_items_agree d).whole [] [] x s refl)
  bare_start (c ∷ t) x s = go (is_no_start c) refl
    where
      go : (b : Bool) → is_no_start c ≡ b
          → (a : ℕ) × (u : List ℕ) × (c ∷ t ≡ a ∷ u) × (is_no_start a ≡ false)
      go false i = (c, t, refl, i)
      go true i =
          clash (parse_bare d (c ∷ (t ++ []))) (x, []) (no_bare d c (t ++ []) i)
          ((bare_items_agree d).whole (c ∷ t) [] x s refl)

  pub item_start : (t : List ℕ) (i : Item) → SpellsItem d t i
      → (c : ℕ) × (u : List ℕ) × (t ≡ c ∷ u) × (is_no_start c ≡ false)
  item_start t i (prefix, suffix, e, b, p) =
      let (c, u, j, h) = bare_start prefix i.bare b in
      (c, u ++ suffix, e ∙ ap (λ y. y ++ suffix) j, h)

  -- Items
  item_sound : (t r : List ℕ) (i : Item) → parse_item d t ≡ Some (i, r)
      → (prefix : List ℕ) × (t ≡ prefix ++ r) × SpellsItem d prefix i
  item_sound t r i e =
      let (p, a, b) = and_then_cases (parse_bare d t) _ (i, r) e in
      let (q, f, g) = and_then_cases (parse_params d p.1) _ (i, r) b in
      let k = some_pair (item p.0 q.0) i q.1 r g in
      let (x, j, s) = (bare_items_agree d).sound t p.1 p.0 a in
      let (y, m, u) = (parameters_agree d).sound p.1 q.1 q.0 f in (
        x ++ y,
        j ∙ ap (λ z. x ++ z) (m ∙ ap (λ z. y ++ z) k.1) ∙ sym (append_assoc x y r),
        subst (λ z. SpellsItem d (x ++ y) z) k.0 (x, y, refl, s, u),
      )

  pub params_first : (t r : List ℕ) (ps : Pairs Bare) → SpellsParams d t ps
      → first_is is_in_params r ≡ false → first_is is_value_or_key (t ++ r) ≡ false
  params_first t r ps (raw, e, s) f = raw_first d t r raw s f

  in_token : (c : ℕ) → is_value_or_key c ≡ false → is_in_token c ≡ false
  in_token c h = grind (arith, nat_tests)

  item_read : (x y r : List ℕ) (i : Item) → SpellsBare d x i.bare → SpellsParams d y i.params
      → first_is is_in_params r ≡ false → parse_item d (x ++ (y ++ r)) ≡ Some (i, r)
  item_read x y r i s u f =
      let h = first_less is_in_token is_value_or_key in_token (y ++ r)
      (params_first y r i.params u f) in
      let a : parse_bare d (x ++ (y ++ r)) ≡ Some (i.bare, y ++ r) =
      (bare_items_agree d).whole x (y ++ r) i.bare s h in
      let b : parse_params d (y ++ r) ≡ Some (i.params, r) =
      (parameters_agree d).whole y r i.params u f in
      ap (λ z. and_then z behind) a ∙ ap (λ z. and_then z (last i.bare)) b
    where
      last : Bare → Pairs Bare × List ℕ → Option (Item × List ℕ)
      last x q = Some (item x q.0, q.1)

      behind : Bare × List ℕ → Option (Item × List ℕ)
      behind p = and_then (parse_params d p.1) (λ q. last p.0 q)

  item_whole : (t r : List ℕ) (i : Item) → SpellsItem d t i → first_is is_in_params r ≡ false
      → parse_item d (t ++ r) ≡ Some (i, r)
  item_whole t r i (x, y, e, s, u) f =
      ap (λ z. parse_item d z) (ap (λ z. z ++ r) e ∙ append_assoc x y r) ∙ item_read x y r i s u f

pub items_agree : ItemsAgree
items_agree d = record { sound = item_sound d; whole = item_whole d }
