-- Lines that are accepted one by one, and the text that they are together.
use Rattle.std.proofs.Common.{◌≡◌, ◌≢◌, ℕ, ◌+◌, ◌*◌, ◌≤◌, ◌⊎◌, inl, inr, true, List, []}
use Rattle.std.proofs.Common.{◌∷◌, ◌++◌, length, map, Result, refl, sym, ap, ◌∙◌}
use Rattle.std.proofs.Common.{subst, arith, append_assoc, length-append}
use Rattle.std.specs.Str.Lines.{lines}
use Rattle.sf_value.specs.declared.dialect.Dialect.{Dialect}
use Rattle.sf_value.specs.declared.value.Field.{Field}
use Rattle.sf_value.specs.declared.value.Field.TheVariants as field
use Rattle.sf_value.specs.declared.value.Kind.{Kind}
use Rattle.sf_value.specs.declared.value.Kind.TheVariants as kind
use Rattle.sf_value.specs.Grammar.Words.{Every}
use Rattle.sf_value.specs.Grammar.Classes.{is_sp, is_ows}
use Rattle.sf_value.specs.Grammar.Pairs.{settle}
use Rattle.sf_value.specs.Grammar.Fields.{SpellsField, SpellsEntry, kind_of, list_of, dict_of}
use Rattle.sf_value.specs.Grammar.InnerLists.{SpellsMember}
use Rattle.sf_value.specs.Grammar.Lines.{join}
use Rattle.sf_value.specs.Grammar.Series.{SpellsCommas, SpellsWhole}
use Rattle.sf_parse.specs.declared.refusal.Refusal.{Refusal}
use Rattle.sf_value.proofs.Words.{every_map}
use Rattle.sf_parse.specs.Parsers.{IsOnly, Parses}
use Rattle.sf_parse.proofs.Machine.Series.{sp_ows}
use Rattle.sf_view.proofs.Members.{only_of}
use Rattle.sf_field.specs.Lines.{ParsesLines}
use Rattle.sf_field.proofs.Feeding as fed
use Rattle.sf_field.proofs.OneText.{parsed_lines}
use Rattle.sf_tool.specs.Lines.{trim, lines_of}
use Rattle.sf_tool.specs.Run.{joined, input_limit}
use Rattle.sf_tool.specs.Scanning.{SpellsSome, SpellsMembers, StopsAt}

module _ {X : Type 0} (P : List ℕ → X → Type 0) where
  commas_append : (s before behind f r : List ℕ) (xs : List X) (y : X) (ys : List X)
      → SpellsCommas P s xs → Every is_ows before → Every is_ows behind → P f y
      → SpellsCommas P r ys
      → SpellsCommas P (s ++ (before ++ 44 ∷ (behind ++ (f ++ r)))) (xs ++ y ∷ ys)
  commas_append s before behind f r [] y ys e a b h c = (
    before,
    behind,
    f,
    r,
    ap (λ z. z ++ (before ++ 44 ∷ (behind ++ (f ++ r)))) e,
    a,
    b,
    h,
    c,
  )
  commas_append s before behind f r (x ∷ xs) y ys (v, w, g, suffix, e, sv, sw, k, q) a b h c =
      let z = before ++ 44 ∷ (behind ++ (f ++ r)) in (
        v,
        w,
        g,
        suffix ++ z,
        ap (λ l. l ++ z) e
            ∙ append_assoc v (44 ∷ (w ++ (g ++ suffix))) z
            ∙ ap (λ l. v ++ 44 ∷ l)
            (append_assoc w (g ++ suffix) z ∙ ap (λ l. w ++ l) (append_assoc g suffix z)),
        sv,
        sw,
        k,
        commas_append suffix before behind f r xs y ys q a b h c,
      )

  -- members, and further members after a comma and a space
  whole_join : (t u : List ℕ) (x y : X) (xs ys : List X) → SpellsWhole P t (x ∷ xs)
      → SpellsWhole P u (y ∷ ys) → SpellsWhole P (t ++ 44 ∷ 32 ∷ u) (x ∷ (xs ++ y ∷ ys))
  whole_join t u x y xs ys (g, b, w, e, s, (f, r, i, k, c), o)
      (g', b', w', e', s', (f', r', i', k', c'), o') =
      let more = w ++ 44 ∷ ((32 ∷ g') ++ (f' ++ r')) in
      let flat : (g ++ ((f ++ r) ++ w)) ++ 44 ∷ 32 ∷ (g' ++ ((f' ++ r') ++ w'))
      ≡ g ++ ((f ++ (r ++ more)) ++ w') = simp append_assoc in (
        g,
        f ++ (r ++ more),
        w',
        ap (λ z. z ++ 44 ∷ 32 ∷ u) (e ∙ ap (λ z. g ++ (z ++ w)) i)
            ∙ ap (λ z. (g ++ ((f ++ r) ++ w)) ++ 44 ∷ 32 ∷ z)
            (e' ∙ ap (λ z. g' ++ (z ++ w')) i')
            ∙ flat,
        s,
        (
          f,
          r ++ more,
          refl,
          k,
          commas_append r w (32 ∷ g') f' r' xs y ys c o (refl, every_map is_sp is_ows sp_ows g' s') k' c',
        ),
        o',
      )

  some_join : (t u : List ℕ) → SpellsSome P t → SpellsSome P u
      → SpellsSome P (t ++ 44 ∷ 32 ∷ u)
  some_join t u (x, xs, h) (y, ys, k) = (x, xs ++ y ∷ ys, whole_join t u x y xs ys h k)

members_join : (d : Dialect) (k : Kind) (t u : List ℕ) → SpellsMembers d k t → SpellsMembers d k u
    → SpellsMembers d k (t ++ 44 ∷ 32 ∷ u)
members_join d kind.Item t u h g = absurd h
members_join d kind.List t u h g = some_join (SpellsMember d) t u h g
members_join d kind.Dict t u h g = some_join (SpellsEntry d) t u h g

members_only : (d : Dialect) (k : Kind) (t : List ℕ) → SpellsMembers d k t
    → (v : Field) × IsOnly d k t v
members_only d kind.Item t h = absurd h
members_only d kind.List t (x, xs, h) =
    (list_of (x ∷ xs), only_of d kind.List t (list_of (x ∷ xs)) h)
members_only d kind.Dict t (x, xs, h) = (
  dict_of (settle (x ∷ xs)),
  only_of d kind.Dict t (dict_of (settle (x ∷ xs))) (x ∷ xs, refl, h),
)

-- no members
empty_only : (d : Dialect) (k : Kind) → k ≢ kind.Item → (v : Field) × IsOnly d k [] v
empty_only d kind.Item n = absurd (n refl)
empty_only d kind.List n = (list_of [], only_of d kind.List [] (list_of []) tt)
empty_only d kind.Dict n = (dict_of [], only_of d kind.Dict [] (dict_of []) ([], refl, tt))

-- no line was read; or what was read has members, and the lines of the rest come after it, at this
-- place of the joined text
abbrev pub HasRead : Dialect → Kind → List ℕ → List ℕ → ℕ → Type 0
HasRead d k input rest place =
    ((rest ≡ input) × (place ≡ 0))
    ⊎ ((p : List ℕ) × SpellsMembers d k p × (place ≡ length p + 2)
    × (joined input ≡ join (p ∷ lines_of rest)))

-- the lines of an input from the first on
pub first_of : (input line more text : List ℕ) → lines input ≡ line ∷ lines more
    → text ≡ trim line → lines_of input ≡ text ∷ lines_of more
first_of input line more text e t = ap (map trim) e ∙ ap (λ l. l ∷ lines_of more) (sym t)

-- two lines, joined as one
join_two : (p t : List ℕ) (ls : List (List ℕ))
    → join (p ∷ t ∷ ls) ≡ join ((p ++ 44 ∷ 32 ∷ t) ∷ ls)
join_two p t ls =
    ap (λ z. p ++ 44 ∷ 32 ∷ z) (fed.joined (t ∷ ls))
    ∙ sym (append_assoc p (44 ∷ 32 ∷ t) (fed.behind true ls))
    ∙ sym (fed.joined ((p ++ 44 ∷ 32 ∷ t) ∷ ls))

-- one more line was read
pub has_read_line : (d : Dialect) (k : Kind) (input rest line more text : List ℕ) (place : ℕ)
    → HasRead d k input rest place → lines rest ≡ line ∷ lines more → text ≡ trim line
    → SpellsMembers d k text → HasRead d k input more (place + (length text + 2))
has_read_line d k input rest line more text place (inl (e, z)) l t m =
    inr (
      text,
      m,
      omega (arith, z),
      ap joined (sym e) ∙ ap join (first_of rest line more text l t),
    )
has_read_line d k input rest line more text place (inr (p, h, n, e)) l t m =
    inr (
      p ++ 44 ∷ 32 ∷ text,
      members_join d k p text h m,
      omega (arith, n, length-append p (44 ∷ 32 ∷ text)),
      e
          ∙ ap (λ ls. join (p ∷ ls)) (first_of rest line more text l t)
          ∙ join_two p text (lines_of more),
    )

-- what was read is within the joined text
pub has_read_within : (d : Dialect) (k : Kind) (input rest : List ℕ) (place : ℕ)
    → HasRead d k input rest place → place ≤ length (joined input) + 2
has_read_within d k input rest place (inl (e, z)) = omega (arith, z)
has_read_within d k input rest place (inr (p, h, n, e)) =
    let left = fed.behind true (lines_of rest) in
    let whole : length (joined input) ≡ length (p ++ left) =
    ap length (e ∙ fed.joined (p ∷ lines_of rest)) in
    omega (arith, n, whole, length-append p left)

-- the next line is not accepted by itself
pub has_read_stops : (d : Dialect) (k : Kind) (input rest line more : List ℕ) (place : ℕ)
    → HasRead d k input rest place → lines rest ≡ line ∷ lines more
    → StopsAt d k input rest place
has_read_stops d k input rest line more place (inl (e, z)) l = inl z
has_read_stops d k input rest line more place (inr (p, h, n, e)) l =
    inr (record {
      text = p;
      line = trim line;
      more = lines_of more;
      members = h;
      place_is = n;
      left = ap (map trim) l;
      whole = e ∙ ap (λ ls. join (p ∷ map trim ls)) l;
    })

-- all lines were read
pub has_read_all : (d : Dialect) (k : Kind) (input rest : List ℕ) (place : ℕ) → k ≢ kind.Item
    → HasRead d k input rest place → lines rest ≡ [] → (v : Field) × IsOnly d k (joined input) v
has_read_all d k input rest place n (inl (e, z)) none =
    let P : List ℕ → Type 0 = λ t. (v : Field) × IsOnly d k t v in
    let empty : joined input ≡ [] = ap joined (sym e) ∙ ap (λ ls. join (map trim ls)) none in
    subst P (sym empty) (empty_only d k n)
has_read_all d k input rest place n (inr (p, h, m, e)) none =
    let P : List ℕ → Type 0 = λ t. (v : Field) × IsOnly d k t v in
    let whole : joined input ≡ p = e ∙ ap (λ ls. join (p ∷ map trim ls)) none in
    subst P (sym whole) (members_only d k p h)

-- a result for the joined text, which is short, is one for the lines
pub counted : (d : Dialect) (k : Kind) (ls : List (List ℕ)) (r : Result Field Refusal)
    → length (join ls) ≤ 3 * input_limit → Parses d k (join ls) r → ParsesLines d k ls r
counted d k ls r short = parsed_lines d k ls r (omega (arith, short))

-- the kind of a field that a text spells
pub kind_spelled : (d : Dialect) (k : Kind) (t : List ℕ) (v : Field) → SpellsField d k t v
    → kind_of v ≡ k
kind_spelled d kind.Item t (field.Item i) h = refl
kind_spelled d kind.List t (field.List l) h = refl
kind_spelled d kind.Dict t (field.Dict m) h = refl
kind_spelled d k t v h = absurd h
