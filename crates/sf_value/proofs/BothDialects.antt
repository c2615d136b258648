-- What a text spells in the dialect of RFC 8941 it spells in that of RFC 9651.
use Rattle.std.proofs.Common.{◌≡◌, ℕ, false, true, List, [], ◌∷◌, inl, inr}
use Rattle.sf_value.specs.declared.value.Member.TheVariants as member
use Rattle.sf_value.specs.declared.value.Field.TheVariants as field
use Rattle.sf_value.specs.declared.value.Kind.TheVariants as kind
use Rattle.sf_value.specs.Grammar.Pairs.{Pairs}
use Rattle.sf_value.specs.Grammar.BareItems.{SpellsBare}
use Rattle.sf_value.specs.Grammar.Parameters.{SpellsValue, SpellsRaw, SpellsParams}
use Rattle.sf_value.specs.Grammar.Items.{SpellsItem}
use Rattle.sf_value.specs.Grammar.InnerLists.{SpellsItems, SpellsMember}
use Rattle.sf_value.specs.Grammar.Series.{SpellsCommas, SpellsWhole}
use Rattle.sf_value.specs.Grammar.Fields.{SpellsEntry, SpellsField}
use Rattle.sf_value.specs.declared.dialect.Dialect.TheVariants.{Rfc8941, Rfc9651}
use Rattle.sf_value.specs.declared.value.Bare.{Bare}
use Rattle.sf_value.specs.declared.value.Bare.TheVariants.{Date, Shown}
use Rattle.sf_value.specs.declared.value.Item.{Item}
use Rattle.sf_value.specs.declared.value.Member.{Member}
use Rattle.sf_value.specs.declared.value.Field.{Field}
use Rattle.sf_value.specs.declared.value.Kind.{Kind}

bare_both : (t : List ℕ) (x : Bare) → SpellsBare Rfc8941 t x → SpellsBare Rfc9651 t x
bare_both t (Date n) (on, h) = let never : false ≡ true = on in cc
bare_both t (Shown s) (on, h) = let never : false ≡ true = on in cc
bare_both t x h = h

value_both : (t : List ℕ) (x : Bare) → SpellsValue Rfc8941 t x → SpellsValue Rfc9651 t x
value_both t x (inl h) = inl h
value_both t x (inr (suffix, e, h)) = inr (suffix, e, bare_both suffix x h)

raw_both : (t : List ℕ) (ps : Pairs Bare) → SpellsRaw Rfc8941 t ps → SpellsRaw Rfc9651 t ps
raw_both t [] h = h
raw_both t (p ∷ ps) (prefix, suffix, e, (gap, value, e1, f, k, h), r) =
    (prefix, suffix, e, (gap, value, e1, f, k, value_both value p.1 h), raw_both suffix ps r)

params_both : (t : List ℕ) (ps : Pairs Bare) → SpellsParams Rfc8941 t ps → SpellsParams Rfc9651 t ps
params_both t ps (raw, e, h) = (raw, e, raw_both t raw h)

item_both : (t : List ℕ) (i : Item) → SpellsItem Rfc8941 t i → SpellsItem Rfc9651 t i
item_both t i (prefix, suffix, e, h, k) =
    (prefix, suffix, e, bare_both prefix i.bare h, params_both suffix i.params k)

items_both : (least : ℕ) (t : List ℕ) (is : List Item) → SpellsItems Rfc8941 least t is
    → SpellsItems Rfc9651 least t is
items_both least t [] h = h
items_both least t (i ∷ is) (gap, prefix, suffix, e, f, l, h, r) =
    (gap, prefix, suffix, e, f, l, item_both prefix i h, items_both 1 suffix is r)

member_both : (t : List ℕ) (m : Member) → SpellsMember Rfc8941 t m → SpellsMember Rfc9651 t m
member_both t (member.Item i) h = item_both t i h
member_both t (member.Inner l) (body, suffix, e, h, k) =
    (body, suffix, e, items_both 0 body l.items h, params_both suffix l.params k)

entry_both : (t : List ℕ) (p : List ℕ × Member) → SpellsEntry Rfc8941 t p → SpellsEntry Rfc9651 t p
entry_both t p (suffix, k, inl (e, h)) = (suffix, k, inl (e, member_both suffix p.1 h))
entry_both t p (suffix, k, inr (ps, i, e, h)) = (suffix, k, inr (ps, i, e, params_both suffix ps h))

module _ {X : Type 0} (P Q : List ℕ → X → Type 0) (both : (t : List ℕ) (x : X) → P t x
    → Q t x) where
  commas_both : (t : List ℕ) (xs : List X) → SpellsCommas P t xs → SpellsCommas Q t xs
  commas_both t [] h = h
  commas_both t (x ∷ xs) (before, behind, prefix, suffix, e, f, g, h, r) =
      (before, behind, prefix, suffix, e, f, g, both prefix x h, commas_both suffix xs r)

  whole_both : (t : List ℕ) (xs : List X) → SpellsWhole P t xs → SpellsWhole Q t xs
  whole_both t [] h = h
  whole_both t (x ∷ xs) (gap, body, tail, e, f, (prefix, suffix, e1, h, r), g) =
      (gap, body, tail, e, f, (prefix, suffix, e1, both prefix x h, commas_both suffix xs r), g)

pub field_both : (k : Kind) (t : List ℕ) (v : Field) → SpellsField Rfc8941 k t v
    → SpellsField Rfc9651 k t v
field_both kind.Item t (field.Item i) (gap, body, tail, e, f, h, g) =
    (gap, body, tail, e, f, item_both body i h, g)
field_both kind.List t (field.List l) h =
    whole_both (SpellsMember Rfc8941) (SpellsMember Rfc9651) member_both t l.members h
field_both kind.Dict t (field.Dict m) (raw, e, h) =
    (raw, e, whole_both (SpellsEntry Rfc8941) (SpellsEntry Rfc9651) entry_both t raw h)
field_both k t v h = elim h [ ]
