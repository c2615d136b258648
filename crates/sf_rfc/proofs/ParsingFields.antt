-- Parsing whole fields.
use Rattle.std.specs.List.{list_all}
use Rattle.std.proofs.Common.{◌≡◌, ℕ, true, false, List, [], ◌∷◌, ◌++◌}
use Rattle.std.proofs.Common.{Option, Some, None, refl, sym, ap, ◌∙◌, subst, append_assoc, append-nil}
use Rattle.std.proofs.Common.{arith}
use Rattle.std.proofs.lemmas.Bool.Decides.{nat_tests}
use Rattle.sf_value.specs.declared.dialect.Dialect.{Dialect}
use Rattle.sf_value.specs.declared.value.Item.{Item}
use Rattle.sf_value.specs.declared.value.Member.{Member}
use Rattle.sf_value.specs.declared.value.Field.{Field}
use Rattle.sf_value.specs.declared.value.Field.TheVariants as field
use Rattle.sf_value.specs.declared.value.Kind.{Kind}
use Rattle.sf_value.specs.declared.value.Kind.TheVariants as kind
use Rattle.sf_value.specs.Grammar.Words.{Every}
use Rattle.sf_value.specs.Grammar.Classes.{is_sp, is_ows}
use Rattle.sf_value.specs.Grammar.Pairs.{Pairs}
use Rattle.sf_value.specs.Grammar.InnerLists.{SpellsMember}
use Rattle.sf_value.specs.Grammar.Series.{SpellsWhole}
use Rattle.sf_value.specs.Grammar.Fields.{list_of, dict_of, SpellsEntry, SpellsField}
use Rattle.sf_value.proofs.Runs.{every_append}
use Rattle.sf_value.proofs.TextBytes.{is_text, spelled_text}
use Rattle.sf_value.proofs.Words.{every_map}
use Rattle.sf_rfc.specs.Rfc9651.Words.{and_then, first_is, discard}
use Rattle.sf_rfc.specs.Rfc9651.Alphabets.{is_ascii, is_SP, is_OWS}
use Rattle.sf_rfc.specs.Rfc9651.Parsing.{parse_item, parse_list, parse_dictionary, parse_type}
use Rattle.sf_rfc.specs.Rfc9651.Parsing.{parse_end, parse_field}
use Rattle.sf_rfc.specs.ParsingLaws.{is_in_params, SpellsToEnd, FieldsAgree}
use Rattle.sf_rfc.proofs.ParsingParameters.{discarded, discard_gap}
use Rattle.sf_rfc.proofs.ParsingItems.{items_agree, item_start, is_no_start}
use Rattle.sf_rfc.proofs.ParsingInnerLists.{member_start}
use Rattle.sf_rfc.proofs.ParsingSeries.{Starts}
use Rattle.sf_rfc.proofs.ParsingLists.{lists_agree, dictionaries_agree, entry_start}
use Rattle.sf_rfc.proofs.ParsingSteps.{never, some_is, some_pair, and_then_cases, if_so}

text_ascii : (c : ℕ) → is_text c ≡ true → is_ascii c ≡ true
text_ascii c h = grind (arith, nat_tests)

sp_ows : (c : ℕ) → is_sp c ≡ true → is_ows c ≡ true
sp_ows c h = grind (arith, nat_tests)

sp_no_params : (c : ℕ) → is_sp c ≡ true → is_in_params c ≡ false
sp_no_params c h = grind (arith, nat_tests)

ows_no_sp : (c : ℕ) → is_OWS c ≡ false → is_SP c ≡ false
ows_no_sp c h = grind (arith, nat_tests)

start_no_sp : (c : ℕ) → is_no_start c ≡ false → is_SP c ≡ false
start_no_sp c h = grind (arith, nat_tests)

all_ascii : (t : List ℕ) → Every is_text t → list_all is_ascii t ≡ true
all_ascii [] h = refl
all_ascii (c ∷ t) h = rw (text_ascii c h.0, list_all) (all_ascii t h.1)

sp_first : (t : List ℕ) → Every is_sp t → first_is is_in_params t ≡ false
sp_first [] h = refl
sp_first (c ∷ t) h = sp_no_params c h.0

all_sp : (t : List ℕ) → Every is_sp t → discard is_SP t ≡ []
all_sp [] h = refl
all_sp (c ∷ t) h = rw (h.0, discard) (all_sp t h.1)

ows_after : (s t : List ℕ) → Every is_ows s → Every is_sp t → Every is_ows (s ++ t)
ows_after s t h k = every_append is_ows s t h (every_map is_sp is_ows sp_ows t k)

-- steps 6 to 8
end_cases : (f v : Field) (r : List ℕ) → parse_end (f, r) ≡ Some v → (f ≡ v) × Every is_sp r
end_cases f v r e =
    let (gap, i, g) = discarded is_SP r in
    go (discard is_SP r) refl gap i g
  where
    ended : List ℕ → Option Field
    ended w = elim w [ [] ↦ Some f | c ∷ t ↦ None ]

    go : (w : List ℕ) → discard is_SP r ≡ w → (gap : List ℕ) → r ≡ gap ++ discard is_SP r
        → Every is_sp gap → (f ≡ v) × Every is_sp r
    go [] j gap i g =
        let k : r ≡ gap = i ∙ ap (λ y. gap ++ y) j ∙ append-nil gap in
        let h : ◌≡◌ {A = Option Field} (Some f) (Some v) =
        subst (λ y. ended y ≡ Some v) j e in
        (some_is f v h, subst (Every is_sp) (sym k) g)
    go (c ∷ t) j gap i g =
        let h : ◌≡◌ {A = Option Field} None (Some v) =
        subst (λ y. ended y ≡ Some v) j e in
        never v h

end_read : (f : Field) (r : List ℕ) → Every is_sp r → parse_end (f, r) ≡ Some f
end_read f r h = rw (all_sp r h, parse_end) refl

-- what is left of a series is SP
whole_of : {X : Type 0} (P : List ℕ → X → Type 0) (t gap prefix r : List ℕ) (xs : List X)
    → t ≡ gap ++ (prefix ++ r) → Every is_sp gap → SpellsToEnd P prefix xs → Every is_sp r
    → SpellsWhole P t xs
whole_of P t gap prefix r [] e g s h =
    subst (Every is_sp) (sym (e ∙ ap (λ y. gap ++ (y ++ r)) s)) (every_append is_sp gap r g h)
whole_of P t gap prefix r (x ∷ xs) e g (body, tail, i, s, w) h = (
  gap,
  body,
  tail ++ r,
  e ∙ ap (λ y. gap ++ y) (ap (λ y. y ++ r) i ∙ append_assoc body tail r),
  g,
  s,
  ows_after tail r w h,
)

-- the SP before it is discarded
whole_read : {X : Type 0} (P : List ℕ → X → Type 0) → Starts X P → (t : List ℕ) (xs : List X)
    → SpellsWhole P t xs → SpellsToEnd P (discard is_SP t) xs
whole_read P starts t [] s = all_sp t s
whole_read P starts t (x ∷ xs) (gap, body, tail, e, g, (prefix, suffix, i, p, s), w) =
    let (c, u, j, h) = starts prefix x p in
    let k : body ++ tail ≡ c ∷ ((u ++ suffix) ++ tail) =
    ap (λ y. y ++ tail) (i ∙ ap (λ y. y ++ suffix) j) in
    let f : first_is is_SP (body ++ tail) ≡ false =
    subst (λ y. first_is is_SP y ≡ false) (sym k) (ows_no_sp c h) in (
      body,
      tail,
      ap (discard is_SP) e ∙ discard_gap is_SP gap (body ++ tail) g f,
      (prefix, suffix, i, p, s),
      w,
    )

module _ (d : Dialect) where
  -- sound
  type_sound : (k : Kind) (t gap w r : List ℕ) (f : Field) → t ≡ gap ++ w → Every is_sp gap
      → parse_type d k w ≡ Some (f, r) → Every is_sp r → SpellsField d k t f
  type_sound kind.Item t gap w r f e g a h =
      let (q, b, c) = and_then_cases (parse_item d w) _ (f, r) a in
      let j = some_pair (field.Item q.0) f q.1 r c in
      let (prefix, i, s) = (items_agree d).sound w q.1 q.0 b in
      let m : t ≡ gap ++ (prefix ++ r) =
      e ∙ ap (λ y. gap ++ y) (i ∙ ap (λ y. prefix ++ y) j.1) in
      subst (λ y. SpellsField d kind.Item t y) j.0 (gap, prefix, r, m, g, s, h)
  type_sound kind.List t gap w r f e g a h =
      let (q, b, c) = and_then_cases (parse_list d w) _ (f, r) a in
      let j = some_pair (list_of q.0) f q.1 r c in
      let (prefix, i, s) = (lists_agree d).sound w q.1 q.0 b in
      let m : t ≡ gap ++ (prefix ++ r) =
      e ∙ ap (λ y. gap ++ y) (i ∙ ap (λ y. prefix ++ y) j.1) in
      subst (λ y. SpellsField d kind.List t y) j.0
      (whole_of (SpellsMember d) t gap prefix r q.0 m g s h)
  type_sound kind.Dict t gap w r f e g a h =
      let (q, b, c) = and_then_cases (parse_dictionary d w) _ (f, r) a in
      let j = some_pair (dict_of q.0) f q.1 r c in
      let (prefix, i, (raw, k, s)) = (dictionaries_agree d).sound w q.1 q.0 b in
      let m : t ≡ gap ++ (prefix ++ r) =
      e ∙ ap (λ y. gap ++ y) (i ∙ ap (λ y. prefix ++ y) j.1) in
      subst (λ y. SpellsField d kind.Dict t y) j.0
      (raw, k, whole_of (SpellsEntry d) t gap prefix r raw m g s h)

  field_sound : (k : Kind) (t : List ℕ) (v : Field) → parse_field d k t ≡ Some v
      → SpellsField d k t v
  field_sound k t v e =
      let (a, b) = if_so (list_all is_ascii t) _ v e in
      let (q, f, h) = and_then_cases (parse_type d k (discard is_SP t)) parse_end v b in
      let (gap, i, g) = discarded is_SP t in
      let (j, s) = end_cases q.0 v q.1 h in
      subst (λ y. SpellsField d k t y) j (type_sound k t gap (discard is_SP t) q.1 q.0 i g f s)

  -- whole
  as_item : Item × List ℕ → Option (Field × List ℕ)
  as_item q = Some (field.Item q.0, q.1)

  as_list : List Member × List ℕ → Option (Field × List ℕ)
  as_list q = Some (list_of q.0, q.1)

  as_dict : Pairs Member × List ℕ → Option (Field × List ℕ)
  as_dict q = Some (dict_of q.0, q.1)

  type_whole : (k : Kind) (t : List ℕ) (f : Field) → SpellsField d k t f
      → (r : List ℕ) × (parse_type d k (discard is_SP t) ≡ Some (f, r)) × Every is_sp r
  unfolding as_item as_list as_dict
  type_whole kind.Item t (field.Item i) (gap, body, tail, e, g, s, h) =
      let (c, u, j, k) = item_start d body i s in
      let f : first_is is_SP (body ++ tail) ≡ false =
      subst (λ y. first_is is_SP (y ++ tail) ≡ false) (sym j) (start_no_sp c k) in
      let m : discard is_SP t ≡ body ++ tail =
      ap (discard is_SP) e ∙ discard_gap is_SP gap (body ++ tail) g f in (
        tail,
        ap (parse_type d kind.Item) m
            ∙ ap (λ o. and_then o as_item) ((items_agree d).whole body tail i s (sp_first tail h)),
        h,
      )
  type_whole kind.List t (field.List l) s =
      let w = whole_read (SpellsMember d) (member_start d) t l.members s in
      let e = (lists_agree d).whole (discard is_SP t) [] l.members w refl in (
        [],
        ap (parse_type d kind.List) (sym (append-nil (discard is_SP t)))
            ∙ ap (λ o. and_then o as_list) e,
        tt,
      )
  type_whole kind.Dict t (field.Dict l) (raw, i, s) =
      let w = whole_read (SpellsEntry d) (entry_start d) t raw s in
      let e = (dictionaries_agree d).whole (discard is_SP t) [] l.members (raw, i, w) refl in (
        [],
        ap (parse_type d kind.Dict) (sym (append-nil (discard is_SP t)))
            ∙ ap (λ o. and_then o as_dict) e,
        tt,
      )
  type_whole k t v s = absurd s

  field_whole : (k : Kind) (t : List ℕ) (v : Field) → SpellsField d k t v
      → parse_field d k t ≡ Some v
  field_whole k t v s =
      let (r, e, h) = type_whole k t v s in
      rw (all_ascii t (spelled_text d k v t s), parse_field)
      (ap (λ o. and_then o parse_end) e ∙ end_read v r h)

pub fields_agree : FieldsAgree
fields_agree d k t v = (field_sound d k t v, field_whole d k t v)
