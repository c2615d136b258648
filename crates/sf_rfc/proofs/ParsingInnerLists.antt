-- Parsing Inner Lists, and members.
use Rattle.std.proofs.Common.{◌≡◌, ℕ, zero, suc, ◌≤◌, Bool, true, false, ◌||◌, ◌==◌}
use Rattle.std.proofs.Common.{List, [], ◌∷◌, ◌++◌, length, drop, Option, Some, None, refl, sym, ap, ap₂}
use Rattle.std.proofs.Common.{◌∙◌, subst, append_assoc, append-nil, length-append, inl, inr, arith}
use Rattle.std.proofs.Common.{eqb-true}
use Rattle.std.proofs.lemmas.Bool.Decides.{nat_tests}
use Rattle.sf_value.specs.declared.dialect.Dialect.{Dialect}
use Rattle.sf_value.specs.declared.value.Bare.{Bare}
use Rattle.sf_value.specs.declared.value.Item.{Item}
use Rattle.sf_value.specs.declared.value.Inner.{Inner}
use Rattle.sf_value.specs.declared.value.Member.{Member}
use Rattle.sf_value.specs.declared.value.Member.TheVariants as member
use Rattle.sf_value.specs.Grammar.Words.{Every}
use Rattle.sf_value.specs.Grammar.Classes.{is_sp}
use Rattle.sf_value.specs.Grammar.Pairs.{Pairs}
use Rattle.sf_value.specs.Grammar.Parameters.{SpellsParams}
use Rattle.sf_value.specs.Grammar.Items.{SpellsItem}
use Rattle.sf_value.specs.Grammar.InnerLists.{inner, SpellsItems, SpellsInner, SpellsMember}
use Rattle.sf_rfc.specs.Rfc9651.Words.{and_then, first_is, discard}
use Rattle.sf_rfc.specs.Rfc9651.Alphabets.{is_SP, is_OWS}
use Rattle.sf_rfc.specs.Rfc9651.Parsing.{parse_params, parse_item, end_inner, inner_loop, parse_inner}
use Rattle.sf_rfc.specs.Rfc9651.Parsing.{parse_member}
use Rattle.sf_rfc.specs.ParsingLaws.{is_in_params, InnerListsAgree, MembersAgree}
use Rattle.sf_rfc.proofs.ParsingBase64.{is_first}
use Rattle.sf_rfc.proofs.ParsingParameters.{parameters_agree, discarded, discard_gap}
use Rattle.sf_rfc.proofs.ParsingItems.{items_agree, item_start, is_no_start}
use Rattle.sf_rfc.proofs.ParsingSteps.{never, some_pair, and_then_cases, if_so, if_either}

-- SP or ")"
abbrev is_item_end : ℕ → Bool
is_item_end c = c == 32 || c == 41

end_no_params : (c : ℕ) → is_item_end c ≡ true → is_in_params c ≡ false
end_no_params c h = grind (arith, nat_tests)

end_no_start : (c : ℕ) → is_item_end c ≡ true → is_no_start c ≡ true
end_no_start c h = grind (arith, nat_tests)

start_no_sp : (c : ℕ) → is_no_start c ≡ false → is_SP c ≡ false
start_no_sp c h = grind (arith, nat_tests)

start_no_ows : (c : ℕ) → is_no_start c ≡ false → is_OWS c ≡ false
start_no_ows c h = grind (arith, nat_tests)

start_no_close : (c : ℕ) → is_no_start c ≡ false → (c == 41) ≡ false
start_no_close c h = grind (arith, nat_tests)

start_no_open : (c : ℕ) → is_no_start c ≡ false → (c == 40) ≡ false
start_no_open c h = grind (arith, nat_tests)

is_space : (c : ℕ) → is_sp c ≡ true → is_item_end c ≡ true
is_space c h = grind (arith, nat_tests)

first_more : (p q : ℕ → Bool) → ((c : ℕ) → p c ≡ true → q c ≡ false) → (t : List ℕ)
    → first_is p t ≡ true → first_is q t ≡ false
first_more p q less [] h = refl
first_more p q less (c ∷ t) h = less c h

at_clash : {P : Type 0} (x : Bool) → x ≡ true → x ≡ false → P
at_clash true h k = absurd cc
at_clash false h k = absurd cc

module _ (d : Dialect) where
  -- what the loop takes
  abbrev Taken : List Item → List ℕ → Inner → List ℕ → Type 0
  Taken items t l r =
      (body suffix : List ℕ) × (more : List Item) × (ps : Pairs Bare)
      × (t ≡ body ++ 41 ∷ (suffix ++ r)) × SpellsItems d 0 body more × SpellsParams d suffix ps
      × (l ≡ inner (items ++ more) ps)

  -- after an item there is a space before the next
  spaced : (body w : List ℕ) (more : List Item) → SpellsItems d 0 body more
      → first_is is_item_end (body ++ w) ≡ true → SpellsItems d 1 body more
  spaced body w [] s f = s
  spaced body w (i ∷ is) ([], prefix, suffix, e, g, l, s, m) f =
      let (c, u, j, h) = item_start d prefix i s in
      let k : body ++ w ≡ c ∷ ((u ++ suffix) ++ w) =
      ap (λ y. y ++ w) (e ∙ ap (λ y. y ++ suffix) j) in
      let f2 : is_item_end c ≡ true = subst (λ y. first_is is_item_end y ≡ true) k f in
      at_clash (is_no_start c) (end_no_start c f2) h
  spaced body w (i ∷ is) (c ∷ gap, prefix, suffix, e, g, l, s, m) f =
      (c ∷ gap, prefix, suffix, e, g, omega arith, s, m)

  end_taken : (items : List Item) (gap t w : List ℕ) (l : Inner) (r : List ℕ) → t ≡ gap ++ 41 ∷ w
      → Every is_sp gap → end_inner d items w ≡ Some (l, r) → Taken items t l r
  end_taken items gap t w l r i g e =
      let (q, a, b) = and_then_cases (parse_params d w) _ (l, r) e in
      let k = some_pair (inner items q.0) l q.1 r b in
      let (suffix, j, s) = (parameters_agree d).sound w q.1 q.0 a in (
        gap,
        suffix,
        [],
        q.0,
        i ∙ ap (λ y. gap ++ 41 ∷ y) (j ∙ ap (λ y. suffix ++ y) k.1),
        g,
        s,
        sym k.0 ∙ ap (λ y. inner y q.0) (sym (append-nil items)),
      )

  item_taken : (items : List Item) (gap prefix t u : List ℕ) (i : Item) (l : Inner) (r : List ℕ)
      → t ≡ gap ++ (prefix ++ u) → Every is_sp gap → SpellsItem d prefix i
      → first_is is_item_end u ≡ true → Taken (items ++ i ∷ []) u l r → Taken items t l r
  item_taken items gap prefix t u i l r e g s f (body, suffix, more, ps, j, m, p, k) = (
    gap ++ (prefix ++ body),
    suffix,
    i ∷ more,
    ps,
    e ∙ ap (λ y. gap ++ (prefix ++ y)) j
        ∙ ap (λ y. gap ++ y) (sym (append_assoc prefix body (41 ∷ (suffix ++ r))))
        ∙ sym (append_assoc gap (prefix ++ body) (41 ∷ (suffix ++ r))),
    (
      gap,
      prefix,
      body,
      refl,
      g,
      omega arith,
      s,
      spaced body (41 ∷ (suffix ++ r)) more m (subst (λ y. first_is is_item_end y ≡ true) j f),
    ),
    p,
    k ∙ ap (λ y. inner y ps) (append_assoc items (i ∷ []) more),
  )

  loop_sound : (n : ℕ) (items : List Item) (t : List ℕ) (l : Inner) (r : List ℕ)
      → inner_loop d n items t ≡ Some (l, r) → Taken items t l r
  loop_sound zero items t l r e = never (l, r) e
  loop_sound (suc n) items [] l r e = never (l, r) e
  loop_sound (suc n) items (c ∷ t) l r e =
      let (gap, i, g) = discarded is_SP (c ∷ t) in
      elim (if_either (first_is (λ x. x == 41) (discard is_SP (c ∷ t))) _ _ (l, r) e) [
        | inl k ↦
            end_taken items gap (c ∷ t) (drop 1 (discard is_SP (c ∷ t))) l r
            (i ∙ ap (λ y. gap ++ y) (is_first 41 (discard is_SP (c ∷ t)) k.0)) g k.1
        | inr k ↦
            let (q, a, b) = and_then_cases (parse_item d (discard is_SP (c ∷ t))) _ (l, r) k.1 in
            let (h, f) = if_so (first_is is_item_end q.1) _ (l, r) b in
            let (prefix, j, s) = (items_agree d).sound (discard is_SP (c ∷ t)) q.1 q.0 a in
            item_taken items gap prefix (c ∷ t) q.1 q.0 l r (i ∙ ap (λ y. gap ++ y) j) g s h
            (loop_sound n (items ++ q.0 ∷ []) q.1 l r f)
      ]

  inner_sound : (t r : List ℕ) (l : Inner) → parse_inner d t ≡ Some (l, r)
      → (prefix : List ℕ) × (t ≡ prefix ++ r) × SpellsInner d prefix l
  inner_sound [] r l e = never (l, r) e
  inner_sound (c ∷ t) r l e =
      let (h, a) = if_so (c == 40) _ (l, r) e in
      let (body, suffix, more, ps, i, s, p, j) = loop_sound (suc (length t)) [] t l r a in (
        40 ∷ (body ++ 41 ∷ suffix),
        ap₂ (λ x y. x ∷ y) (eqb-true c 40 h) (i ∙ sym (append_assoc body (41 ∷ suffix) r)),
        subst (λ y. SpellsInner d (40 ∷ (body ++ 41 ∷ suffix)) y) (sym j)
            (body, suffix, refl, s, p),
      )

  -- whole: a round
  abbrev inner_step : ℕ → List Item → List ℕ → Option (Inner × List ℕ)
  inner_step n items t = elim (first_is (λ x. x == 41) t) [
    | true ↦ end_inner d items (drop 1 t)
    | false ↦ and_then (parse_item d t) (λ (i, u).
        elim (first_is is_item_end u) [
          | false ↦ None
          | true ↦ inner_loop d n (items ++ i ∷ []) u
        ])
  ]

  round_is : (n : ℕ) (items : List Item) (body w : List ℕ)
      → inner_loop d (suc n) items (body ++ 41 ∷ w)
      ≡ inner_step n items (discard is_SP (body ++ 41 ∷ w))
  round_is n items [] w = refl
  round_is n items (c ∷ body) w = refl

  items_first : (body w : List ℕ) (more : List Item) → SpellsItems d 1 body more
      → first_is is_item_end (body ++ 41 ∷ w) ≡ true
  items_first [] w [] s = refl
  items_first (c ∷ body) w [] s = is_space c s.0
  items_first body w (i ∷ is) ([], prefix, suffix, e, g, l, s, m) = absurd (omega (arith, l))
  items_first body w (i ∷ is) (c ∷ gap, prefix, suffix, e, g, l, s, m) =
      rw e (is_space c g.0)

  end_read : (n : ℕ) (items : List Item) (body suffix r : List ℕ) (ps : Pairs Bare)
      → Every is_sp body → SpellsParams d suffix ps → first_is is_in_params r ≡ false
      → inner_loop d (suc n) items (body ++ 41 ∷ (suffix ++ r)) ≡ Some (inner items ps, r)
  end_read n items body suffix r ps g s f =
      round_is n items body (suffix ++ r)
      ∙ ap (inner_step n items) (discard_gap is_SP body (41 ∷ (suffix ++ r)) g refl)
      ∙ ap (λ o. and_then o end) ((parameters_agree d).whole suffix r ps s f)
    where
      end : Pairs Bare × List ℕ → Option (Inner × List ℕ)
      end q = Some (inner items q.0, q.1)

  -- a step at an item
  step_read : (n : ℕ) (items : List Item) (prefix u : List ℕ) (i : Item) → SpellsItem d prefix i
      → first_is is_item_end u ≡ true
      → inner_step n items (prefix ++ u) ≡ inner_loop d n (items ++ i ∷ []) u
  step_read n items prefix u i s h =
      let (c, v, e, k) = item_start d prefix i s in
      let a = (items_agree d).whole prefix u i s (first_more is_item_end is_in_params end_no_params u h) in
      let f : first_is (λ x. x == 41) (prefix ++ u) ≡ false =
      subst (λ y. first_is (λ x. x == 41) (y ++ u) ≡ false) (sym e) (start_no_close c k) in
      rw (f, inner_step) (ap (λ o. and_then o behind) a ∙ rw (h, behind) refl)
    where
      behind : Item × List ℕ → Option (Inner × List ℕ)
      behind q = elim (first_is is_item_end q.1) [
        | false ↦ None
        | true ↦ inner_loop d n (items ++ q.0 ∷ []) q.1
      ]

  loop_read : (n : ℕ) (items more : List Item) (least : ℕ) (body suffix r : List ℕ)
      (ps : Pairs Bare) → SpellsItems d least body more → SpellsParams d suffix ps
      → first_is is_in_params r ≡ false → length more ≤ n
      → inner_loop d (suc n) items (body ++ 41 ∷ (suffix ++ r))
      ≡ Some (inner (items ++ more) ps, r)
  loop_read n items [] least body suffix r ps s p f l =
      end_read n items body suffix r ps s p f
      ∙ ap (λ y. Some (inner y ps, r)) (sym (append-nil items))
  loop_read zero items (i ∷ is) least body suffix r ps s p f l = absurd (omega (arith, l))
  loop_read (suc n) items (i ∷ is) least body suffix r ps (gap, prefix, u, e, g, k, s, m) p f l =
      let w : List ℕ = 41 ∷ (suffix ++ r) in
      let (c, v, j, h) = item_start d prefix i s in
      let a : body ++ w ≡ gap ++ (prefix ++ (u ++ w)) =
      ap (λ y. y ++ w) e ∙ append_assoc gap (prefix ++ u) w
      ∙ ap (λ y. gap ++ y) (append_assoc prefix u w) in
      let no_sp : first_is is_SP (prefix ++ (u ++ w)) ≡ false =
      subst (λ y. first_is is_SP (y ++ (u ++ w)) ≡ false) (sym j) (start_no_sp c h) in
      round_is (suc n) items body (suffix ++ r)
      ∙ ap (λ y. inner_step (suc n) items (discard is_SP y)) a
      ∙ ap (inner_step (suc n) items) (discard_gap is_SP gap (prefix ++ (u ++ w)) g no_sp)
      ∙ step_read (suc n) items prefix (u ++ w) i s (items_first u (suffix ++ r) is m)
      ∙ loop_read n (items ++ i ∷ []) is 1 u suffix r ps m p f (omega arith)
      ∙ ap (λ y. Some (inner y ps, r)) (append_assoc items (i ∷ []) is)

  -- no item is empty, so that there are no more than characters
  items_count : (least : ℕ) (body : List ℕ) (more : List Item) → SpellsItems d least body more
      → length more ≤ length body
  items_count least body [] s = omega arith
  items_count least body (i ∷ is) (gap, prefix, u, e, g, k, s, m) =
      let (c, v, j, h) = item_start d prefix i s in
      omega (arith, ap length e, ap length j, items_count 1 u is m, length-append {A = ℕ})

  inner_whole : (t r : List ℕ) (l : Inner) → SpellsInner d t l → first_is is_in_params r ≡ false
      → parse_inner d (t ++ r) ≡ Some (l, r)
  inner_whole t r l (body, suffix, e, s, p) f =
      let w : List ℕ = body ++ 41 ∷ (suffix ++ r) in
      let a : t ++ r ≡ 40 ∷ (body ++ 41 ∷ (suffix ++ r)) =
      ap (λ y. y ++ r) e ∙ ap (λ y. 40 ∷ y) (append_assoc body (41 ∷ suffix) r) in
      ap (parse_inner d) a
      ∙ loop_read (length w) [] l.items 0 body suffix r l.params s p f
      (omega (arith, items_count 0 body l.items s, length-append {A = ℕ}))

  -- members
  member_sound : (t r : List ℕ) (m : Member) → parse_member d t ≡ Some (m, r)
      → (prefix : List ℕ) × (t ≡ prefix ++ r) × SpellsMember d prefix m
  member_sound t r m e = elim (if_either (first_is (λ c. c == 40) t) _ _ (m, r) e) [
    | inl k ↦
        let (q, a, b) = and_then_cases (parse_inner d t) _ (m, r) k.1 in
        let j = some_pair (member.Inner q.0) m q.1 r b in
        let (prefix, i, s) = inner_sound t q.1 q.0 a in
        (prefix, i ∙ ap (λ y. prefix ++ y) j.1, subst (λ y. SpellsMember d prefix y) j.0 s)
    | inr k ↦
        let (q, a, b) = and_then_cases (parse_item d t) _ (m, r) k.1 in
        let j = some_pair (member.Item q.0) m q.1 r b in
        let (prefix, i, s) = (items_agree d).sound t q.1 q.0 a in
        (prefix, i ∙ ap (λ y. prefix ++ y) j.1, subst (λ y. SpellsMember d prefix y) j.0 s)
  ]

  as_inner : Inner × List ℕ → Option (Member × List ℕ)
  as_inner q = Some (member.Inner q.0, q.1)

  as_item : Item × List ℕ → Option (Member × List ℕ)
  as_item q = Some (member.Item q.0, q.1)

  at_bracket : (t : List ℕ) → parse_member d (40 ∷ t) ≡ and_then (parse_inner d (40 ∷ t)) as_inner
  unfolding as_inner
  at_bracket t = refl

  at_other : (c : ℕ) (t : List ℕ) → (c == 40) ≡ false
      → parse_member d (c ∷ t) ≡ and_then (parse_item d (c ∷ t)) as_item
  unfolding as_item
  at_other c t h = rw (h, parse_member) refl

  member_whole : (t r : List ℕ) (m : Member) → SpellsMember d t m
      → first_is is_in_params r ≡ false → parse_member d (t ++ r) ≡ Some (m, r)
  unfolding as_inner as_item
  member_whole t r (member.Item i) s f =
      let (c, u, e, h) = item_start d t i s in
      ap (λ y. parse_member d (y ++ r)) e ∙ at_other c (u ++ r) (start_no_open c h)
      ∙ ap (λ y. and_then (parse_item d (y ++ r)) as_item) (sym e)
      ∙ ap (λ o. and_then o as_item) ((items_agree d).whole t r i s f)
  member_whole t r (member.Inner l) s f =
      ap (λ y. parse_member d (y ++ r)) s.2 ∙ at_bracket ((s.0 ++ 41 ∷ s.1) ++ r)
      ∙ ap (λ y. and_then (parse_inner d (y ++ r)) as_inner) (sym s.2)
      ∙ ap (λ o. and_then o as_inner) (inner_whole t r l s f)

  pub member_start : (t : List ℕ) (m : Member) → SpellsMember d t m
      → (c : ℕ) × (u : List ℕ) × (t ≡ c ∷ u) × (is_OWS c ≡ false)
  member_start t (member.Item i) s =
      let (c, u, e, h) = item_start d t i s in (c, u, e, start_no_ows c h)
  member_start t (member.Inner l) s = (40, s.0 ++ 41 ∷ s.1, s.2, refl)

pub inner_lists_agree : InnerListsAgree
inner_lists_agree d = record { sound = inner_sound d; whole = inner_whole d }

pub members_agree : MembersAgree
members_agree d = record { sound = member_sound d; whole = member_whole d }
