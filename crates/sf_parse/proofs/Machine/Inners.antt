-- Inner lists and members are read by their machines.
use Rattle.std.specs.Option.{option_and_then, option_map, option_or}
use Rattle.std.proofs.Common.{◌≡◌, ℕ, true, ◌==◌, List, [], ◌∷◌, ◌++◌, Option, Some, None, ⊎_elim}
use Rattle.std.proofs.Common.{refl, sym, ap, ◌∙◌, subst, ◌↔◌, inl, inr, append-nil, append_assoc}
use Rattle.std.proofs.Common.{eqb-true, arith}
use Rattle.sf_value.specs.declared.value.Member.TheVariants as member
use Rattle.sf_value.specs.Grammar.Words.{allow}
use Rattle.sf_value.specs.Grammar.Classes.{is_sp}
use Rattle.sf_value.specs.Grammar.Items.{SpellsItem}
use Rattle.sf_value.specs.Grammar.InnerLists.{inner, SpellsInner, SpellsMember}
use Rattle.sf_value.specs.declared.dialect.Dialect.{Dialect}
use Rattle.sf_value.specs.declared.dialect.Dialect.TheVariants.{Rfc8941, Rfc9651}
use Rattle.sf_value.specs.declared.value.Item.{Item}
use Rattle.sf_value.specs.declared.value.Inner.{Inner}
use Rattle.sf_value.specs.declared.value.Member.{Member}
use Rattle.sf_parse.specs.Machine.Language.{Then, MapValues, Either, After, Past, Reads}
use Rattle.sf_parse.specs.Machine.Language.{Live, is_after}
use Rattle.sf_parse.specs.Machine.Params.{Between, params_step, params_finish}
use Rattle.sf_parse.specs.Machine.Items.{ItemState}
use Rattle.sf_parse.specs.Machine.Items.{item_start, item_step, item_finish}
use Rattle.sf_parse.specs.Machine.Inners.{InnerState, BetweenItems, InItem, Closing, MoreItems}
use Rattle.sf_parse.specs.Machine.Inners.{ResidualInner}
use Rattle.sf_parse.specs.Machine.Inners.{GoodInner, after_step, inner_step, inner_finish}
use Rattle.sf_parse.specs.Machine.Members.{MemberState}
use Rattle.sf_parse.specs.Machine.Members.{InOne, InMany}
use Rattle.sf_parse.proofs.Machine.Language.{reads_iff, reads_mapped, reads_then, reads_first}
use Rattle.sf_parse.proofs.Machine.Language.{reads_either}
use Rattle.sf_parse.proofs.Machine.Language.{reads_after, reads_past, map_cases}
use Rattle.sf_value.proofs.Words.{allow_cases, option_or_cases}
use Rattle.sf_parse.proofs.Machine.Bares.{same}
use Rattle.sf_parse.proofs.Machine.Params.{params_reads, params_lives, params_apart, no_raw}
use Rattle.sf_parse.proofs.Machine.Items.{no_item, item_not, item_reads, item_starts, item_lives}
use Rattle.sf_parse.proofs.Machine.Items.{item_apart}
use Rattle.sf_parse.specs.Machine.Members.{ResidualMember, GoodMember, member_start, member_step}
use Rattle.sf_parse.specs.Machine.Members.{member_finish}

after_after : (is : List Item) (b : ℕ) (t : InnerState) → after_step is b ≡ Some t
    → is_after b ≡ true
after_after is b t n = ⊎_elim
    (λ e. ap is_after (eqb-true b 32 (allow_cases (b == 32) (BetweenItems is) t e).0))
    (λ e. ap is_after (eqb-true b 41 (allow_cases (b == 41) (Closing is (Between [])) t e.1).0))
    (option_or_cases (allow (b == 32) (BetweenItems is)) (allow (b == 41) (Closing is (Between []))) t n)

-- no member begins with a space or a tab
pub no_member : (d : Dialect) → (member_start d 32 ≡ None) × (member_start d 9 ≡ None)
no_member Rfc8941 = (refl, refl)
no_member Rfc9651 = (refl, refl)

module _ (d : Dialect) where
  abbrev ReadsInner : (List ℕ → Inner → Type 0) → (ℕ → Option InnerState) → Option Inner → Type 0
  ReadsInner = Reads InnerState Inner GoodInner (ResidualInner d)

  abbrev Closes : List Item → List ℕ → Inner → Type 0
  Closes is = ResidualInner d (Closing is (Between []))

  -- after the bracket or spaces
  abbrev Opens : List Item → List ℕ → Inner → Type 0
  Opens is = Past is_sp (Either (After 41 (Closes is)) (Then (SpellsItem d) (λ i. MoreItems d 1 (is
      ++ i ∷ []))))

  opens_to : (is : List Item) (u : List ℕ) (v : Inner) → Opens is u v → MoreItems d 0 is u v
  opens_to is u v (gap, rest, e, f, inl (suffix, e2, (ps, k, c))) = (
    [],
    ps,
    gap,
    suffix,
    e ∙ ap (λ y. gap ++ y) e2,
    f,
    k,
    c
        ∙ ap (λ y. inner y ps) (sym (append-nil is)),
  )
  opens_to is u v (
    gap,
    rest,
    e,
    f,
    inr (i, prefix, suffix, e2, s, (more, ps, body, b2, e3, r, k, c)),
  ) =
      let joined : gap ++ (prefix ++ (body ++ 41 ∷ b2)) ≡ (gap ++ (prefix ++ body))
      ++ 41 ∷ b2 = simp append_assoc in (
        i ∷ more,
        ps,
        gap ++ (prefix ++ body),
        b2,
        (let e' : u ≡ gap ++ (prefix ++ (body ++ 41 ∷ b2)) = cc in
            e')
            ∙ joined,
        (gap, prefix, body, refl, f, omega arith, s, r),
        k,
        c
            ∙ ap (λ y. inner y ps) (append_assoc is (i ∷ []) more),
      )

  opens_from : (is : List Item) (u : List ℕ) (v : Inner) → MoreItems d 0 is u v → Opens is u v
  opens_from is u v ([], ps, body, suffix, e, f, k, c) = (
    body,
    41 ∷ suffix,
    e,
    f,
    inl (
      suffix,
      refl,
      (
        ps,
        k,
        c
            ∙ ap (λ y. inner y ps) (append-nil is),
      ),
    ),
  )
  opens_from is u v (i ∷ more, ps, body, suffix, e, (gap, prefix, b2, e1, f, z, s, r), k, c) =
      let joined : (gap ++ (prefix ++ b2)) ++ 41 ∷ suffix ≡ gap
      ++ (prefix ++ (b2 ++ 41 ∷ suffix)) = simp append_assoc in (
        gap,
        prefix ++ (b2 ++ 41 ∷ suffix),
        e ∙ ap (λ y. y ++ 41 ∷ suffix) e1 ∙ joined,
        f,
        inr (
          i,
          prefix,
          b2 ++ 41 ∷ suffix,
          refl,
          s,
          (
            more,
            ps,
            b2,
            suffix,
            refl,
            r,
            k,
            c
                ∙ ap (λ y. inner y ps) (sym (append_assoc is (i ∷ []) more)),
          ),
        ),
      )

  -- after an item
  abbrev Behind : List Item → List ℕ → Inner → Type 0
  Behind is = Either (After 32 (MoreItems d 0 is)) (After 41 (Closes is))

  after_to : (is : List Item) (u : List ℕ) (v : Inner) → Behind is u v → MoreItems d 1 is u v
  after_to is u v (inl (t, e, ([], ps, body, suffix, e1, f, k, c))) = (
    [],
    ps,
    32 ∷ body,
    suffix,
    e
        ∙ ap (λ y. 32 ∷ y) e1,
    (refl, f),
    k,
    c,
  )
  after_to is u v (inl (
    t,
    e,
    (i ∷ more, ps, body, suffix, e1, (gap, prefix, b2, e2, f, z, s, r), k, c),
  )) = (
    i ∷ more,
    ps,
    32 ∷ body,
    suffix,
    e
        ∙ ap (λ y. 32 ∷ y) e1,
    (32 ∷ gap, prefix, b2, ap (λ y. 32 ∷ y) e2, (refl, f), omega arith, s, r),
    k,
    c,
  )
  after_to is u v (inr (suffix, e, (ps, k, c))) = (
    [],
    ps,
    [],
    suffix,
    e,
    tt,
    k,
    c
        ∙ ap (λ y. inner y ps) (sym (append-nil is)),
  )

  after_from : (is : List Item) (u : List ℕ) (v : Inner) → MoreItems d 1 is u v → Behind is u v
  after_from is u v ([], ps, [], suffix, e, f, k, c) = inr (
    suffix,
    e,
    (
      ps,
      k,
      c
          ∙ ap (λ y. inner y ps) (append-nil is),
    ),
  )
  after_from is u v ([], ps, b ∷ body, suffix, e, f, k, c) = inl (
    body ++ 41 ∷ suffix,
    e
        ∙ ap (λ y. y ∷ (body ++ 41 ∷ suffix)) (eqb-true b 32 f.0),
    ([], ps, body, suffix, refl, f.1, k, c),
  )
  after_from is u v (
    i ∷ more,
    ps,
    body,
    suffix,
    e,
    ([], prefix, b2, e2, f, z, s, r),
    k,
    c,
  ) = absurd (omega arith)
  after_from is u v (i ∷ more, ps, body, suffix, e, (b ∷ gap, prefix, b2, e2, f, z, s, r), k, c) =
      inl (
        (gap ++ (prefix ++ b2)) ++ 41 ∷ suffix,
        e ∙ ap (λ y. y ++ 41 ∷ suffix) e2
            ∙ ap (λ y. y ∷ ((gap ++ (prefix ++ b2)) ++ 41 ∷ suffix)) (eqb-true b 32 f.0),
        (
          i ∷ more,
          ps,
          gap ++ (prefix ++ b2),
          suffix,
          refl,
          (gap, prefix, b2, refl, f.1, omega arith, s, r),
          k,
          c,
        ),
      )

  after_reads : (is : List Item) → ReadsInner (MoreItems d 1 is) (after_step is) None
  after_reads is = reads_iff (λ u v. (
    after_to is u v,
    after_from is u v,
  ))
      (reads_either (reads_after 32 (BetweenItems is) tt)
      (reads_after 41 (Closing is (Between [])) refl) apart (λ v w. λ e. absurd cc))
    where
      apart : (b : ℕ) (s t : InnerState) → allow (b == 32) (BetweenItems is) ≡ Some s
          → allow (b == 41) (Closing is (Between [])) ≡ Some t → ⊥
      apart b s t e n = let x = eqb-true b 32 (allow_cases (b == 32) (BetweenItems is) s e).0 in
          let y = eqb-true b 41 (allow_cases (b == 41) (Closing is (Between [])) t n).0 in
          omega arith

  pub inner_reads : (s : InnerState) → GoodInner s
      → ReadsInner (ResidualInner d s) (inner_step d s) (inner_finish s)
  inner_reads (BetweenItems is) g = reads_iff (λ u v. (opens_to is u v, opens_from is u v))
      (reads_past is_sp (BetweenItems is) tt (λ u v. (opens_to is u v, opens_from is u v)) space_apart
      (reads_either (reads_after 41 (Closing is (Between [])) refl)
      (reads_first (InItem is) (λ s g. g) (λ s t v. same) (item_starts d)) bracket_apart
      (λ v w. λ e. absurd cc)))
    where
      space_apart : (b : ℕ) (t : InnerState) → is_sp b ≡ true
          → option_or (allow (b == 41) (Closing is (Between [])))
          (option_map (InItem is) (item_start d b))
          ≡ Some t
          → ⊥
      space_apart b t e n =
          let x = eqb-true b 32 e in
          ⊎_elim
          (λ k. let y = eqb-true b 41 (allow_cases (b == 41) (Closing is (Between [])) t k).0 in
          omega arith)
          (λ k. let c = map_cases (InItem is) (item_start d b) t k.1 in
          item_not d b 32 c.0 x (no_item d).0 c.1)
          (option_or_cases (allow (b == 41) (Closing is (Between [])))
          (option_map (InItem is) (item_start d b)) t n)

      bracket_apart : (b : ℕ) (s t : InnerState)
          → allow (b == 41) (Closing is (Between [])) ≡ Some s
          → option_map (InItem is) (item_start d b) ≡ Some t → ⊥
      bracket_apart b s t e n =
          let x = eqb-true b 41 (allow_cases (b == 41) (Closing is (Between [])) s e).0 in
          let c = map_cases (InItem is) (item_start d b) t n in
          item_not d b 41 c.0 x (no_item d).1 c.1
  inner_reads (InItem is s) g = ends_none
      (reads_then (InItem is) (λ s g. g) (λ s t v. same) (item_reads d s g) (λ i e. after_reads (is
      ++ i ∷ [])) apart)
    where
      none_after : (o : Option Item) → option_and_then {U = Inner} (λ i. None) o ≡ None
      none_after None = refl
      none_after (Some i) = refl

      ends_none : {L : List ℕ → Inner → Type 0} {next : ℕ → Option InnerState}
          → ReadsInner L next (option_and_then (λ i. None) (item_finish s)) → ReadsInner L next None
      ends_none {L = L} {next = next} r = subst (ReadsInner L next) (none_after (item_finish s)) r

      apart : (i : Item) (b : ℕ) (s' : ItemState) (t : InnerState) → item_finish s ≡ Some i
          → item_step d s b ≡ Some s' → after_step (is ++ i ∷ []) b ≡ Some t → ⊥
      apart i b s' t e n m = item_apart d s i b s' e n (after_after (is ++ i ∷ []) b t m)
  inner_reads (Closing is s) g = reads_mapped (Closing is) (inner is) (λ s g. g) (λ s t v. same)
      (params_reads d s g)

  pub inner_lives : (s : InnerState) → GoodInner s → Live Inner (ResidualInner d s)
  inner_lives (BetweenItems is) g = record {
    text = 41 ∷ [];
    value = inner (is ++ []) [];
    whole = (
      [],
      [],
      [],
      [],
      refl,
      tt,
      no_raw d [] refl,
      refl,
    );
  }
  inner_lives (InItem is s) g =
      let l = item_lives d s g in
      record {
        text = l.text ++ 41 ∷ [];
        value = inner ((is ++ l.value ∷ []) ++ []) [];
        whole = (
          l.value,
          l.text,
          41 ∷ [],
          refl,
          l.whole,
          ([], [], [], [], refl, tt, no_raw d [] refl, refl),
        );
      }
  inner_lives (Closing is s) g = let l = params_lives d s g in
      record { text = l.text; value = inner is l.value; whole = (l.value, l.whole, refl) }

  -- members
  pub member_reads : (s : MemberState) → GoodMember s
      → Reads MemberState Member GoodMember (ResidualMember d) (ResidualMember d s)
      (member_step d s)
      (member_finish s)
  member_reads (InOne s) g = reads_mapped InOne member.Item (λ s g. g) (λ s t v. same)
      (item_reads d s g)
  member_reads (InMany s) g = reads_mapped InMany member.Inner (λ s g. g) (λ s t v. same)
      (inner_reads s g)

  inner_both : (t : List ℕ) (v : Inner) → After 40 (MoreItems d 0 []) t v ↔ SpellsInner d t v
  inner_both t v = (
    λ (suffix, e, (more, ps, body, b2, e2, s, k, c)). subst (λ y. SpellsInner d t y) (sym c) (
      body,
      b2,
      e
          ∙ ap (λ y. 40 ∷ y) e2,
      s,
      k,
    ),
    λ (body, suffix, e, s, k). (
      body ++ 41 ∷ suffix,
      e,
      (v.items, v.params, body, suffix, refl, s, k, refl),
    ),
  )

  member_both : (t : List ℕ) (v : Member)
      → Either (MapValues member.Item (SpellsItem d))
      (MapValues member.Inner (SpellsInner d)) t v ↔ SpellsMember d t v
  member_both t v = (
    ⊎_elim (λ (i, s, c). subst (λ y. SpellsMember d t y) (sym c) s) (λ (
      l,
      s,
      c,
    ). subst (λ y. SpellsMember d t y) (sym c) s),
    from v,
  )
    where
      from : (v : Member) → SpellsMember d t v
          → Either (MapValues member.Item (SpellsItem d)) (MapValues member.Inner (SpellsInner d)) t v
      from (member.Item i) s = inl (i, s, refl)
      from (member.Inner l) s = inr (l, s, refl)

  pub member_starts : Reads MemberState Member GoodMember (ResidualMember d) (SpellsMember d)
      (member_start d) None
  member_starts = reads_iff member_both (reads_either
      (reads_mapped InOne member.Item (λ s g. g) (λ s t v. same) (item_starts d))
      (reads_mapped InMany member.Inner (λ s g. g) (λ s t v. same)
      (reads_iff inner_both (reads_after {Residual = ResidualInner d} 40 (BetweenItems []) tt)))
      apart (λ v w. λ e. absurd cc))
    where
      apart : (b : ℕ) (s t : MemberState) → option_map InOne (item_start d b) ≡ Some s
          → option_map InMany (allow (b == 40) (BetweenItems [])) ≡ Some t → ⊥
      apart b s t e n =
          let c = map_cases InMany (allow (b == 40) (BetweenItems [])) t n in
          let x = eqb-true b 40 (allow_cases (b == 40) (BetweenItems []) c.0 c.1).0 in
          let k = map_cases InOne (item_start d b) s e in
          item_not d b 40 k.0 x (no_item d).2 k.1

  pub member_lives : (s : MemberState) → GoodMember s → Live Member (ResidualMember d s)
  member_lives (InOne s) g = let l = item_lives d s g in
      record { text = l.text; value = member.Item l.value; whole = (l.value, l.whole, refl) }
  member_lives (InMany s) g = let l = inner_lives s g in
      record { text = l.text; value = member.Inner l.value; whole = (l.value, l.whole, refl) }

  -- A member that may end doesn't go on with what may be after it.
  pub member_apart : (s : MemberState) (v : Member) (b : ℕ) (t : MemberState)
      → member_finish s ≡ Some v → member_step d s b ≡ Some t → is_after b ≡ true → ⊥
  member_apart (InOne s) v b t e n f =
      let c = map_cases member.Item (item_finish s) v e in
      let k = map_cases InOne (item_step d s b) t n in
      item_apart d s c.0 b k.0 c.1 k.1 f
  member_apart (InMany (BetweenItems is)) v b t e n f = cc
  member_apart (InMany (InItem is s)) v b t e n f = cc
  member_apart (InMany (Closing is s)) v b t e n f =
      let c = map_cases (inner is) (params_finish s) _
      (map_cases member.Inner (option_map (inner is) (params_finish s)) v e).1 in
      let k = map_cases (Closing is) (params_step d s b) _
      (map_cases InMany (option_map (Closing is) (params_step d s b)) t n).1 in
      params_apart d s c.0 b k.0 c.1 k.1 f
