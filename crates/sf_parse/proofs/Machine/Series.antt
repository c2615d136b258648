-- A series of members is read by its machine, if each member is.
use Rattle.std.specs.Option.{option_map}
use Rattle.std.proofs.Common.{◌≡◌, ℕ, true, ◌==◌, List, [], ◌∷◌, ◌++◌, Option, Some, None, ⊎_elim}
use Rattle.std.proofs.Common.{refl, sym, ap, ◌∙◌, subst, ◌↔◌, inl, inr, append-nil, append_assoc}
use Rattle.std.proofs.Common.{eqb-true, arith}
use Rattle.sf_value.specs.Grammar.Words.{Every, allow}
use Rattle.sf_value.specs.Grammar.Classes.{is_sp, is_ows}
use Rattle.sf_value.specs.Grammar.Series.{SpellsWhole}
use Rattle.sf_parse.specs.Machine.Language.{Either, After, Past, Nothing, Reads, Live}
use Rattle.sf_parse.specs.Machine.Language.{is_after}
use Rattle.sf_parse.specs.Machine.Series.{SeriesState, Begin, InMember, Gap, Comma, Series}
use Rattle.sf_parse.specs.Machine.Series.{MoreMembers, AddMembers, ResidualSeries, GoodSeries}
use Rattle.sf_parse.specs.Machine.Series.{gap_step}
use Rattle.sf_parse.specs.Machine.Series.{series_step, series_finish}
use Rattle.sf_parse.proofs.Machine.Language.{reads_iff, reads_then, reads_first, reads_either}
use Rattle.sf_parse.proofs.Machine.Language.{reads_nothing, reads_past, reads_maybe, reads_as}
use Rattle.sf_parse.proofs.Machine.Language.{otherwise_none, map_cases}
use Rattle.sf_value.proofs.Words.{allow_cases, option_or_cases}
use Rattle.sf_parse.proofs.Machine.Bares.{same}

-- what the machine of a member and the adding of members must meet
pub record SeriesLaws (S X V : Type 0) (k : Series S X V) : Type 0 where
  pub starts : Reads S X k.Good k.Residual k.Spells k.start None
  pub reads : (s : S) → k.Good s
      → Reads S X k.Good k.Residual (k.Residual s) (k.step s) (k.finish s)
  pub lives : (s : S) → k.Good s → Live X (k.Residual s)
  -- a member, for the text after a comma
  pub one : Live X k.Spells
  pub apart : (s : S) (x : X) (b : ℕ) (t : S) → k.finish s ≡ Some x → k.step s b ≡ Some t
      → is_after b ≡ true → ⊥
  pub no_space : (b : ℕ) (t : S) → is_ows b ≡ true → k.start b ≡ Some t → ⊥
  pub settled_none : k.Settled k.none
  pub settled_add : (given : V) (x : X) → k.Settled given → k.Settled (k.add given x)
  pub all_none : (given : V) → k.Settled given → k.all given [] ≡ given
  pub all_add : (given : V) (x : X) (xs : List X) → k.all (k.add given x) xs ≡ k.all given (x ∷ xs)

pub ows_after : (b : ℕ) → is_ows b ≡ true → is_after b ≡ true
ows_after b e = grind arith

pub sp_ows : (b : ℕ) → is_sp b ≡ true → is_ows b ≡ true
sp_ows b e = grind arith

module _ {S X V : Type 0} (k : Series S X V) (law : SeriesLaws S X V k) where
  abbrev ReadsSeries : (List ℕ → V → Type 0) → (ℕ → Option (SeriesState S V)) → Option V → Type 0
  ReadsSeries = Reads (SeriesState S V) V (GoodSeries k.Good k.Settled) (ResidualSeries k)

  -- after a member
  abbrev Behind : V → List ℕ → V → Type 0
  Behind given = Past is_ows (Either (After 44 (ResidualSeries k (Comma given))) (Nothing given))

  after_to : (given : V) (u : List ℕ) (v : V) → k.Settled given → Behind given u v
      → MoreMembers k given u v
  after_to given u v g (
    before,
    rest,
    e,
    f,
    inl (t, e1, (behind, r2, e2, f2, (x, prefix, suffix, e3, s, (xs, body, tail, e4, c, w, i)))),
  ) =
      let joined : before
      ++ 44 ∷ (behind ++ (prefix ++ (body ++ tail))) ≡ (before ++ 44 ∷ (behind ++ (prefix ++ body)))
      ++ tail = simp append_assoc in (
        x ∷ xs,
        before ++ 44 ∷ (behind ++ (prefix ++ body)),
        tail,
        (let e' : u ≡ before ++ 44 ∷ (behind ++ (prefix ++ (body ++ tail))) = cc in
            e')
            ∙ joined,
        (before, behind, prefix, body, refl, f, f2, s, c),
        w,
        i ∙ law.all_add given x xs,
      )
  after_to given u v g (before, rest, e, f, inr (e1, i)) = (
    [],
    [],
    before,
    e ∙ ap (λ y. before ++ y) e1 ∙ append-nil before,
    refl,
    f,
    i
        ∙ sym (law.all_none given g),
  )

  after_from : (given : V) (u : List ℕ) (v : V) → k.Settled given → MoreMembers k given u v
      → Behind given u v
  after_from given u v g ([], body, tail, e, c, w, i) = (
    tail,
    [],
    e ∙ ap (λ y. y ++ tail) c
        ∙ sym (append-nil tail),
    w,
    inr (refl, i ∙ law.all_none given g),
  )
  after_from given u v g (
    x ∷ xs,
    body,
    tail,
    e,
    (before, behind, prefix, suffix, e1, f, f2, s, c),
    w,
    i,
  ) =
      let joined : (before ++ 44 ∷ (behind ++ (prefix ++ suffix))) ++ tail ≡ before
      ++ 44 ∷ (behind ++ (prefix ++ (suffix ++ tail))) = simp append_assoc in (
        before,
        44 ∷ (behind ++ (prefix ++ (suffix ++ tail))),
        e ∙ ap (λ y. y ++ tail) e1 ∙ joined,
        f,
        inl (
          behind ++ (prefix ++ (suffix ++ tail)),
          refl,
          (
            behind,
            prefix ++ (suffix ++ tail),
            refl,
            f2,
            (
              x,
              prefix,
              suffix ++ tail,
              refl,
              s,
              (
                xs,
                suffix,
                tail,
                refl,
                c,
                w,
                i
                    ∙ sym (law.all_add given x xs),
              ),
            ),
          ),
        ),
      )

  after_both : (given : V) → k.Settled given → (u : List ℕ) (v : V)
      → Behind given u v ↔ MoreMembers k given u v
  after_both given g u v = (after_to given u v g, after_from given u v g)

  not_comma : (b : ℕ) → is_ows b ≡ true → (b == 44) ≡ true → ⊥
  not_comma b e n = let n' : is_ows 44 ≡ true = rw (eqb-true b 44 n) at e in cc

  gap_reads : (given : V) → k.Settled given
      → ReadsSeries (MoreMembers k given) (gap_step given) (Some given)
  gap_reads given g = reads_iff (after_both given g)
      (reads_past is_ows (Gap given) g (after_both given g)
      (λ b t e n. not_comma b e (allow_cases (b == 44) (Comma given) t n).0)
      (reads_maybe 44 (Comma given) given g))

  gap_after : (given : V) (b : ℕ) (t : SeriesState S V) → gap_step given b ≡ Some t
      → is_after b ≡ true
  gap_after given b t n = ⊎_elim
      (λ e. ows_after b (allow_cases (is_ows b) (Gap given) t e).0)
      (λ e. ap is_after (eqb-true b 44 (allow_cases (b == 44) (Comma given) t e.1).0))
      (option_or_cases (allow (is_ows b) (Gap given)) (allow (b == 44) (Comma given)) t n)

  add_reads : (given : V) → k.Settled given
      → ReadsSeries (AddMembers k given) (λ b. option_map (InMember given) (k.start b)) None
  add_reads given g = reads_first (InMember given) (λ s h. (g, h)) (λ s t v. same) law.starts

  no_space : (given : V) (b : ℕ) (t : SeriesState S V) → is_ows b ≡ true
      → option_map (InMember given) (k.start b) ≡ Some t → ⊥
  no_space given b t e n = let c = map_cases (InMember given) (k.start b) t n in
      law.no_space b c.0 e c.1

  pub series_reads : (s : SeriesState S V) → GoodSeries k.Good k.Settled s
      → ReadsSeries (ResidualSeries k s) (series_step k s) (series_finish k.finish k.none k.add s)
  series_reads Begin g = reads_past is_sp Begin tt (λ u v. same)
      (λ b t e n. no_space k.none b t (sp_ows b e) n)
      (reads_as (λ b. otherwise_none (option_map (InMember k.none) (k.start b)))
      (reads_either (add_reads k.none law.settled_none) (reads_nothing k.none) (λ b s t e n. cc)
      (λ v w e n. cc)))
  series_reads (InMember given s) g = reads_then (InMember given) (λ s h. (
    g.0,
    h,
  )) (λ s t v. same) (law.reads s g.1)
      (λ x e. gap_reads (k.add given x) (law.settled_add given x g.0))
      (λ x b s' t e n m. law.apart s x b s' e n (gap_after (k.add given x) b t m))
  series_reads (Gap given) g = gap_reads given g
  series_reads (Comma given) g = reads_past is_ows (Comma given) g (λ u v. same)
      (λ b t e n. no_space given b t e n) (add_reads given g)

  no_more : (given : V) → k.Settled given → MoreMembers k given [] given
  no_more given g = ([], [], [], refl, refl, tt, sym (law.all_none given g))

  pub series_lives : (s : SeriesState S V) → GoodSeries k.Good k.Settled s
      → Live V (ResidualSeries k s)
  series_lives Begin g = record {
    text = [];
    value = k.none;
    whole = (
      [],
      [],
      refl,
      tt,
      inr (refl, refl),
    );
  }
  series_lives (InMember given s) g =
      let l = law.lives s g.1 in
      record {
        text = l.text;
        value = k.add given l.value;
        whole = (
          l.value,
          l.text,
          [],
          sym (append-nil l.text),
          l.whole,
          no_more (k.add given l.value) (law.settled_add given l.value g.0),
        );
      }
  series_lives (Gap given) g = record { text = []; value = given; whole = no_more given g }
  series_lives (Comma given) g =
      let l = law.one in
      record {
        text = l.text;
        value = k.add given l.value;
        whole = (
          [],
          l.text,
          refl,
          tt,
          (
            l.value,
            l.text,
            [],
            sym (append-nil l.text),
            l.whole,
            no_more (k.add given l.value) (law.settled_add given l.value g),
          ),
        );
      }

  -- the whole text
  whole_to : (u : List ℕ) (v : V) → ResidualSeries k Begin u v
      → (xs : List X) × (v ≡ k.all k.none xs) × SpellsWhole k.Spells u xs
  whole_to u v (gap, rest, e, f, inl (x, prefix, suffix, e1, s, (xs, body, tail, e2, c, w, i))) =
      let joined : gap ++ (prefix ++ (body ++ tail)) ≡ gap
      ++ ((prefix ++ body) ++ tail) = simp append_assoc in (
        x ∷ xs,
        i
            ∙ law.all_add k.none x xs,
        (
          gap,
          prefix ++ body,
          tail,
          (let e' : u ≡ gap ++ (prefix ++ (body ++ tail)) = cc in
              e')
              ∙ joined,
          f,
          (prefix, body, refl, s, c),
          w,
        ),
      )
  whole_to u v (gap, rest, e, f, inr (e1, i)) = (
    [],
    i
        ∙ sym (law.all_none k.none law.settled_none),
    subst (Every is_sp) (sym (e
        ∙ ap (λ y. gap ++ y) e1 ∙ append-nil gap)) f,
  )

  whole_from : (u : List ℕ) (v : V) (xs : List X) → v ≡ k.all k.none xs → SpellsWhole k.Spells u xs
      → ResidualSeries k Begin u v
  whole_from u v [] i f = (
    u,
    [],
    sym (append-nil u),
    f,
    inr (
      refl,
      i
          ∙ law.all_none k.none law.settled_none,
    ),
  )
  whole_from u v (x ∷ xs) i (gap, body, tail, e, f, (prefix, suffix, e1, s, c), w) =
      let joined : gap ++ ((prefix ++ suffix) ++ tail) ≡ gap
      ++ (prefix ++ (suffix ++ tail)) = simp append_assoc in (
        gap,
        prefix ++ (suffix ++ tail),
        e ∙ ap (λ y. gap ++ (y ++ tail)) e1
            ∙ joined,
        f,
        inl (
          x,
          prefix,
          suffix ++ tail,
          refl,
          s,
          (
            xs,
            suffix,
            tail,
            refl,
            c,
            w,
            i
                ∙ sym (law.all_add k.none x xs),
          ),
        ),
      )

  -- the texts of a series at its start
  pub series_texts : (u : List ℕ) (v : V)
      → ResidualSeries k Begin u v
      ↔ ((xs : List X) × (v ≡ k.all k.none xs) × SpellsWhole k.Spells u xs)
  series_texts u v = (whole_to u v, λ (xs, i, w). whole_from u v xs i w)
