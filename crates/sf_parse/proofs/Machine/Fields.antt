-- Fields are read by their machine.
use Rattle.std.specs.Option.{option_map}
use Rattle.std.proofs.Common.{◌≡◌, ℕ, true, ◌==◌, List, [], ◌∷◌, ◌++◌, Option, Some, None, ⊎_elim}
use Rattle.std.proofs.Common.{refl, sym, ap, ◌∙◌, subst, ◌↔◌, ◌⊎◌, inl, inr, append-nil}
use Rattle.std.proofs.Common.{append_assoc, eqb-true, arith}
use Rattle.sf_value.specs.declared.value.Field.TheVariants as field
use Rattle.sf_value.specs.declared.value.Kind.TheVariants as kind
use Rattle.sf_value.specs.Grammar.Words.{allow}
use Rattle.sf_value.specs.Grammar.Classes.{is_sp, is_ows, is_key_start, is_in_key}
use Rattle.sf_value.specs.Grammar.Pairs.{Pairs, settle, Pairs}
use Rattle.sf_value.specs.Grammar.Tokens.{SpellsWord}
use Rattle.sf_value.specs.Grammar.Items.{item}
use Rattle.sf_value.specs.Grammar.InnerLists.{SpellsMember}
use Rattle.sf_value.specs.Grammar.Series.{SpellsWhole}
use Rattle.sf_value.specs.Grammar.Fields.{list_of, dict_of, flag, SpellsEntry, SpellsField}
use Rattle.sf_value.specs.declared.dialect.Dialect.{Dialect}
use Rattle.sf_value.specs.declared.value.Bare.TheVariants.{Boolean}
use Rattle.sf_value.specs.declared.value.Item.{Item}
use Rattle.sf_value.specs.declared.value.Member.{Member}
use Rattle.sf_value.specs.declared.value.Field.{Field}
use Rattle.sf_value.specs.declared.value.Kind.{Kind}
use Rattle.sf_parse.specs.Machine.Language.{Then, Machine, Reads, Live, is_after}
use Rattle.sf_parse.specs.Machine.Texts.{word_step}
use Rattle.sf_parse.specs.Machine.Params.{between_step, params_step, params_finish}
use Rattle.sf_parse.specs.Machine.Items.{ItemState}
use Rattle.sf_parse.specs.Machine.Items.{item_start, item_step, item_finish}
use Rattle.sf_parse.specs.Machine.Members.{MemberState}
use Rattle.sf_parse.specs.Machine.Series.{Begin}
use Rattle.sf_parse.specs.Machine.Entries.{EntryState}
use Rattle.sf_parse.specs.Machine.Entries.{InKey, Equals, InMemberValue, InFlag}
use Rattle.sf_parse.specs.Machine.States.{State}
use Rattle.sf_parse.specs.Machine.States.{BeforeItem, InsideItem, AfterItem, InList}
use Rattle.sf_parse.specs.Machine.States.{InDict}
use Rattle.sf_parse.specs.Machine.Fields.{list_series, dict_series, Tail, Residual, Good, step}
use Rattle.sf_parse.specs.Machine.Fields.{finish}
use Rattle.sf_parse.specs.Machine.Fields.{begin}
use Rattle.sf_parse.proofs.Machine.Language.{reads_iff, reads_mapped, reads_then, reads_first}
use Rattle.sf_parse.proofs.Machine.Language.{reads_either}
use Rattle.sf_parse.proofs.Machine.Language.{reads_after, reads_nothing, reads_past, reads_as}
use Rattle.sf_parse.proofs.Machine.Language.{otherwise_none, map_cases, onward_cases}
use Rattle.sf_value.proofs.Words.{allow_cases, option_or_cases}
use Rattle.sf_value.proofs.Settling.{put_settled, put_more}
use Rattle.sf_parse.proofs.Machine.Texts.{word_reads, word_starts}
use Rattle.sf_parse.proofs.Machine.Bares.{same}
use Rattle.sf_parse.proofs.Machine.Params.{between_reads, params_reads, params_lives, params_apart}
use Rattle.sf_parse.proofs.Machine.Params.{between_apart, no_raw, not_key, not_equals}
use Rattle.sf_parse.proofs.Machine.Items.{no_item, item_not, item_reads, item_starts, item_lives}
use Rattle.sf_parse.proofs.Machine.Items.{item_apart}
use Rattle.sf_parse.proofs.Machine.Inners.{no_member, member_reads, member_starts, member_lives}
use Rattle.sf_parse.proofs.Machine.Inners.{member_apart}
use Rattle.sf_parse.proofs.Machine.Series.{SeriesLaws, series_reads, series_lives, series_texts}
use Rattle.sf_parse.proofs.Machine.Series.{sp_ows}
use Rattle.sf_parse.proofs.Machine.Series.{ows_after}
use Rattle.sf_parse.specs.Machine.Members.{member_start, member_step, member_finish}
use Rattle.sf_parse.specs.Machine.Entries.{with_key, flag_of, BehindKey, ResidualEntry, GoodEntry}
use Rattle.sf_parse.specs.Machine.Entries.{entry_start, after_key_step, entry_step, entry_finish}

key_apart : (k : List ℕ) (b : ℕ) (t : EntryState) → is_in_key b ≡ true
    → after_key_step k b ≡ Some t → ⊥
key_apart k b t e n = ⊎_elim
    (λ h. let x = eqb-true b 61 (allow_cases (b == 61) (Equals k) t h).0 in
    let f : is_in_key 61 ≡ true = rw x at e in cc)
    (λ h. let c = map_cases (InFlag k) (between_step [] b) t h.1 in
    let x = eqb-true b 59 (allow_cases (b == 59) _ c.0 c.1).0 in
    let f : is_in_key 59 ≡ true = rw x at e in cc)
    (option_or_cases (allow (b == 61) (Equals k)) (option_map (InFlag k) (between_step [] b)) t n)

ows_cases : (b : ℕ) → is_ows b ≡ true → (b ≡ 32) ⊎ (b ≡ 9)
ows_cases b e = grind arith

-- what begins no text at a space or a tab
pub no_ows : {S : Type 0} (start : ℕ → Option S) → start 32 ≡ None → start 9 ≡ None → (b : ℕ) (t : S)
    → is_ows b ≡ true → start b ≡ Some t → ⊥
no_ows start e32 e9 b t e n = ⊎_elim (λ x. clash (start b) t (ap start x
    ∙ e32) n) (λ x. clash (start b) t (ap start x ∙ e9) n) (ows_cases b e)
  where
    clash : {S : Type 0} (o : Option S) (t : S) → o ≡ None → o ≡ Some t → ⊥
    clash o t e n = cc

pub begin_good : (kind : Kind) → Good (begin kind)
begin_good kind.Item = tt
begin_good kind = tt

module _ (d : Dialect) where
  abbrev ReadsEntry : (List ℕ → List ℕ × Member → Type 0) → (ℕ → Option EntryState) → Option (List ℕ
      × Member) → Type 0
  ReadsEntry = Reads EntryState (List ℕ × Member) GoodEntry (ResidualEntry d)

  after_key_reads : (k : List ℕ)
      → ReadsEntry (BehindKey d k) (after_key_step k) (Some (flag_of k []))
  after_key_reads k = reads_either (reads_after 61 (Equals k) tt)
      (reads_mapped (InFlag k) (flag_of k) (λ s g. g) (λ s t v. same) (between_reads d [] refl))
      apart
      (λ v w. λ e. absurd cc)
    where
      apart : (b : ℕ) (s t : EntryState) → allow (b == 61) (Equals k) ≡ Some s
          → option_map (InFlag k) (between_step [] b) ≡ Some t → ⊥
      apart b s t e n =
          let x = eqb-true b 61 (allow_cases (b == 61) (Equals k) s e).0 in
          let n' : option_map (InFlag k) (between_step [] 61) ≡ Some t = rw x at n in cc

  entry_reads : (s : EntryState) → GoodEntry s
      → ReadsEntry (ResidualEntry d s) (entry_step d s) (entry_finish s)
  entry_reads (InKey k) g = reads_then InKey (λ k t. tt) (λ k t v. same) (word_reads is_in_key k)
      (λ x e. after_key_reads x) apart
    where
      apart : (x : List ℕ) (b : ℕ) (s : List ℕ) (t : EntryState) → Some k ≡ Some x
          → word_step is_in_key k b ≡ Some s → after_key_step x b ≡ Some t → ⊥
      apart x b s t e n m = key_apart x b t (allow_cases (is_in_key b) (k ++ b ∷ []) s n).0 m
  entry_reads (Equals k) g = reads_mapped (InMemberValue k) (with_key k) (λ s g. g) (λ s t v. same)
      (member_starts d)
  entry_reads (InMemberValue k s) g = reads_mapped (InMemberValue k) (with_key k) (λ s g. g)
      (λ s t v. same)
      (member_reads d s g)
  entry_reads (InFlag k s) g = reads_mapped (InFlag k) (flag_of k) (λ s g. g) (λ s t v. same)
      (params_reads d s g)

  entry_to : (t : List ℕ) (p : List ℕ × Member)
      → Then (SpellsWord is_key_start is_in_key) (BehindKey d) t p → SpellsEntry d t p
  entry_to t p (k, prefix, suffix, e, (a, w), inl (b2, e1, (m, s, c))) =
      subst (λ y. SpellsEntry d t y) (sym c) (
        b2,
        w,
        inl (
          (let e' : t
              ≡ k ++ 61 ∷ b2 = cc in e'),
          s,
        ),
      )
  entry_to t p (k, prefix, suffix, e, (a, w), inr (ps, s, c)) =
      subst (λ y. SpellsEntry d t y) (sym c) (
        suffix,
        w,
        inr (
          ps,
          refl,
          (let e' : t ≡ k ++ suffix = cc in
              e'),
          s,
        ),
      )

  entry_from : (t : List ℕ) (p : List ℕ × Member) → SpellsEntry d t p
      → Then (SpellsWord is_key_start is_in_key) (BehindKey d) t p
  entry_from t p (suffix, w, inl (e, s)) = (
    p.0,
    p.0,
    61 ∷ suffix,
    e,
    (refl, w),
    inl (suffix, refl, (p.1, s, refl)),
  )
  entry_from t p (suffix, w, inr (ps, i, e, s)) = (
    p.0,
    p.0,
    suffix,
    e,
    (refl, w),
    inr (ps, s, ap (λ y. (p.0, y)) i),
  )

  entry_starts : ReadsEntry (SpellsEntry d) entry_start None
  entry_starts = reads_iff (λ t p. (
    entry_to t p,
    entry_from t p,
  ))
      (reads_first InKey (λ k t. tt) (λ k t v. same) (word_starts is_key_start is_in_key))

  entry_lives : (s : EntryState) → GoodEntry s → Live (List ℕ × Member) (ResidualEntry d s)
  entry_lives (InKey k) g = record {
    text = [];
    value = flag_of k [];
    whole = (
      k,
      [],
      [],
      refl,
      (tt, sym (append-nil k)),
      inr ([], no_raw d [] refl, refl),
    );
  }
  entry_lives (Equals k) g = record {
    text = 63 ∷ 49 ∷ [];
    value = with_key k (flag []);
    whole = (
      flag [],
      (63 ∷ 49 ∷ [], [], refl, refl, ([], refl, refl)),
      refl,
    );
  }
  entry_lives (InMemberValue k s) g = let l = member_lives d s g in
      record { text = l.text; value = with_key k l.value; whole = (l.value, l.whole, refl) }
  entry_lives (InFlag k s) g = let l = params_lives d s g in
      record { text = l.text; value = flag_of k l.value; whole = (l.value, l.whole, refl) }

  entry_apart : (s : EntryState) (v : List ℕ × Member) (b : ℕ) (t : EntryState)
      → entry_finish s ≡ Some v → entry_step d s b ≡ Some t → is_after b ≡ true → ⊥
  entry_apart (InKey k) v b t e n f = ⊎_elim
      (λ o. not_key b (allow_cases (is_in_key b) (k ++ b ∷ []) o.0 o.1).0 f)
      (λ o. ⊎_elim
      (λ h. not_equals b (allow_cases (b == 61) (Equals o.0) t h).0 f)
      (λ h. let c = map_cases (InFlag o.0) (between_step [] b) t h.1 in
      between_apart [] b c.0 c.1 f)
      (option_or_cases (allow (b == 61) (Equals o.0))
      (option_map (InFlag o.0) (between_step [] b)) t o.3))
      (onward_cases InKey (word_step is_in_key k b) (Some k) (λ k. after_key_step k b) t n)
  entry_apart (Equals k) v b t e n f = cc
  entry_apart (InMemberValue k s) v b t e n f =
      let c = map_cases (with_key k) (member_finish s) v e in
      let o = map_cases (InMemberValue k) (member_step d s b) t n in
      member_apart d s c.0 b o.0 c.1 o.1 f
  entry_apart (InFlag k s) v b t e n f =
      let c = map_cases (flag_of k) (params_finish s) v e in
      let o = map_cases (InFlag k) (params_step d s b) t n in
      params_apart d s c.0 b o.0 c.1 o.1 f

  pub list_laws : SeriesLaws MemberState Member (List Member) (list_series d)
  list_laws = record {
    starts = member_starts d;
    reads = member_reads d;
    lives = member_lives d;
    one = record {
      text = 63 ∷ 49 ∷ [];
      value = flag [];
      whole = (
        63 ∷ 49 ∷ [],
        [],
        refl,
        refl,
        ([], refl, refl),
      );
    };
    apart = member_apart d;
    no_space = no_ows (member_start d) (no_member d).0 (no_member d).1;
    settled_none = tt;
    settled_add = λ ms m g. tt;
    all_none = λ ms g. append-nil ms;
    all_add = λ ms m more. append_assoc ms (m ∷ []) more;
  }

  pub dict_laws : SeriesLaws EntryState (List ℕ × Member) (Pairs Member) (dict_series d)
  dict_laws = record {
    starts = entry_starts;
    reads = entry_reads;
    lives = entry_lives;
    one = record {
      text = 97 ∷ [];
      value = flag_of (97 ∷ []) [];
      whole = (
        [],
        (refl, tt),
        inr ([], refl, refl, ([], refl, refl)),
      );
    };
    apart = entry_apart;
    no_space = no_ows entry_start refl refl;
    settled_none = refl;
    settled_add = λ ps p g. put_settled ps p.0 p.1;
    all_none = λ ps g. ap settle (append-nil ps) ∙ g;
    all_add = λ ps p raw. put_more ps p.0 p.1 raw;
  }

  abbrev ReadsField : (List ℕ → Field → Type 0) → (ℕ → Option State) → Option Field → Type 0
  ReadsField = Reads State Field Good (Residual d)

  tail_reads : (i : Item)
      → ReadsField (Tail i) (λ b. allow (is_sp b) (AfterItem i)) (Some (field.Item i))
  tail_reads i = reads_as (λ b. otherwise_none (allow (is_sp b) (AfterItem i)))
      (reads_past is_sp (AfterItem i) tt (λ u v. same) (λ b t e n. cc)
      (reads_nothing (field.Item i)))

  reads : (s : State) → Good s → ReadsField (Residual d s) (step d s) (finish s)
  reads BeforeItem g = reads_past is_sp BeforeItem tt (λ u v. same) apart
      (reads_first InsideItem (λ s g. g) (λ s t v. same) (item_starts d))
    where
      apart : (b : ℕ) (t : State) → is_sp b ≡ true → option_map InsideItem (item_start d b) ≡ Some t → ⊥
      apart b t e n = let c = map_cases InsideItem (item_start d b) t n in
          item_not d b 32 c.0 (eqb-true b 32 e) (no_item d).0 c.1
  reads (InsideItem s) g = reads_then InsideItem (λ s g. g) (λ s t v. same) (item_reads d s g)
      (λ i e. tail_reads i) apart
    where
      apart : (i : Item) (b : ℕ) (s' : ItemState) (t : State) → item_finish s ≡ Some i
          → item_step d s b ≡ Some s' → allow (is_sp b) (AfterItem i) ≡ Some t → ⊥
      apart i b s' t e n m = item_apart d s i b s' e n
          (ows_after b (sp_ows b (allow_cases (is_sp b) (AfterItem i) t m).0))
  reads (AfterItem i) g = tail_reads i
  reads (InList s) g = reads_mapped InList list_of (λ s g. g) (λ s t v. same)
      (series_reads (list_series d) list_laws s g)
  reads (InDict s) g = reads_mapped InDict dict_of (λ s g. g) (λ s t v. same)
      (series_reads (dict_series d) dict_laws s g)

  lives : (s : State) → Good s → Live Field (Residual d s)
  lives BeforeItem g = record {
    text = 63 ∷ 49 ∷ [];
    value = field.Item (item (Boolean true) []);
    whole = (
      [],
      63 ∷ 49 ∷ [],
      refl,
      tt,
      (
        item (Boolean true) [],
        63 ∷ 49 ∷ [],
        [],
        refl,
        (63 ∷ 49 ∷ [], [], refl, refl, ([], refl, refl)),
        ([], [], refl, tt, (refl, refl)),
      ),
    );
  }
  lives (InsideItem s) g = let l = item_lives d s g in
      record {
        text = l.text;
        value = field.Item l.value;
        whole = (
          l.value,
          l.text,
          [],
          sym (append-nil l.text),
          l.whole,
          ([], [], refl, tt, (refl, refl)),
        );
      }
  lives (AfterItem i) g = record {
    text = [];
    value = field.Item i;
    whole = (
      [],
      [],
      refl,
      tt,
      (refl, refl),
    );
  }
  lives (InList s) g = let l = series_lives (list_series d) list_laws s g in
      record { text = l.text; value = list_of l.value; whole = (l.value, l.whole, refl) }
  lives (InDict s) g = let l = series_lives (dict_series d) dict_laws s g in
      record { text = l.text; value = dict_of l.value; whole = (l.value, l.whole, refl) }

  pub machine : Machine State Field Good (Residual d) (step d) finish
  machine = record { reads = reads; lives = lives }

  -- the rest of a new machine is the grammar
  pub begins : (kind : Kind) (t : List ℕ) (v : Field)
      → Residual d (begin kind) t v ↔ SpellsField d kind t v
  begins kind.Item t v = (to v, from v)
    where
      to : (v : Field) → Residual d BeforeItem t v → SpellsField d kind.Item t v
      to v (gap, rest, e, f, (i, body, suffix, e1, s, (tail, last, e2, w, (e3, c)))) =
          subst (λ y. SpellsField d kind.Item t y) (sym c) (
            gap,
            body,
            tail,
            (let e4 : suffix ≡ tail = e2
                ∙ ap (λ y. tail ++ y) e3 ∙ append-nil tail in cc),
            f,
            s,
            w,
          )

      from : (v : Field) → SpellsField d kind.Item t v → Residual d BeforeItem t v
      from (field.Item i) (gap, body, tail, e, f, s, w) = (
        gap,
        body ++ tail,
        e,
        f,
        (i, body, tail, refl, s, (tail, [], sym (append-nil tail), w, (refl, refl))),
      )
      from v h = elim h [ ]
  begins kind.List t v = (to v, from v)
    where
      at : (ms more : List Member) → ms ≡ more → SpellsWhole (SpellsMember d) t more
          → SpellsField d kind.List t (list_of ms)
      at ms more e w = subst (λ y. SpellsField d kind.List t (list_of y)) (sym e) w

      to : (v : Field) → Residual d (InList Begin) t v → SpellsField d kind.List t v
      to v (ms, h, c) = let k = (series_texts (list_series d) list_laws t ms).0 h in
          subst (λ y. SpellsField d kind.List t y) (sym c) (at ms k.0 k.1 k.2)

      from : (v : Field) → SpellsField d kind.List t v → Residual d (InList Begin) t v
      from (field.Item i) h = elim h [ ]
      from (field.List l) h = (
        l.members,
        (series_texts (list_series d) list_laws t l.members).1 (l.members, refl, h),
        refl,
      )
      from (field.Dict m) h = elim h [ ]
  begins kind.Dict t v = (to v, from v)
    where
      to : (v : Field) → Residual d (InDict Begin) t v → SpellsField d kind.Dict t v
      to v (
        ps,
        h,
        c,
      ) = subst (λ y. SpellsField d kind.Dict t y) (sym c)
          ((series_texts (dict_series d) dict_laws t ps).0 h)

      from : (v : Field) → SpellsField d kind.Dict t v → Residual d (InDict Begin) t v
      from (field.Dict m) h =
          (m.members, (series_texts (dict_series d) dict_laws t m.members).1 h, refl)
      from v h = elim h [ ]
