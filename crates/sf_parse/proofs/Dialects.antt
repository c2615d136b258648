-- The two dialects: one machine but for the first bytes of Dates and Display Strings.
use Rattle.std.specs.Option.{option_map, option_or}
use Rattle.std.proofs.Common.{◌≡◌, ℕ, Bool, true, false, ◌==◌, List, [], ◌∷◌, ◌++◌, length, Option}
use Rattle.std.proofs.Common.{Some, None, refl, sym, ap, ◌∙◌, subst, ◌⊎◌, inl, inr, ⊎_elim}
use Rattle.std.proofs.Common.{eqb-true, arith}
use Rattle.sf_value.specs.Grammar.Words.{allow}
use Rattle.sf_value.specs.Grammar.Classes.{is_sp, is_ows, is_token_start}
use Rattle.sf_value.specs.Grammar.Pairs.{Pairs, put, Pairs}
use Rattle.sf_value.specs.Grammar.Fields.{SpellsField}
use Rattle.sf_value.specs.Grammar.Lines.{IsLongest}
use Rattle.sf_value.specs.declared.dialect.Dialect.TheVariants.{Rfc8941, Rfc9651}
use Rattle.sf_value.specs.declared.value.Member.{Member}
use Rattle.sf_value.specs.declared.value.Field.{Field}
use Rattle.sf_parse.specs.Machine.Language.{onward, run}
use Rattle.sf_parse.specs.Machine.Numbers.{number_start, Sign}
use Rattle.sf_parse.specs.Machine.Texts.{Inside, word_start}
use Rattle.sf_parse.specs.declared.boolean.BooleanState.TheVariants.{QuestionMark}
use Rattle.sf_parse.specs.Machine.Blobs.{Group, H0}
use Rattle.sf_parse.specs.Machine.Showns.{Quote}
use Rattle.sf_parse.specs.Machine.Bares.{BareState}
use Rattle.sf_parse.specs.Machine.Bares.{InNumber, InText, InToken, InBoolean}
use Rattle.sf_parse.specs.Machine.Bares.{InDate, InBlob, InShown}
use Rattle.sf_parse.specs.Machine.Bares.{bare_start}
use Rattle.sf_parse.specs.Machine.Params.{ParamsState, Between, EqualsParam}
use Rattle.sf_parse.specs.Machine.Params.{InValue, params_step}
use Rattle.sf_parse.specs.Machine.Items.{ItemState}
use Rattle.sf_parse.specs.Machine.Items.{InBare, InParams}
use Rattle.sf_parse.specs.Machine.Items.{item_start, item_step, item_finish}
use Rattle.sf_parse.specs.Machine.Inners.{InnerState, BetweenItems, InItem, Closing, after_step}
use Rattle.sf_parse.specs.Machine.Inners.{inner_step}
use Rattle.sf_parse.specs.Machine.Members.{MemberState}
use Rattle.sf_parse.specs.Machine.Members.{InOne, InMany}
use Rattle.sf_parse.specs.Machine.Series.{SeriesState, Begin, InMember, Gap, Comma, gap_step}
use Rattle.sf_parse.specs.Machine.Series.{series_step}
use Rattle.sf_parse.specs.Machine.Entries.{EntryState}
use Rattle.sf_parse.specs.Machine.Entries.{InKey, Equals, InMemberValue, InFlag}
use Rattle.sf_parse.specs.Machine.States.{State}
use Rattle.sf_parse.specs.Machine.States.{BeforeItem, InsideItem, AfterItem, InList}
use Rattle.sf_parse.specs.Machine.States.{InDict}
use Rattle.sf_parse.specs.Machine.Fields.{list_series, dict_series, step}
use Rattle.sf_parse.specs.Machine.Fields.{finish, begin}
use Rattle.sf_parse.specs.Laws.{At, OnlyNew}
use Rattle.sf_parse.proofs.Machine.Language.{and_then_cases}
use Rattle.sf_parse.proofs.GrammarLaws.{is_read, stops_at}
use Rattle.sf_parse.specs.Machine.Members.{member_start, member_step, member_finish}
use Rattle.sf_parse.specs.Machine.Entries.{entry_step, entry_finish}

-- @ or %
abbrev Mark : ℕ → Type 0
Mark b = (b ≡ 64) ⊎ (b ≡ 37)

mark_none : {S : Type 0} (f : ℕ → Option S) → f 64 ≡ None → f 37 ≡ None → (b : ℕ) → Mark b
    → f b ≡ None
mark_none f h k b (inl e) = ap f e ∙ h
mark_none f h k b (inr e) = ap f e ∙ k

-- the old machine steps as the new one, or it can't and the byte is one of these
abbrev Near : {S : Type 0} → ℕ → Option S → Option S → Type 0
Near b old new = (old ≡ new) ⊎ ((old ≡ None) × Mark b)

near_map : {S T : Type 0} {b : ℕ} {o n : Option S} (f : S → T) → Near b o n
    → Near b (option_map f o) (option_map f n)
near_map f (inl e) = inl (ap (option_map f) e)
near_map f (inr (e, m)) = inr (ap (option_map f) e, m)

near_second : {S : Type 0} {b : ℕ} {o n : Option S} (a : Option S) → (Mark b → a ≡ None)
    → Near b o n → Near b (option_or a o) (option_or a n)
near_second a h (inl e) = inl (ap (option_or a) e)
near_second {o = o} a h (inr (e, m)) = inr (ap (λ y. option_or y o) (h m) ∙ e, m)

near_first : {S : Type 0} {b : ℕ} {o n : Option S} (a : Option S) → (Mark b → a ≡ None) → Near b o n
    → Near b (option_or o a) (option_or n a)
near_first a h (inl e) = inl (ap (λ y. option_or y a) e)
near_first a h (inr (e, m)) = inr (ap (λ y. option_or y a) e ∙ h m, m)

near_onward : {S T X : Type 0} {b : ℕ} {o n : Option S} (into : S → T) (end : Option X) (after : X
    → Option T)
    → ((x : X) → Mark b → after x ≡ None) → Near b o n
    → Near b (onward into o end after) (onward into n end after)
near_onward into end after h (inl e) = inl (ap (λ y. onward into y end after) e)
near_onward {X = X} into end after h (inr (e, m)) = inr (
  ap (λ y. onward into y end after) e
      ∙ go end,
  m,
)
  where
    go : (end : Option X) → onward into None end after ≡ None
    go (Some x) = h x m
    go None = refl

last_near : (b : ℕ)
    → Near b (option_map InBlob (allow (b == 58) (Group [] H0)))
    (option_or (option_map InDate (allow (b == 64) Sign))
    (option_or (option_map InBlob (allow (b == 58) (Group [] H0)))
    (option_map InShown (allow (b == 37) Quote))))
last_near b = go (b == 64) (b == 37) refl refl
  where
    alone : (o : Option BareState) → o ≡ option_or o None
    alone (Some s) = refl
    alone None = refl

    go : (x y : Bool) → (b == 64) ≡ x → (b == 37) ≡ y
        → Near b (option_map InBlob (allow (b == 58) (Group [] H0)))
        (option_or (option_map InDate (allow (b == 64) Sign))
        (option_or (option_map InBlob (allow (b == 58) (Group [] H0)))
        (option_map InShown (allow (b == 37) Quote))))
    go true y e k = let m : Mark b = inl (eqb-true b 64 e) in
        inr (mark_none (λ b. option_map InBlob (allow (b == 58) (Group [] H0))) refl refl b m, m)
    go false true e k = let m : Mark b = inr (eqb-true b 37 k) in
        inr (mark_none (λ b. option_map InBlob (allow (b == 58) (Group [] H0))) refl refl b m, m)
    go false false e k = inl (rw (e, k) (alone (option_map InBlob (allow (b == 58) (Group [] H0)))))

old_last : (b : ℕ)
    → option_or (option_map InBlob (allow (b == 58) (Group [] H0))) None
    ≡ option_map InBlob (allow (b == 58) (Group [] H0))
old_last b = go (option_map InBlob (allow (b == 58) (Group [] H0)))
  where
    go : (o : Option BareState) → option_or o None ≡ o
    go (Some s) = refl
    go None = refl

bare_near : (b : ℕ) → Near b (bare_start Rfc8941 b) (bare_start Rfc9651 b)
bare_near b =
    near_second (option_map InNumber (number_start b))
    (mark_none (λ b. option_map InNumber (number_start b)) refl refl b)
    (near_second (option_map InText (allow (b == 34) (Inside [])))
    (mark_none (λ b. option_map InText (allow (b == 34) (Inside []))) refl refl b)
    (near_second (option_map InToken (word_start is_token_start b))
    (mark_none (λ b. option_map InToken (word_start is_token_start b)) refl refl b)
    (near_second (option_map InBoolean (allow (b == 63) QuestionMark))
    (mark_none (λ b. option_map InBoolean (allow (b == 63) QuestionMark)) refl refl b)
    (⊎_elim (λ e. inl (old_last b ∙ e)) (λ e. inr (old_last b ∙ e.0, e.1)) (last_near b)))))

params_near : (s : ParamsState) (b : ℕ) → Near b (params_step Rfc8941 s b) (params_step Rfc9651 s b)
params_near (EqualsParam ps k) b = near_map (InValue ps k) (bare_near b)
params_near s b = inl refl

item_start_near : (b : ℕ) → Near b (item_start Rfc8941 b) (item_start Rfc9651 b)
item_start_near b = near_map InBare (bare_near b)

item_near : (s : ItemState) (b : ℕ) → Near b (item_step Rfc8941 s b) (item_step Rfc9651 s b)
item_near (InBare s) b = inl refl
item_near (InParams x s) b = near_map (InParams x) (params_near s b)

inner_near : (s : InnerState) (b : ℕ) → Near b (inner_step Rfc8941 s b) (inner_step Rfc9651 s b)
inner_near (BetweenItems is) b =
    near_second (allow (is_sp b) (BetweenItems is)) (mark_none (λ b. allow (is_sp b) (BetweenItems is)) refl refl b)
    (near_second (allow (b == 41) (Closing is (Between [])))
    (mark_none (λ b. allow (b == 41) (Closing is (Between []))) refl refl b)
    (near_map (InItem is) (item_start_near b)))
inner_near (InItem is s) b = near_onward (InItem is) (item_finish s) (λ i. after_step (is
    ++ i ∷ []) b) (λ i. mark_none (after_step (is ++ i ∷ [])) refl refl b) (item_near s b)
inner_near (Closing is s) b = near_map (Closing is) (params_near s b)

member_start_near : (b : ℕ) → Near b (member_start Rfc8941 b) (member_start Rfc9651 b)
member_start_near b = near_first (option_map InMany (allow (b == 40) (BetweenItems [])))
    (mark_none (λ b. option_map InMany (allow (b == 40) (BetweenItems []))) refl refl b)
    (near_map InOne (item_start_near b))

member_near : (s : MemberState) (b : ℕ) → Near b (member_step Rfc8941 s b) (member_step Rfc9651 s b)
member_near (InOne s) b = near_map InOne (item_near s b)
member_near (InMany s) b = near_map InMany (inner_near s b)

entry_near : (s : EntryState) (b : ℕ) → Near b (entry_step Rfc8941 s b) (entry_step Rfc9651 s b)
entry_near (InKey k) b = inl refl
entry_near (Equals k) b = near_map (InMemberValue k) (member_start_near b)
entry_near (InMemberValue k s) b = near_map (InMemberValue k) (member_near s b)
entry_near (InFlag k s) b = near_map (InFlag k) (params_near s b)

list_near : (s : SeriesState MemberState (List Member)) (b : ℕ)
    → Near b (series_step (list_series Rfc8941) s b) (series_step (list_series Rfc9651) s b)
list_near Begin b = near_second (allow (is_sp b) Begin)
    (mark_none (λ b. allow (is_sp b) Begin) refl refl b)
    (near_map (InMember []) (member_start_near b))
list_near (InMember given s) b = near_onward (InMember given) (member_finish s)
    (λ x. gap_step (given
    ++ x ∷ []) b) (λ x. mark_none (gap_step (given
    ++ x ∷ [])) refl refl b) (member_near s b)
list_near (Gap given) b = inl refl
list_near (Comma given) b = near_second (allow (is_ows b) (Comma given))
    (mark_none (λ b. allow (is_ows b) (Comma given)) refl refl b)
    (near_map (InMember given) (member_start_near b))

dict_near : (s : SeriesState EntryState (Pairs Member)) (b : ℕ)
    → Near b (series_step (dict_series Rfc8941) s b) (series_step (dict_series Rfc9651) s b)
dict_near Begin b = inl refl
dict_near (InMember given s) b = near_onward (InMember given) (entry_finish s)
    (λ p. gap_step (put given p.0 p.1) b)
    (λ p. mark_none (gap_step (put given p.0 p.1)) refl refl b)
    (entry_near s b)
dict_near (Gap given) b = inl refl
dict_near (Comma given) b = inl refl

pub step_near : (s : State) (b : ℕ) → Near b (step Rfc8941 s b) (step Rfc9651 s b)
step_near BeforeItem b = near_second (allow (is_sp b) BeforeItem)
    (mark_none (λ b. allow (is_sp b) BeforeItem) refl refl b) (near_map InsideItem (item_start_near b))
step_near (InsideItem s) b = near_onward InsideItem (item_finish s) (λ i. allow (is_sp b) (AfterItem i))
    (λ i. mark_none (λ b. allow (is_sp b) (AfterItem i)) refl refl b) (item_near s b)
step_near (AfterItem i) b = inl refl
step_near (InList s) b = near_map InList (list_near s b)
step_near (InDict s) b = near_map InDict (dict_near s b)

-- where the old machine stops in a text
abbrev Stuck : State → List ℕ → Type 0
Stuck s t = (p q : List ℕ) × (b : ℕ) × (r : State) × (t ≡ p ++ b ∷ q)
    × (run (step Rfc8941) s p ≡ Some r) × (step Rfc8941 r b ≡ None) × Mark b

pub run_near : (s : State) (t : List ℕ) (r : State) → run (step Rfc9651) s t ≡ Some r
    → (run (step Rfc8941) s t ≡ Some r) ⊎ Stuck s t
run_near s [] r e = inl e
run_near s (b ∷ t) r e =
    let c = and_then_cases (step Rfc9651 s b) (λ s. run (step Rfc9651) s t) r e in
    go c.0 c.1 (step_near s b) (run_near c.0 t r c.2)
  where
    go : (x : State) → step Rfc9651 s b ≡ Some x → Near b (step Rfc8941 s b) (step Rfc9651 s b)
        → (run (step Rfc8941) x t ≡ Some r) ⊎ Stuck x t
        → (run (step Rfc8941) s (b ∷ t) ≡ Some r) ⊎ Stuck s (b ∷ t)
    go x k (inr (n, m)) h = inr ([], t, b, s, refl, refl, n, m)
    go x k (inl i) (inl h) = inl (rw (i ∙ k) h)
    go x k (inl i) (inr (p, q, c, y, e, h, n, m)) = inr (
      b ∷ p,
      q,
      c,
      y,
      ap (λ y. b ∷ y) e,
      rw (i
          ∙ k) h,
      n,
      m,
    )

place_one : (L : List ℕ → Field → Type 0) (t : List ℕ) (n m : ℕ) → IsLongest Field L t n
    → IsLongest Field L t m → n ≡ m
place_one L t n m a b = let x = a.longest m b.within b.viable in
    let y = b.longest n a.within a.viable in omega arith

pub only_new : OnlyNew
only_new kind t v h none n place =
    let c = and_then_cases (run (step Rfc9651) (begin kind) t) finish v
    ((is_read Rfc9651 kind t v).0 h) in
    go c.0 c.2 (run_near (begin kind) t c.0 c.1)
  where
    go : (s : State) → finish s ≡ Some v
        → (run (step Rfc8941) (begin kind) t ≡ Some s) ⊎ Stuck (begin kind) t
        → At t n 64 ⊎ At t n 37
    go s f (inl r) = absurd (none v ((is_read Rfc8941 kind t v).1 (rw r f)))
    go s f (inr (p, q, b, r, e, k, stop, m)) =
        let here = stops_at Rfc8941 kind p q b r k stop in
        let same = place_one (SpellsField Rfc8941 kind) t (length p) n
        (subst (λ y. IsLongest Field (SpellsField Rfc8941 kind) y (length p))
        (sym e) here) place in
        ⊎_elim (λ i. inl (p, q, subst (λ y. t ≡ p ++ y ∷ q) i e, same)) (λ i. inr (
          p,
          q,
          subst (λ y. t ≡ p ++ y ∷ q) i e,
          same,
        )) m
