-- Whole members, and where the machine of a series goes by them.
use Rattle.std.specs.Option.{option_map}
use Rattle.std.proofs.Common.{◌≡◌, ℕ, Bool, true, false, List, [], ◌∷◌, ◌++◌, Option, Some}
use Rattle.std.proofs.Common.{refl, sym, ap, ◌∙◌, subst, inl, inr, ⊎_elim, arith}
use Rattle.std.proofs.Common.{◌⊎◌}
use Rattle.sf_value.specs.Grammar.Words.{Every}
use Rattle.sf_value.specs.Grammar.Classes.{is_sp, is_ows}
use Rattle.sf_parse.specs.AllocationFree.{SeriesFree}
use Rattle.sf_parse.specs.StaysFree.{series_keeps}
use Rattle.sf_parse.specs.Machine.Language.{Machine}
use Rattle.sf_parse.specs.Machine.Series.{Series, SeriesState, Begin, InMember, Gap, Comma}
use Rattle.sf_parse.specs.Prefixes.{Goes}
use Rattle.std.proofs.Common.{◌≢◌}
use Rattle.sf_parse.specs.SeriesView.{series_next, series_end, series_of}
use Rattle.sf_parse.specs.declared.series.SeriesPhase.{SeriesPhase}
use Rattle.sf_parse.specs.declared.series.SeriesPhase.TheVariants as phase
use Rattle.sf_parse.specs.WholeParts.{ReadsAs, BeginsMember}
use Rattle.sf_parse.specs.WholeMembers.{IsWholeMember, MayBegin, MayEnd, NoneOpen}
use Rattle.sf_parse.specs.WholeMembers.{TakesMembers, IsAfterMember}
use Rattle.sf_parse.proofs.Machine.Language.{is_none}
use Rattle.sf_parse.proofs.Machine.Series.{SeriesLaws, ows_after, sp_ows}
use Rattle.sf_parse.proofs.Prefixes.{goes_one, goes_more, goes_above, free_goes, every_split}
use Rattle.sf_parse.proofs.ByteRuns.{stay_goes}
use Rattle.sf_parse.proofs.SeriesSteps.{gap_stays, comma_stays, member_goes_on}
use Rattle.sf_parse.proofs.WholeParts.{spells_run}

-- a member that its text spells, which is added as y
module _ {S X V Y : Type 0} (k : Series S X V) (law : SeriesLaws S X V k)
    (added : S → V → Option V) (with : V → Y → V) where
  pub whole_member : (text rest : List ℕ) (x : X) (y : Y)
      → ((s : S) (given : V) → added s given ≡ option_map (k.add given) (k.finish s))
      → ((given : V) → k.add given x ≡ with given y) → ReadsAs k.Spells text x rest
      → IsWholeMember k.start k.step added with text y rest
  whole_member text rest x y h j r =
      let m : Machine S X k.Good k.Residual k.step k.finish =
      record { reads = law.reads; lives = law.lives } in
      let w = spells_run m k.Spells k.start law.starts r.prefix x r.spelled in
      record {
        byte = w.byte;
        more = w.more;
        begun = w.first;
        whole = w.last;
        split = r.split ∙ ap (λ p. p ++ rest) w.split;
        no_space = apart (is_ows w.byte) refl (law.no_space w.byte w.first) w.starts;
        starts = w.starts;
        leads = w.leads;
        adds = λ given.
            h w.last given ∙ ap (option_map (k.add given)) w.ends ∙ ap Some (j given);
        apart = λ b e. is_none (k.step w.last b) (λ t n. law.apart w.last x b t w.ends n e);
      }
    where
      apart : {o : Option S} {s : S} (c : Bool) → {d : Bool} → d ≡ c
          → (d ≡ true → o ≡ Some s → ⊥) → o ≡ Some s → d ≡ false
      apart true e h n = absurd (h e n)
      apart false e h n = e

not_sp : (b : ℕ) → is_ows b ≡ false → is_sp b ≡ false
not_sp b e = grind arith

module _ {S X V : Type 0} (first : ℕ → Option S) (next : S → ℕ → Option S)
    (added : S → V → Option V) (none : V) (with : V → X → V) where
  abbrev Next : SeriesState S V → ℕ → Option (SeriesState S V)
  Next = series_next first next added none

  abbrev End : SeriesState S V → Option V
  End = series_end added none

  abbrev IsWhole : List ℕ → X → List ℕ → Type 0
  IsWhole = IsWholeMember first next added with

  begins : (p : SeriesPhase) (given : V) (s : S) (text rest : List ℕ) (x : X)
      → MayBegin none p given → (w : IsWhole text x rest)
      → Next (series_of p given s) w.byte ≡ Some (InMember given w.begun)
  begins phase.Begin given s text rest x m w =
      rw (not_sp w.byte w.no_space, w.starts) (ap (λ g. Some (InMember g w.begun)) (sym m))
  begins phase.InMember given s text rest x m w = absurd m
  begins phase.Gap given s text rest x m w = absurd m
  begins phase.Comma given s text rest x m w = rw (w.no_space, w.starts) refl

  member_goes : (old : SeriesState S V) (given : V) (text rest : List ℕ) (x : X)
      → (w : IsWhole text x rest) → Next old w.byte ≡ Some (InMember given w.begun)
      → Goes Next old text rest (InMember given w.whole)
  member_goes old given text rest x w e =
      subst (λ y. Goes Next old y rest (InMember given w.whole)) (sym w.split)
      (goes_more Next old (InMember given w.begun) (InMember given w.whole)
      (w.byte ∷ (w.more ++ rest)) (w.more ++ rest) rest
      (goes_one Next old (InMember given w.begun) w.byte (w.more ++ rest) e)
      (goes_above next Next (InMember given) (member_goes_on first next added none given) w.begun
      w.whole (w.more ++ rest) rest
      (record { taken = w.more; split = refl; leads = w.leads })))

  -- white space after a member, which adds it
  abbrev IsBehind : V → V → S → SeriesState S V → Type 0
  IsBehind given new s t = (t ≡ InMember given s) ⊎ (t ≡ Gap new)

  white_goes : (given new : V) (text after rest white : List ℕ) (x : X)
      → (w : IsWhole text x after) → new ≡ with given x → Every is_ows white
      → (t : SeriesState S V) × Goes Next (InMember given w.whole) (white ++ rest) rest t
      × IsBehind given new w.whole t
  white_goes given new text after rest [] x w e h =
      (InMember given w.whole, record { taken = []; split = refl; leads = refl }, inl refl)
  white_goes given new text after rest (b ∷ white) x w e h = (
    Gap new,
    goes_more Next (InMember given w.whole) (Gap new) (Gap new) (b ∷ (white ++ rest))
        (white ++ rest) rest
        (goes_one Next (InMember given w.whole) (Gap new) b (white ++ rest)
        (rw (w.apart b (ows_after b h.0), w.adds given, h.0) (ap (λ g. Some (Gap g)) (sym e))))
        (stay_goes Next is_ows (Gap new) white rest (white ++ rest)
        (gap_stays first next added none new) refl h.1),
    inr refl,
  )

  comma_step : (given new : V) (text after : List ℕ) (x : X) (t : SeriesState S V)
      → (w : IsWhole text x after) → new ≡ with given x → IsBehind given new w.whole t
      → Next t 44 ≡ Some (Comma new)
  comma_step given new text after x t w e (inl h) =
      ap (λ y. Next y 44) h ∙ rw (w.apart 44 refl, w.adds given) (ap (λ g. Some (Comma g)) (sym e))
  comma_step given new text after x t w e (inr h) = ap (λ y. Next y 44) h

  end_value : (given new : V) (text after : List ℕ) (x : X) (t : SeriesState S V)
      → (w : IsWhole text x after) → new ≡ with given x → IsBehind given new w.whole t
      → End t ≡ Some new
  end_value given new text after x t w e (inl h) = ap End h ∙ w.adds given ∙ ap Some (sym e)
  end_value given new text after x t w e (inr h) = ap End h

  -- a member, a comma, and the white space around it
  comma_taken : (p : SeriesPhase) (given new : V) (s : S)
      (text after end more rest white space : List ℕ) (x : X) → MayBegin none p given
      → IsWhole text x after → new ≡ with given x → after ≡ white ++ end → Every is_ows white
      → end ≡ 44 ∷ more → more ≡ space ++ rest → Every is_ows space
      → Goes Next (series_of p given s) text rest (Comma new)
  comma_taken p given new s text after end more rest white space x m w e f h i j k =
      let old = series_of p given s in
      let t = white_goes given new text after end white x w e h in
      let a = member_goes old given text after x w (begins p given s text after x m w) in
      let b = goes_more Next old (InMember given w.whole) t.0 text after end a
      (subst (λ y. Goes Next (InMember given w.whole) y end t.0) (sym f) t.1) in
      let c = goes_one Next t.0 (Comma new) 44 more (comma_step given new text after x t.0 w e t.2)
      in
      goes_more Next old (Comma new) (Comma new) text more rest
      (goes_more Next old t.0 (Comma new) text end more b
      (subst (λ y. Goes Next t.0 y more (Comma new)) (sym i) c))
      (stay_goes Next is_ows (Comma new) space rest more (comma_stays first next added none new) j
      k)

  -- a member, and white space after it
  gap_taken : (p : SeriesPhase) (given new : V) (s : S) (text after rest white : List ℕ) (x : X)
      → MayBegin none p given → IsWhole text x after → new ≡ with given x → after ≡ white ++ rest
      → Every is_ows white → white ≢ [] → Goes Next (series_of p given s) text rest (Gap new)
  gap_taken p given new s text after rest [] x m w e f h n = absurd (n refl)
  gap_taken p given new s text after rest (b ∷ white) x m w e f h n =
      let old = series_of p given s in
      goes_more Next old (InMember given w.whole) (Gap new) text after rest
      (member_goes old given text after x w (begins p given s text after x m w))
      (subst (λ y. Goes Next (InMember given w.whole) y rest (Gap new)) (sym f)
      (goes_more Next (InMember given w.whole) (Gap new) (Gap new) (b ∷ (white ++ rest))
      (white ++ rest) rest
      (goes_one Next (InMember given w.whole) (Gap new) b (white ++ rest)
      (rw (w.apart b (ows_after b h.0), w.adds given, h.0) (ap (λ g. Some (Gap g)) (sym e))))
      (stay_goes Next is_ows (Gap new) white rest (white ++ rest)
      (gap_stays first next added none new) refl h.1)))

  -- the last member of a whole text
  end_taken : (p : SeriesPhase) (given new : V) (s : S) (is_whole : Bool)
      (text after end white : List ℕ) (x : X) → MayBegin none p given → IsWhole text x after
      → new ≡ with given x → after ≡ white ++ end → Every is_ows white → end ≡ []
      → is_whole ≡ true
      → TakesMembers Next End is_whole (series_of p given s) text end phase.Gap new s
  end_taken p given new s is_whole text after end white x m w e f h i j =
      let old = series_of p given s in
      let t = white_goes given new text after end white x w e h in
      record {
        state = t.0;
        goes = goes_more Next old (InMember given w.whole) t.0 text after end
            (member_goes old given text after x w (begins p given s text after x m w))
            (subst (λ y. Goes Next (InMember given w.whole) y end t.0) (sym f) t.1);
        reached = inr (j, i, refl, end_value given new text after x t.0 w e t.2);
      }

  pub taken_so_far : (old : SeriesState S V) (chunk rest : List ℕ) (is_whole : Bool)
      (p : SeriesPhase) (given : V) (s : S) → Goes Next old chunk rest (series_of p given s)
      → TakesMembers Next End is_whole old chunk rest p given s
  taken_so_far old chunk rest is_whole p given s a =
      record { state = series_of p given s; goes = a; reached = inl refl }

  -- a member and what comes after it
  pub member_taken : (p q : SeriesPhase) (given new : V) (s : S) (is_whole : Bool)
      (text after rest : List ℕ) (x : X) → MayBegin none p given → IsWhole text x after
      → new ≡ with given x → IsAfterMember is_whole after q rest
      → TakesMembers Next End is_whole (series_of p given s) text rest q new s
  member_taken p phase.Begin given new s is_whole text after rest x m w e b = absurd b
  member_taken p phase.InMember given new s is_whole text after rest x m w e b = absurd b
  member_taken p phase.Gap given new s is_whole text after rest x m w e (white, f, h, inl n) =
      taken_so_far (series_of p given s) text rest is_whole phase.Gap new s
      (gap_taken p given new s text after rest white x m w e f h n)
  member_taken p phase.Gap given new s is_whole text after rest x m w e (white, f, h, inr (i, j)) =
      end_taken p given new s is_whole text after rest white x m w e f h i j
  member_taken p phase.Comma given new s is_whole text after rest x m w e (white, space, f, h, k) =
      taken_so_far (series_of p given s) text rest is_whole phase.Comma new s
      (comma_taken p given new s text after (44 ∷ (space ++ rest)) (space ++ rest) rest white space x
      m w e f h refl refl k)

  pub taken_more : (old mid : SeriesState S V) (chunk rest left : List ℕ) (is_whole : Bool)
      (p : SeriesPhase) (given : V) (s : S) → Goes Next old chunk rest mid
      → TakesMembers Next End is_whole mid rest left p given s
      → TakesMembers Next End is_whole old chunk left p given s
  taken_more old mid chunk rest left is_whole p given s a t = record {
    state = t.state;
    goes = goes_more Next old mid t.state chunk rest left a t.goes;
    reached = t.reached;
  }

  -- what does not allocate in a chunk does not in its window
  pub free_window : (old : SeriesState S V) (chunk window far : List ℕ) → chunk ≡ window ++ far
      → SeriesFree old chunk → SeriesFree old window
  free_window Begin chunk window far e h =
      (every_split is_sp window far (subst (Every is_sp) e h)).0
  free_window (InMember given s) chunk window far e h = h
  free_window (Gap given) chunk window far e h = h
  free_window (Comma given) chunk window far e h = h

  -- after a comma another member may begin
  pub comma_goes : (is_whole : Bool) (q : SeriesPhase) (given : V) (s : S) (old : SeriesState S V)
      (text rest : List ℕ) → q ≡ phase.Comma → TakesMembers Next End is_whole old text rest q given s
      → Goes Next old text rest (series_of q given s)
  comma_goes is_whole q given s old text rest e t = ⊎_elim
      (λ h. subst (Goes Next old text rest) h t.goes)
      (λ h. absurd (let k : phase.Comma ≡ phase.Gap = sym e ∙ h.2 in cc)) t.reached

  pub comma_may_begin : (q : SeriesPhase) (given : V) → q ≡ phase.Comma → MayBegin none q given
  comma_may_begin q given e = subst (λ y. MayBegin none y given) (sym e) tt

  pub after_open : (q : SeriesPhase) (is_whole : Bool) (given : V) (text rest : List ℕ)
      → IsAfterMember is_whole text q rest → NoneOpen none q given
  after_open phase.Begin is_whole given text rest b = absurd b
  after_open phase.InMember is_whole given text rest b = absurd b
  after_open phase.Gap is_whole given text rest b = tt
  after_open phase.Comma is_whole given text rest b = tt

  pub none_taken : (is_whole : Bool) (p : SeriesPhase) (given : V) (s : S) (text rest : List ℕ)
      → is_whole ≡ false
      → (old : SeriesState S V) → TakesMembers Next End is_whole old text rest p given s
      → Goes Next old text rest (series_of p given s)
  none_taken is_whole p given s text rest e old t = ⊎_elim
      (λ h. subst (Goes Next old text rest) h t.goes)
      (λ h. absurd (let k : true ≡ false = sym h.0 ∙ e in cc)) t.reached

  -- spaces are no member
  pub not_begun : (old : SeriesState S V) (p : SeriesPhase) (given : V) (s : S)
      (chunk text : List ℕ) → MayBegin none p given → BeginsMember text
      → Goes Next old chunk text (series_of p given s) → SeriesFree old chunk → ⊥
  not_begun old p given s chunk text m begun a h =
      by p m (free_goes Next SeriesFree (series_keeps first next added none) old
      (series_of p given s) chunk text h a)
    where
      by : (p : SeriesPhase) → MayBegin none p given → SeriesFree (series_of p given s) text → ⊥
      by phase.Begin m h =
          let k : Every is_sp (begun.0 ∷ begun.1) = subst (Every is_sp) begun.2 h in
          let j : true ≡ false = sym (sp_ows begun.0 k.0) ∙ begun.3 in cc
      by phase.InMember m h = m
      by phase.Gap m h = m
      by phase.Comma m h = h

  pub not_free : (old : SeriesState S V) (p : SeriesPhase) (given : V) (s : S)
      (chunk text rest : List ℕ) (x : X) → MayBegin none p given → IsWhole text x rest
      → Goes Next old chunk text (series_of p given s) → SeriesFree old chunk → ⊥
  not_free old p given s chunk text rest x m w =
      not_begun old p given s chunk text m (w.byte, w.more ++ rest, w.split, w.no_space)

  pub may_begin_open : (p : SeriesPhase) (given : V) → MayBegin none p given
      → NoneOpen none p given
  may_begin_open phase.Begin given m = m
  may_begin_open phase.InMember given m = m
  may_begin_open phase.Gap given m = tt
  may_begin_open phase.Comma given m = tt

  -- members that are all of a text
  pub taken_value : (is_whole : Bool) (old : SeriesState S V) (chunk rest : List ℕ)
      (p : SeriesPhase) (given : V) (s : S)
      → (t : TakesMembers Next End is_whole old chunk rest p given s) → NoneOpen none p given
      → MayEnd p → End t.state ≡ Some given
  taken_value is_whole old chunk rest p given s t m e = ⊎_elim
      (λ h. ap End h ∙ by p m e) (λ h. h.3) t.reached
    where
      by : (p : SeriesPhase) → NoneOpen none p given → MayEnd p
          → End (series_of p given s) ≡ Some given
      by phase.Begin m e = ap Some (sym m)
      by phase.InMember m e = absurd m
      by phase.Gap m e = refl
      by phase.Comma m e = absurd e
