-- A whole text of which the reader of its kind took a prefix: its exact refusal, or its only value.
use Rattle.std.proofs.Common.{◌≡◌, ℕ, ◌-◌, Bool, true, false, List, [], ◌∷◌, ◌++◌, length}
use Rattle.std.proofs.Common.{◌⊎◌, inl, inr, Option, Some, None, is_some, Err, refl, sym, ap, ◌∙◌}
use Rattle.std.proofs.Common.{subst, append-nil, ◌≤◌}
use Rattle.std.proofs.Common.{length-append, take_all, arith, zero, suc}
use Rattle.std.specs.List.{slice_get}
use Rattle.sf_value.specs.declared.dialect.Dialect.{Dialect}
use Rattle.sf_value.specs.declared.value.Field.{Field}
use Rattle.sf_value.specs.declared.value.Kind.{Kind}
use Rattle.sf_value.specs.declared.value.Kind.TheVariants as kind_is
use Rattle.sf_parse.specs.declared.refusal.Refusal.{Refusal}
use Rattle.sf_parse.specs.declared.refusal.Refusal.TheVariants.{Syntax}
use Rattle.std.specs.Option.{option_map}
use Rattle.sf_value.specs.declared.value.Item.{Item}
use Rattle.sf_value.specs.declared.value.Field.TheVariants as field_is
use Rattle.sf_value.specs.Grammar.Classes.{is_sp}
use Rattle.sf_value.specs.Grammar.Items.{SpellsItem}
use Rattle.sf_value.specs.Grammar.Fields.{SpellsField}
use Rattle.sf_parse.specs.Machine.Series.{SeriesState, Begin}
use Rattle.sf_parse.specs.SeriesView.{series_next, series_end}
use Rattle.sf_parse.specs.declared.series.SeriesPhase.{SeriesPhase}
use Rattle.sf_parse.specs.WholeParts.{ReadsAs}
use Rattle.sf_value.specs.Runs.{Skips}
use Rattle.sf_parse.specs.WholeMembers.{TakesMembers, NoneOpen, MayEnd}
use Rattle.sf_parse.proofs.GrammarLaws.{one_value}
use Rattle.sf_parse.proofs.ByteRuns.{stay_goes}
use Rattle.sf_parse.proofs.SeriesSteps.{space_stays}
use Rattle.sf_parse.proofs.Prefixes.{prefix_all, goes_above}
use Rattle.sf_parse.proofs.WholeMembers.{taken_more, taken_value}
use Rattle.sf_parse.specs.Machine.States.{State}
use Rattle.sf_parse.specs.Machine.Fields.{step, finish, begin}
use Rattle.sf_parse.specs.Machine.Tests.{takes, may_end}
use Rattle.sf_scan.specs.Sets.{Marks}
use Rattle.sf_parse.specs.Prefixes.{Goes, LongestPrefix}
use Rattle.sf_parse.specs.Reaching.{IsReachedBy}
use Rattle.sf_parse.specs.Parsers.{IsOnly, Parses, Refuses}
use Rattle.sf_value.specs.Grammar.Refusals.{IsSyntax}
use Rattle.sf_parse.specs.AllocationFree.{TakesNoMemory, FieldFree}
use Rattle.sf_parse.proofs.AllocationFreeSteps.{field_free_goes}
use Rattle.sf_parse.proofs.Reaching.{reached_nothing, reaches_more}
use Rattle.sf_parse.proofs.Refusals.{stops_exact, ends_exact, ends_only}

goes_took : (d : Dialect) (kind : Kind) (s t : State) (text rest : List ℕ) → s ≡ begin kind
    → (a : Goes (step d) s text rest t) → IsReachedBy d kind t a.taken
goes_took d kind s t text rest e a =
    reaches_more d kind s t [] a.taken
    (subst (λ y. IsReachedBy d kind y []) (sym e) (reached_nothing d kind)) a.leads

prefix_took : (d : Dialect) (kind : Kind) (s t : State) (text rest : List ℕ) → s ≡ begin kind
    → (a : LongestPrefix (step d) s text rest t) → IsReachedBy d kind t a.goes.taken
prefix_took d kind s t text rest e a = goes_took d kind s t text rest e a.goes

-- the place is what was taken
place_is : (taken rest text : List ℕ) → text ≡ taken ++ rest → length text - length rest
    ≡ length taken
place_is taken rest text e =
    let l : length text ≡ length (taken ++ rest) = ap length e in
    omega (arith, length-append taken rest)

whole_syntax : (d : Dialect) (kind : Kind) (s t : State) (text rest : List ℕ)
    (found : Option ℕ) (bits : ℕ) (may : Bool) → s ≡ begin kind
    → LongestPrefix (step d) s text rest t
    → found ≡ slice_get rest 0 → Marks bits (takes d t) → may ≡ may_end t
    → (is_some found ≡ true) ⊎ ((is_some found ≡ false) × (may ≡ false))
    → Parses d kind text (Err (Syntax (length text - length rest) found bits may))
whole_syntax d kind s t text (b ∷ rest) (Some c) bits may e a f m k h =
    let byte : b ≡ c = cc in
    let prefix = prefix_took d kind s t text (b ∷ rest) e a in
    subst (λ p. IsSyntax d kind text p (Some c) bits may)
    (sym (place_is a.goes.taken (b ∷ rest) text a.goes.split))
    (subst (λ y. IsSyntax d kind text (length a.goes.taken) (Some y) bits may) byte
    (subst (λ y. IsSyntax d kind y (length a.goes.taken) (Some b) bits may) (sym a.goes.split)
    (stops_exact d kind t a.goes.taken rest b bits may prefix a.stops m k)))
whole_syntax d kind s t text [] None bits may e a f m k (inl h) = absurd cc
whole_syntax d kind s t text [] None bits may e a f m k (inr h) =
    let prefix = prefix_took d kind s t text [] e a in
    let all : text ≡ a.goes.taken = a.goes.split ∙ append-nil a.goes.taken in
    subst (λ c. Parses d kind text (Err (Syntax (length text - 0) None bits c))) (sym h.1) (
      refl,
      subst (λ p. IsSyntax d kind text p None bits false)
          (sym (place_is a.goes.taken [] text a.goes.split))
          (subst (λ y. IsSyntax d kind y (length a.goes.taken) None bits false) (sym all)
          (ends_exact d kind t a.goes.taken bits prefix m (sym h.1 ∙ k))),
    )
whole_syntax d kind s t text [] (Some c) bits may e a f m k h = absurd cc
whole_syntax d kind s t text (b ∷ rest) None bits may e a f m k h = absurd cc

-- a byte is left, or the text may not end
pub whole_refused : (d : Dialect) (kind : Kind) (s t : State) (text rest : List ℕ)
    (found : Option ℕ) (may : Bool) (e : Refusal) → s ≡ begin kind
    → LongestPrefix (step d) s text rest t → found ≡ slice_get rest 0 → may ≡ may_end t
    → Refuses (takes d t) (may_end t) (length text - length rest) found e
    → (is_some found ≡ true) ⊎ ((is_some found ≡ false) × (may ≡ false))
    → Parses d kind text (Err e)
whole_refused d kind s t text rest found may e b a f k m h =
    subst (λ y. Parses d kind text (Err y))
    (ap (Syntax (length text - length rest) found m.expected) k ∙ sym m.syntax)
    (whole_syntax d kind s t text rest found m.expected may b a f m.marks k h)

-- no byte is at the end
end_of : (text : List ℕ) (place : ℕ) → None ≡ slice_get text place → length text ≤ place
end_of [] place e = omega arith
end_of (b ∷ text) zero e = absurd cc
end_of (b ∷ text) (suc place) e = let l = end_of text place e in omega arith

-- a text that is refused at its end may not end there
not_whole : (d : Dialect) (kind : Kind) (text : List ℕ) (place bits : ℕ) (may : Bool)
    → IsSyntax d kind text place None bits may → may ≡ false
not_whole d kind text place bits false s = refl
not_whole d kind text place bits true s =
    let ended = s.ends.0 refl in
    let all = take_all place text (end_of text place s.byte) in
    absurd (s.unspelled ended.0 (subst (λ y. SpellsField d kind y ended.0) all ended.1))

exact_parsed : (d : Dialect) (kind : Kind) (text : List ℕ) (place : ℕ) (found : Option ℕ)
    (bits : ℕ) (may : Bool) → IsSyntax d kind text place found bits may
    → Parses d kind text (Err (Syntax place found bits may))
exact_parsed d kind text place (Some b) bits may s = s
exact_parsed d kind text place None bits may s = (not_whole d kind text place bits may s, s)

-- an exact refusal is what parsing returns
pub syntax_parsed : (d : Dialect) (kind same : Kind) (text : List ℕ) (place : ℕ)
    (found first : Option ℕ) (bits : ℕ) (may : Bool) → kind ≡ same → found ≡ first
    → IsSyntax d kind text place first bits may
    → Parses d same text (Err (Syntax place found bits may))
syntax_parsed d kind same text place found first bits may e f s =
    subst (λ k. Parses d k text (Err (Syntax place found bits may))) e
    (exact_parsed d kind text place found bits may
    (subst (λ o. IsSyntax d kind text place o bits may) (sym f) s))

-- no byte is left, and the state has a value
pub whole_value : (d : Dialect) (kind : Kind) (s t : State) (text rest : List ℕ)
    (found : Option ℕ) (v : Field) → s ≡ begin kind → LongestPrefix (step d) s text rest t
    → found ≡ slice_get rest 0 → is_some found ≡ false → finish t ≡ Some v → IsOnly d kind text v
whole_value d kind s t text [] found v e a f n g =
    let all : text ≡ a.goes.taken = a.goes.split ∙ append-nil a.goes.taken in
    subst (λ y. IsOnly d kind y v) (sym all)
    (ends_only d kind t a.goes.taken v (prefix_took d kind s t text [] e a) g)
whole_value d kind s t text (b ∷ rest) found v e a f n g =
    absurd (let k : true ≡ false = sym (ap is_some f) ∙ n in cc)

-- a text that does not allocate takes none in the first state
pub begins_free : (kind : Kind) (text : List ℕ) → TakesNoMemory kind text
    → FieldFree (begin kind) text
begins_free kind_is.Item text h = h
begins_free kind text h = h

-- and no byte is left
pub whole_free : (d : Dialect) (kind : Kind) (s t : State) (text rest : List ℕ) (found : Option ℕ)
    → s ≡ begin kind → TakesNoMemory kind text → LongestPrefix (step d) s text rest t
    → found ≡ slice_get rest 0 → is_some found ≡ false → FieldFree t []
whole_free d kind s t text [] found e h a f n =
    field_free_goes d s t text [] (subst (λ y. FieldFree y text) (sym e) (begins_free kind text h))
    a.goes
whole_free d kind s t text (b ∷ rest) found e h a f n =
    absurd (let k : true ≡ false = sym (ap is_some f) ∙ n in cc)

-- an Item between spaces that are all of the text
pub item_parsed : (d : Dialect) (text inside after end : List ℕ) (i : Item) → Skips is_sp text inside
    → ReadsAs (SpellsItem d) inside i after → Skips is_sp after end → end ≡ []
    → IsOnly d kind_is.Item text (field_is.Item i)
item_parsed d text inside after end i a r b e =
    let spelled : SpellsField d kind_is.Item text (field_is.Item i) = (
      a.prefix,
      r.prefix,
      b.prefix,
      a.split
          ∙ ap (λ y. a.prefix ++ y)
          (r.split ∙ ap (λ y. r.prefix ++ y) (b.split ∙ ap (λ y. b.prefix ++ y) e
          ∙ append-nil b.prefix)),
      a.each,
      r.spelled,
      b.each,
    ) in
    record {
      spelled = spelled;
      only = λ w h. one_value d kind_is.Item text w (field_is.Item i) h spelled;
    }

-- no byte is left, and the state has a value
pub all_parsed : (d : Dialect) (kind : Kind) (t : State) (text rest : List ℕ) (v : Field)
    → Goes (step d) (begin kind) text rest t → rest ≡ [] → finish t ≡ Some v
    → IsOnly d kind text v
all_parsed d kind t text rest v a e f =
    whole_value d kind (begin kind) t text [] None v refl
    (prefix_all (step d) (begin kind) t text (subst (λ y. Goes (step d) (begin kind) text y t) e a))
    refl refl f

module _ {S X V : Type 0} (first : ℕ → Option S) (next : S → ℕ → Option S)
    (added : S → V → Option V) (none : V) (with : V → X → V)
    (d : Dialect) (kind : Kind) (into : SeriesState S V → State)
    (begins : begin kind ≡ into Begin)
    (steps : (s : SeriesState S V) (b : ℕ)
    → step d (into s) b ≡ option_map into (series_next first next added none s b)) where
  above : (s t : SeriesState S V) (chunk rest : List ℕ)
      → Goes (series_next first next added none) s chunk rest t
      → Goes (step d) (into s) chunk rest (into t)
  above = goes_above (series_next first next added none) (step d) into
      (λ s t b e. steps s b ∙ ap (option_map into) e)

  spaces_go : (text inside : List ℕ) → Skips is_sp text inside
      → Goes (series_next first next added none) Begin text inside Begin
  spaces_go text inside b =
      stay_goes (series_next first next added none) is_sp Begin b.prefix inside text
      (space_stays first next added none) b.split b.each

  -- whole members, and nothing else
  pub members_parsed : (text inside rest : List ℕ) (p : SeriesPhase) (given : V) (s : S)
      (v : Field) → Skips is_sp text inside
      → TakesMembers (series_next first next added none) (series_end added none) true Begin inside
      rest p given s
      → NoneOpen none p given → MayEnd p → rest ≡ []
      → ((t : SeriesState S V) → series_end added none t ≡ Some given → finish (into t) ≡ Some v)
      → IsOnly d kind text v
  members_parsed text inside rest p given s v b t n m e f =
      let k = taken_more first next added none with Begin Begin text inside rest true p given s
      (spaces_go text inside b) t in
      all_parsed d kind (into k.state) text rest v
      (subst (λ y. Goes (step d) y text rest (into k.state)) (sym begins)
      (above Begin k.state text rest k.goes)) e
      (f k.state (taken_value first next added none with true Begin text rest p given s k n m))
