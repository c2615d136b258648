-- If bytes are allocation-free in a state, those after the first are, in the state to which it
-- leads.
use Rattle.std.specs.Option.{option_map, option_or}
use Rattle.std.specs.Prelude.{◌≡◌, ℕ, Bool, true, false, ◌==◌, List, [], ◌∷◌, ◌++◌}
use Rattle.std.specs.Prelude.{◌⊎◌, Option, Some, None, ⊤}
use Rattle.std.proofs.Common.{refl, sym, subst, ◌∙◌, arith, append_assoc, length-append, ⊎_elim, inl, inr}
use Rattle.sf_value.specs.InPlace.{FitsInPlace}
use Rattle.sf_value.specs.Grammar.Words.{Every, allow}
use Rattle.sf_value.specs.Grammar.Classes.{is_sp, is_visible, is_token_start, is_in_token}
use Rattle.sf_value.specs.Grammar.Strings.{is_escaped}
use Rattle.sf_value.specs.Grammar.Dialects.{is_rfc9651}
use Rattle.sf_value.specs.declared.dialect.Dialect.{Dialect}
use Rattle.sf_parse.specs.Machine.Language.{only, onward}
use Rattle.sf_parse.specs.Machine.Numbers.{NumberState, number_start, number_step}
use Rattle.sf_parse.specs.Machine.Numbers.{date_step, Sign}
use Rattle.sf_parse.specs.Machine.Texts.{TextState, Inside, Escaped, Closed, text_step, word_step}
use Rattle.sf_parse.specs.Machine.Texts.{word_start, boolean_step}
use Rattle.sf_parse.specs.declared.boolean.BooleanState.TheVariants.{QuestionMark}
use Rattle.sf_parse.specs.Machine.Blobs.{Group, H0}
use Rattle.sf_parse.specs.Machine.Showns.{Quote}
use Rattle.sf_parse.specs.Machine.Bares.{BareState, InNumber, InText, InToken, InBoolean, InDate}
use Rattle.sf_parse.specs.Machine.Bares.{InBlob, InShown, bare_start, bare_step, bare_finish}
use Rattle.sf_parse.specs.Machine.Params.{between_step}
use Rattle.sf_parse.specs.Machine.Items.{ItemState, InBare, InParams, item_start, item_step}
use Rattle.sf_parse.specs.Machine.Items.{item_finish}
use Rattle.sf_parse.specs.Machine.Series.{SeriesState, Begin, InMember, Gap, Comma, series_step}
use Rattle.sf_parse.specs.Machine.States.{State, BeforeItem, InsideItem, AfterItem, InList, InDict}
use Rattle.sf_parse.specs.Machine.Fields.{step, list_series, dict_series}
use Rattle.sf_parse.specs.SeriesView.{series_next}
use Rattle.sf_parse.specs.AllocationFree.{scalar_byte, short_byte, no_semicolon, text_bytes, BareFree}
use Rattle.sf_parse.specs.AllocationFree.{ItemFree, SeriesFree, FieldFree}

-- what a choice, a test and a step gave
map_cases : {X Y : Type 0} (f : X → Y) (o : Option X) (y : Y) → option_map f o ≡ Some y
    → (x : X) × (o ≡ Some x) × (y ≡ f x)
map_cases f (Some x) y e = (x, refl, cc)
map_cases f None y e = absurd cc

allow_cases : {S : Type 0} (c : Bool) (s t : S) → allow c s ≡ Some t → (c ≡ true) × (t ≡ s)
allow_cases true s t e = (refl, cc)
allow_cases false s t e = absurd cc

option_or_cases : {S : Type 0} (a b : Option S) (s : S) → option_or a b ≡ Some s
    → (a ≡ Some s) ⊎ (b ≡ Some s)
option_or_cases (Some x) b s e = inl e
option_or_cases None b s e = inr e

onward_cases : {S T X : Type 0} (into : S → T) (a : Option S) (end : Option X)
    (after : X → Option T) (t : T) → onward into a end after ≡ Some t
    → ((s : S) × (a ≡ Some s) × (t ≡ into s)) ⊎ ((x : X) × (after x ≡ Some t))
onward_cases into (Some s) end after t e = inl (s, refl, cc)
onward_cases into None (Some x) after t e = inr (x, e)
onward_cases into None None after t e = absurd cc

-- a byte of a text, gathered
gathered : (bytes more : List ℕ) (b : ℕ) → FitsInPlace (bytes ++ b ∷ more)
    → FitsInPlace ((bytes ++ b ∷ []) ++ more)
gathered bytes more b h = subst FitsInPlace (sym (append_assoc bytes (b ∷ []) more)) h

-- a byte of a text, passed over
passed : (bytes more : List ℕ) (b : ℕ) → FitsInPlace (bytes ++ b ∷ more) → FitsInPlace (bytes ++ more)
passed bytes more b h =
    let long = length-append bytes (b ∷ more) in
    let short = length-append bytes more in
    omega arith

text_keeps : (s t : TextState) (b : ℕ) (more : List ℕ) → FitsInPlace (text_bytes s ++ b ∷ more)
    → text_step s b ≡ Some t → FitsInPlace (text_bytes t ++ more)
text_keeps (Inside bytes) t b more h e = ⊎_elim
    (λ k. subst (λ y. FitsInPlace (text_bytes y ++ more)) (sym (allow_cases (b == 34) (Closed bytes) t k).1)
    (passed bytes more b h))
    (λ k. ⊎_elim
    (λ i. subst (λ y. FitsInPlace (text_bytes y ++ more)) (sym (allow_cases (b == 92) (Escaped bytes) t i).1)
    (passed bytes more b h))
    (λ i. subst (λ y. FitsInPlace (text_bytes y ++ more))
    (sym (allow_cases (is_visible b) (Inside (bytes ++ b ∷ [])) t i).1)
    (gathered bytes more b h))
    (option_or_cases (allow (b == 92) (Escaped bytes)) (allow (is_visible b) (Inside (bytes ++ b ∷ []))) t k))
    (option_or_cases (allow (b == 34) (Closed bytes))
    (option_or (allow (b == 92) (Escaped bytes)) (allow (is_visible b) (Inside (bytes ++ b ∷ [])))) t e)
text_keeps (Escaped bytes) t b more h e =
    subst (λ y. FitsInPlace (text_bytes y ++ more))
    (sym (allow_cases (is_escaped b) (Inside (bytes ++ b ∷ [])) t e).1) (gathered bytes more b h)
text_keeps (Closed bytes) t b more h e = absurd cc

-- a bare item
pub bare_keeps : (s t : BareState) (b : ℕ) (more : List ℕ) → BareFree s (b ∷ more)
    → bare_step s b ≡ Some t → BareFree t more
bare_keeps (InNumber s) t b more h e =
    let k = map_cases InNumber (number_step s b) t e in subst (λ y. BareFree y more) (sym k.2) tt
bare_keeps (InText s) t b more h e =
    let k = map_cases InText (text_step s b) t e in
    subst (λ y. BareFree y more) (sym k.2) (text_keeps s k.0 b more h k.1)
bare_keeps (InToken bytes) t b more h e =
    let k = map_cases InToken (word_step is_in_token bytes b) t e in
    let a = allow_cases (is_in_token b) (bytes ++ b ∷ []) k.0 k.1 in
    subst (λ y. BareFree y more) (sym k.2)
    (subst (λ y. FitsInPlace (y ++ more)) (sym a.1) (gathered bytes more b h))
bare_keeps (InBoolean s) t b more h e =
    let k = map_cases InBoolean (boolean_step s b) t e in subst (λ y. BareFree y more) (sym k.2) tt
bare_keeps (InDate s) t b more h e =
    let k = map_cases InDate (date_step s b) t e in subst (λ y. BareFree y more) (sym k.2) tt
bare_keeps (InBlob s) t b more h e = absurd h
bare_keeps (InShown s) t b more h e = absurd h

opens_none : (b : ℕ) → no_semicolon b ≡ true → (b == 59) ≡ true → ⊥
opens_none b p e = let k : false ≡ true = rw e at p in absurd cc

-- an Item
pub item_keeps : (d : Dialect) (s t : ItemState) (b : ℕ) (more : List ℕ) → ItemFree s (b ∷ more)
    → item_step d s b ≡ Some t → ItemFree t more
item_keeps d (InBare s) t b more h e = ⊎_elim
    (λ k. subst (λ y. ItemFree y more) (sym k.2) (bare_keeps s k.0 b more h.0 k.1, h.1.1))
    (λ k. let j = map_cases (InParams k.0) (between_step [] b) t k.1 in
    absurd (opens_none b h.1.0 (allow_cases (b == 59) _ j.0 j.1).0))
    (onward_cases InBare (bare_step s b) (bare_finish s)
    (λ x. option_map (InParams x) (between_step [] b)) t e)
item_keeps d (InParams x s) t b more h e = absurd h

-- spaces before the first member
still_begin : {S V : Type 0} (b : ℕ) (o : Option (SeriesState S V)) (t : SeriesState S V)
    → is_sp b ≡ true → option_or (allow (is_sp b) Begin) o ≡ Some t → t ≡ Begin
still_begin b o t p e = let k : Some Begin ≡ Some t = rw p at e in cc

pub series_keeps : {S V : Type 0} (first : ℕ → Option S) (next : S → ℕ → Option S)
    (added : S → V → Option V) (none : V) (s t : SeriesState S V) (b : ℕ) (more : List ℕ)
    → SeriesFree s (b ∷ more) → series_next first next added none s b ≡ Some t → SeriesFree t more
series_keeps first next added none Begin t b more h e =
    subst (λ y. SeriesFree y more) (sym (still_begin b _ t h.0 e)) h.1
series_keeps first next added none (InMember given s) t b more h e = absurd h
series_keeps first next added none (Gap given) t b more h e = absurd h
series_keeps first next added none (Comma given) t b more h e = absurd h

-- what a bare item begins as
module _ (P : BareState → Type 0) (d : Dialect) (b : ℕ) (numbers : (n : NumberState) → P (InNumber n))
    (texts : (b == 34) ≡ true → P (InText (Inside []))) (tokens : is_token_start b ≡ true → P (InToken (b ∷ [])))
    (booleans : P (InBoolean QuestionMark)) (dates : P (InDate Sign))
    (blobs : (b == 58) ≡ true → P (InBlob (Group [] H0)))
    (showns : (b == 37) ≡ true → P (InShown Quote)) where
  only_some : {S : Type 0} (c : Bool) (o : Option S) (s : S) → only c o ≡ Some s → o ≡ Some s
  only_some true o s e = e
  only_some false o s e = absurd cc

  begun_shown : (s : BareState)
      → only (is_rfc9651 d) (option_map InShown (allow (b == 37) Quote)) ≡ Some s → P s
  begun_shown s e =
      let k = map_cases InShown (allow (b == 37) Quote) s (only_some _ _ s e) in
      let a = allow_cases (b == 37) Quote k.0 k.1 in
      subst P (sym k.2) (subst (λ y. P (InShown y)) (sym a.1) (showns a.0))

  begun_blob : (s : BareState)
      → option_or (option_map InBlob (allow (b == 58) (Group [] H0)))
      (only (is_rfc9651 d) (option_map InShown (allow (b == 37) Quote))) ≡ Some s → P s
  begun_blob s e = ⊎_elim
      (λ i. let k = map_cases InBlob (allow (b == 58) (Group [] H0)) s i in
      let a = allow_cases (b == 58) (Group [] H0) k.0 k.1 in
      subst P (sym k.2) (subst (λ y. P (InBlob y)) (sym a.1) (blobs a.0)))
      (λ i. begun_shown s i) (option_or_cases _ _ s e)

  begun_date : (s : BareState)
      → option_or (only (is_rfc9651 d) (option_map InDate (allow (b == 64) Sign)))
      (option_or (option_map InBlob (allow (b == 58) (Group [] H0)))
      (only (is_rfc9651 d) (option_map InShown (allow (b == 37) Quote)))) ≡ Some s → P s
  begun_date s e = ⊎_elim
      (λ i. let k = map_cases InDate (allow (b == 64) Sign) s (only_some _ _ s i) in
      let a = allow_cases (b == 64) Sign k.0 k.1 in
      subst P (sym k.2) (subst (λ y. P (InDate y)) (sym a.1) dates))
      (λ i. begun_blob s i) (option_or_cases _ _ s e)

  begun_boolean : (s : BareState)
      → option_or (option_map InBoolean (allow (b == 63) QuestionMark))
      (option_or (only (is_rfc9651 d) (option_map InDate (allow (b == 64) Sign)))
      (option_or (option_map InBlob (allow (b == 58) (Group [] H0)))
      (only (is_rfc9651 d) (option_map InShown (allow (b == 37) Quote))))) ≡ Some s → P s
  begun_boolean s e = ⊎_elim
      (λ i. let k = map_cases InBoolean (allow (b == 63) QuestionMark) s i in
      let a = allow_cases (b == 63) QuestionMark k.0 k.1 in
      subst P (sym k.2) (subst (λ y. P (InBoolean y)) (sym a.1) booleans))
      (λ i. begun_date s i) (option_or_cases _ _ s e)

  begun_token : (s : BareState)
      → option_or (option_map InToken (word_start is_token_start b))
      (option_or (option_map InBoolean (allow (b == 63) QuestionMark))
      (option_or (only (is_rfc9651 d) (option_map InDate (allow (b == 64) Sign)))
      (option_or (option_map InBlob (allow (b == 58) (Group [] H0)))
      (only (is_rfc9651 d) (option_map InShown (allow (b == 37) Quote)))))) ≡ Some s → P s
  begun_token s e = ⊎_elim
      (λ i. let k = map_cases InToken (word_start is_token_start b) s i in
      let a = allow_cases (is_token_start b) (b ∷ []) k.0 k.1 in
      subst P (sym k.2) (subst (λ y. P (InToken y)) (sym a.1) (tokens a.0)))
      (λ i. begun_boolean s i) (option_or_cases _ _ s e)

  begun_text : (s : BareState)
      → option_or (option_map InText (allow (b == 34) (Inside [])))
      (option_or (option_map InToken (word_start is_token_start b))
      (option_or (option_map InBoolean (allow (b == 63) QuestionMark))
      (option_or (only (is_rfc9651 d) (option_map InDate (allow (b == 64) Sign)))
      (option_or (option_map InBlob (allow (b == 58) (Group [] H0)))
      (only (is_rfc9651 d) (option_map InShown (allow (b == 37) Quote))))))) ≡ Some s → P s
  begun_text s e = ⊎_elim
      (λ i. let k = map_cases InText (allow (b == 34) (Inside [])) s i in
      let a = allow_cases (b == 34) (Inside []) k.0 k.1 in
      subst P (sym k.2) (subst (λ y. P (InText y)) (sym a.1) (texts a.0)))
      (λ i. begun_token s i) (option_or_cases _ _ s e)

  pub begun : (s : BareState) → bare_start d b ≡ Some s → P s
  begun s e = ⊎_elim
      (λ i. let k = map_cases InNumber (number_start b) s i in subst P (sym k.2) (numbers k.0))
      (λ i. begun_text s i)
      (option_or_cases (option_map InNumber (number_start b)) _ s e)

-- the bytes of scalars and of short texts
every_less : (p q : ℕ → Bool) → ((b : ℕ) → p b ≡ true → q b ≡ true) → (t : List ℕ) → Every p t
    → Every q t
every_less p q h [] w = tt
every_less p q h (b ∷ t) w = (h b w.0, every_less p q h t w.1)

scalar_opens_none : (b : ℕ) → scalar_byte b ≡ true → no_semicolon b ≡ true
scalar_opens_none b p = grind arith

short_opens_none : (b : ℕ) → short_byte b ≡ true → no_semicolon b ≡ true
short_opens_none b p = grind arith

no_scalar_opens : (t : List ℕ) → Every scalar_byte t → Every no_semicolon t
no_scalar_opens = every_less scalar_byte no_semicolon scalar_opens_none

scalar_bytes : (b : ℕ) → scalar_byte b ≡ true
    → ((b == 34) ≡ false) × (is_token_start b ≡ false) × ((b == 58) ≡ false) × ((b == 37) ≡ false)
scalar_bytes b p = (grind arith, grind arith, grind arith, grind arith)

short_bytes : (b : ℕ) → short_byte b ≡ true → ((b == 58) ≡ false) × ((b == 37) ≡ false)
short_bytes b p = (grind arith, grind arith)

clash : {A : Type 0} (c : Bool) → c ≡ false → c ≡ true → A
clash c e f = let k : false ≡ true = sym e ∙ f in absurd cc

-- a number, a Boolean or a Date, which does not allocate
abbrev pub ScalarBare : BareState → Type 0
ScalarBare (InNumber s) = ⊤
ScalarBare (InText s) = ⊥
ScalarBare (InToken s) = ⊥
ScalarBare (InBoolean s) = ⊤
ScalarBare (InDate s) = ⊤
ScalarBare (InBlob s) = ⊥
ScalarBare (InShown s) = ⊥

-- a scalar begins as one
scalar_begun : (d : Dialect) (b : ℕ) (s : BareState) → scalar_byte b ≡ true
    → bare_start d b ≡ Some s → ScalarBare s
scalar_begun d b s p e =
    let k = scalar_bytes b p in
    begun ScalarBare d b (λ n. tt) (λ t. clash _ k.0 t) (λ t. clash _ k.1 t) tt tt
    (λ t. clash _ k.2 t) (λ t. clash _ k.3 t) s e

scalar_free : (s : BareState) (more : List ℕ) → ScalarBare s → BareFree s more
scalar_free (InNumber s) more h = tt
scalar_free (InText s) more h = absurd h
scalar_free (InToken s) more h = absurd h
scalar_free (InBoolean s) more h = tt
scalar_free (InDate s) more h = tt
scalar_free (InBlob s) more h = absurd h
scalar_free (InShown s) more h = absurd h

short_begun : (d : Dialect) (b : ℕ) (more : List ℕ) (s : BareState) → short_byte b ≡ true
    → FitsInPlace (b ∷ more) → bare_start d b ≡ Some s → BareFree s more
short_begun d b more s p h e =
    let k = short_bytes b p in
    begun (λ y. BareFree y more) d b (λ n. tt) (λ t. omega arith) (λ t. h) tt tt
    (λ t. clash _ k.0 t) (λ t. clash _ k.1 t) s e

-- a field
pub field_keeps : (d : Dialect) (s t : State) (b : ℕ) (more : List ℕ) → FieldFree s (b ∷ more)
    → step d s b ≡ Some t → FieldFree t more
field_keeps d BeforeItem t b more h e = ⊎_elim
    (λ i. subst (λ y. FieldFree y more) (sym (allow_cases (is_sp b) BeforeItem t i).1)
    (⊎_elim (λ w. inl w.1) (λ w. inr (omega (arith, w.0), w.1.1)) h))
    (λ i. let k = map_cases InsideItem (item_start d b) t i in
    let j = map_cases InBare (bare_start d b) k.0 k.1 in
    subst (λ y. FieldFree y more) (sym k.2) (subst (λ y. ItemFree y more) (sym j.2)
    (⊎_elim
    (λ w. (scalar_free j.0 more (scalar_begun d b j.0 w.0 j.1), no_scalar_opens more w.1))
    (λ w. (
      short_begun d b more j.0 w.1.0 w.0 j.1,
      every_less short_byte no_semicolon short_opens_none more w.1.1,
    )) h)))
    (option_or_cases (allow (is_sp b) BeforeItem) (option_map InsideItem (item_start d b)) t e)
field_keeps d (InsideItem s) t b more h e = ⊎_elim
    (λ k. subst (λ y. FieldFree y more) (sym k.2) (item_keeps d s k.0 b more h k.1))
    (λ k. subst (λ y. FieldFree y more) (sym (allow_cases (is_sp b) (AfterItem k.0) t k.1).1) tt)
    (onward_cases InsideItem (item_step d s b) (item_finish s) (λ i. allow (is_sp b) (AfterItem i)) t e)
field_keeps d (AfterItem i) t b more h e =
    subst (λ y. FieldFree y more) (sym (allow_cases (is_sp b) (AfterItem i) t e).1) tt
field_keeps d (InList Begin) t b more h e =
    let k = map_cases InList (series_step (list_series d) Begin b) t e in
    subst (λ y. FieldFree y more) (sym k.2)
    (subst (λ y. SeriesFree y more) (sym (still_begin b _ k.0 h.0 k.1)) h.1)
field_keeps d (InList (InMember given s)) t b more h e = absurd h
field_keeps d (InList (Gap given)) t b more h e = absurd h
field_keeps d (InList (Comma given)) t b more h e = absurd h
field_keeps d (InDict Begin) t b more h e =
    let k = map_cases InDict (series_step (dict_series d) Begin b) t e in
    subst (λ y. FieldFree y more) (sym k.2)
    (subst (λ y. SeriesFree y more) (sym (still_begin b _ k.0 h.0 k.1)) h.1)
field_keeps d (InDict (InMember given s)) t b more h e = absurd h
field_keeps d (InDict (Gap given)) t b more h e = absurd h
field_keeps d (InDict (Comma given)) t b more h e = absurd h
