-- Inner Lists of Items, while they are read.
use Rattle.std.proofs.Common.{◌≡◌, ◌≢◌, ℕ, Bool, true, false, List, [], ◌∷◌, ◌++◌, refl, sym, ap, ◌∙◌}
use Rattle.std.proofs.Common.{◌==◌, ◌||◌, ◌<◌, length, subst, arith, length-append}
use Rattle.sf_value.specs.Ascii.{space, open_bracket, close_bracket}
use Rattle.sf_value.specs.Grammar.BareItems.{SpellsBare}
use Rattle.sf_value.specs.declared.dialect.Dialect.{Dialect}
use Rattle.sf_value.specs.declared.value.Bare.{Bare}
use Rattle.sf_value.specs.Grammar.Classes.{is_sp}
use Rattle.sf_value.specs.Grammar.Pairs.{Pairs}
use Rattle.sf_value.specs.Grammar.Words.{Every}
use Rattle.sf_scan.specs.InnerLists.{RawInner, SpellsRawRest, SpellsRawInner, PastItems, ScansItems}
use Rattle.sf_scan.specs.InnerLists.{made_rest, in_inner, ends_inner}
use Rattle.sf_scan.specs.Items.{RawItem, SpellsRawItem, made_item, in_item, ends_item}
use Rattle.sf_scan.specs.Lifts.{Lifts}
use Rattle.sf_scan.specs.Makers.{MakesParams, RefusesParams, made_of}
use Rattle.sf_scan.specs.Outcomes.{Accepts, Rejects, Scans}
use Rattle.sf_value.specs.Grammar.Parameters.{SpellsRaw}
use Rattle.sf_scan.specs.Places.{in_bare, is_follow}
use Rattle.sf_scan.specs.Stops.{Past, IsFollowed, Reads, Refuses}
use Rattle.sf_value.specs.Runs.{Lacks, FirstIs}
use Rattle.std.proofs.Common.{Err}
use Rattle.sf_scan.specs.declared.place.Halt.{Halt}
use Rattle.sf_scan.specs.declared.place.Halt.TheVariants as halt
use Rattle.sf_scan.specs.declared.place.Stop.{Stop}
use Rattle.sf_scan.specs.declared.place.BarePlace.TheVariants as bare_place
use Rattle.sf_scan.specs.declared.place.ParamPlace.{ParamPlace}
use Rattle.sf_scan.specs.declared.item.ItemPlace.{ItemPlace}
use Rattle.sf_scan.specs.declared.inner.InnerPlace.{InnerPlace}
use Rattle.sf_scan.specs.declared.inner.InnerPlace.TheVariants as place
use Rattle.sf_scan.specs.Languages.{Begun}
use Rattle.sf_scan.proofs.Enclosed.{gap_lifts, close_lifts, item_space_lifts}
use Rattle.sf_scan.proofs.Enclosed.{item_close_lifts, item_stuck, item_broken, open_refused, inner_texts}
use Rattle.sf_scan.proofs.Items.{open_test, closed_test}
use Rattle.sf_scan.specs.Languages.{Apart}
use Rattle.sf_scan.proofs.Lifts.{lifts_past, lifts_then, lifts_self}
use Rattle.sf_scan.proofs.Sequences.{lacks_both, refuses_as, same_lacks, none_read}
use Rattle.sf_scan.proofs.Starts.{item_apart, item_begun, item_start}

-- what is read of the rest of an Inner List while its Items are read: whatever follows is read of it
pub record Going {M : Type 0} (bare : M → Bare → M) (with : M → List ℕ → Bare → M)
    (closed : M → M) (d : Dialect) (text rest : List ℕ) (old now : M)
    : Type 0 where
  pub into : RawInner → RawInner
  pub lifts : Lifts (SpellsRawRest d) rest (SpellsRawRest d) text into
  pub made : (v : RawInner)
      → made_rest bare with closed now v ≡ made_rest bare with closed old (into v)

differs : (b c : ℕ) → b ≢ c → (b == c) ≡ false
differs b c h = grind arith

no_space_first : (t : List ℕ) → FirstIs (λ b. b ≢ space) t → Lacks is_sp t
no_space_first [] h = tt
no_space_first (b ∷ t) h = differs b space h

no_close : (t : List ℕ) → FirstIs (λ b. b ≢ close_bracket) t → Lacks (λ b. b == close_bracket) t
no_close [] h = tt
no_close (b ∷ t) h = differs b close_bracket h

module _ (d : Dialect) (apart : Apart (SpellsBare d) is_follow)
    (begun : (t : List ℕ) (x : Bare) → (SpellsBare d) t x → Begun t) {M : Type 0}
    (bare : M → Bare → M) (with : M → List ℕ → Bare → M) (closed : M → M) (text : List ℕ)
    (old : M) where
  abbrev I : List ℕ → RawItem → Type 0
  I = SpellsRawItem d

  abbrev R : List ℕ → Pairs Bare → Type 0
  R = SpellsRaw d

  abbrev Goes : List ℕ → M → Type 0
  Goes rest now = Going bare with closed d text rest old now

  no_params : (u : List ℕ) × (v : Pairs Bare) × R ([] ++ u) v
  no_params = ([], [], refl)

  pub going_none : Going bare with closed d text text old old
  going_none = record {
    into = λ v. v;
    lifts = lifts_self (SpellsRawRest d) text;
    made = λ v. refl;
  }

  module _ (rest gap at : List ℕ) (now : M) (go : Goes rest now) (split : rest ≡ gap ++ at)
      (spaces : Every is_sp gap) where
    here : Lifts (SpellsRawRest d) at (SpellsRawRest d) text go.into
    here =
        lifts_then (SpellsRawRest d) (SpellsRawRest d) (SpellsRawRest d) (λ v. v) go.into at rest
        text
        (gap_lifts I R (item_apart d apart) (item_begun d apart begun) no_params rest gap at split
        spaces) go.lifts

    pub going_closed : (after : List ℕ) → at ≡ close_bracket ∷ after
        → PastItems bare with closed d text after old now
    going_closed after e = record {
      into = λ raw. go.into ([], raw);
      lifts = lifts_then R (SpellsRawRest d) (SpellsRawRest d) (λ w. ([], w)) go.into after at text
          (close_lifts I R (item_apart d apart) (item_begun d apart begun) no_params at after e) here;
      made = λ raw. go.made ([], raw);
    }

    pub going_last : (next : ℕ → Bool) (x : RawItem) (left after : List ℕ) (new : M)
        → Reads I next at x left → left ≡ close_bracket ∷ after → new ≡ made_item bare with now x
        → PastItems bare with closed d text after old new
    going_last next x left after new r e m = record {
      into = λ raw. go.into (x ∷ [], raw);
      lifts = lifts_then R (SpellsRawRest d) (SpellsRawRest d) (λ w. (x ∷ [], w)) go.into after at
          text
          (item_close_lifts I R (item_apart d apart) (item_begun d apart begun) no_params next at x
          left after r e) here;
      made = λ raw. ap (λ z. made_of with (closed z) raw) m ∙ go.made (x ∷ [], raw);
    }

    pub going_more : (next : ℕ → Bool) (x : RawItem) (left more : List ℕ) (new : M)
        → Reads I next at x left → left ≡ space ∷ more → new ≡ made_item bare with now x
        → Goes more new
    going_more next x left more new r e m = record {
      into = λ v. go.into (x ∷ v.0, v.1);
      lifts = lifts_then (SpellsRawRest d) (SpellsRawRest d) (SpellsRawRest d)
          (λ v. (x ∷ v.0, v.1)) go.into more at text
          (item_space_lifts I R (item_apart d apart) (item_begun d apart begun) no_params next at x
          left more r e) here;
      made = λ v. ap (λ z. made_rest bare with closed z v) m ∙ go.made (x ∷ v.0, v.1);
    }

    pub going_stuck : (p : ItemPlace) (x : RawItem) (left : List ℕ) (stop : Stop InnerPlace)
        → Reads I (in_item d p) at x left → ends_item p ≡ true
        → FirstIs (λ b. b ≢ close_bracket) left → FirstIs (λ b. b ≢ space) left
        → stop.left.now ≡ left → stop.place ≡ place.InItem p
        → Rejects (SpellsRawRest d) (in_inner d) ends_inner text stop
    going_stuck p x left stop r k n m e f = record {
      refuses = rw (e, f) (refuses_as (SpellsRawRest d)
          (λ b. in_item d p b || (is_sp b || b == close_bracket)) _ text left
          (λ b. closed_test (in_item d p b) (ends_item p) (is_sp b || b == close_bracket) k)
          (here.refuses _ left
          (item_stuck I R (item_apart d apart) (item_begun d apart begun) no_params (in_item d p) at
          x left r
          (lacks_both is_sp (λ b. b == close_bracket) left (no_space_first left m) (no_close left n)))));
      open_still = rw f refl;
    }

    pub going_broken : (p : ItemPlace) (left : List ℕ) (stop : Stop InnerPlace)
        → Refuses I (in_item d p) at left → ends_item p ≡ false → length left ≢ length at
        → stop.left.now ≡ left → stop.place ≡ place.InItem p
        → Rejects (SpellsRawRest d) (in_inner d) ends_inner text stop
    going_broken p left stop r k n e f = record {
      refuses = rw (e, f) (refuses_as (SpellsRawRest d) (in_item d p) _ text left
          (λ b. open_test (in_item d p b) (ends_item p) (is_sp b || b == close_bracket) k)
          (here.refuses _ left
          (item_broken I R (item_apart d apart) (item_begun d apart begun) no_params (in_item d p) at
          left r (λ z. n (sym (ap length (r.stops.split ∙ ap (λ q. q ++ left) z)))))));
      open_still = rw f refl;
    }

    pub going_open : (p : ItemPlace) (left : List ℕ) (stop : Stop InnerPlace)
        → IsFollowed (SpellsBare d) (in_bare d bare_place.Start) [] → Refuses I (in_item d p) at left
        → length left ≡ length at → Lacks is_sp at → FirstIs (λ b. b ≢ close_bracket) at
        → stop.left.now ≡ left → stop.place ≡ place.Open
        → Rejects (SpellsRawRest d) (in_inner d) ends_inner text stop
    going_open p left stop start r k n m e f =
        let z : r.stops.prefix ≡ [] = none_read at r.stops.prefix left r.stops.split k in
        let same : at ≡ left = r.stops.split ∙ ap (λ q. q ++ left) z in
        record {
          refuses = rw (e, f, ← same) (here.refuses _ at
              (open_refused I R (item_apart d apart) (item_begun d apart begun) no_params
              (in_bare d bare_place.Start) at
              (item_start d apart begun (in_bare d bare_place.Start) start)
              (same_lacks I (in_item d p) (in_bare d bare_place.Start) [] at
              (subst (IsFollowed I (in_item d p)) z r.stops.followed)
              (item_start d apart begun (in_bare d bare_place.Start) start)
              (subst (Lacks (in_item d p)) (sym same) r.stops.blocked))
              (lacks_both is_sp (λ b. b == close_bracket) at n (no_close at m))));
          open_still = rw f refl;
        }

  -- after the brackets
  pub inner_lifts : Lifts (SpellsRawRest d) text (Past (open_bracket ∷ []) (SpellsRawInner d)) text
      (λ v. v)
  inner_lifts =
      lifts_past (SpellsRawRest d) (Past (open_bracket ∷ []) (SpellsRawInner d)) (λ v. v) [] text
      text (inner_texts I R (item_apart d apart) (item_begun d apart begun) no_params) refl

  pub inner_read : (opened : M → M) (first : M) (after : List ℕ) (between ready new : M)
      (end : Stop ParamPlace) (stop : Stop InnerPlace) → old ≡ opened first
      → PastItems bare with closed d text after old between → ready ≡ closed between → MakesParams with d after ready new end
      → stop.left.now ≡ end.left.now → stop.place ≡ place.InParams end.place
      → Accepts (Past (open_bracket ∷ []) (SpellsRawInner d)) (in_inner d) ends_inner
      (λ z v. made_rest bare with closed (opened z) v) text first new stop
  inner_read opened first after between ready new end stop o p m k e f = record {
    value = p.into k.raw;
    reads = rw (e, f) (inner_lifts.reads _ _ _ (p.lifts.reads _ _ _ k.reads));
    made = k.made
        ∙ (ap (λ z. made_of with z k.raw) m
        ∙ (p.made k.raw ∙ ap (λ z. made_rest bare with closed z (p.into k.raw)) o));
    ended = rw f k.ends;
  }

  pub inner_refused : (after : List ℕ) (between ready new : M) (end : Stop ParamPlace)
      (stop : Stop InnerPlace) → PastItems bare with closed d text after old between
      → RefusesParams with d after ready new end
      → stop.left.now ≡ end.left.now → stop.place ≡ place.InParams end.place
      → Rejects (Past (open_bracket ∷ []) (SpellsRawInner d)) (in_inner d) ends_inner text stop
  inner_refused after between ready new end stop p k e f = record {
    refuses = rw (e, f) (inner_lifts.refuses _ _ (p.lifts.refuses _ _ k.refuses));
    open_still = rw f k.open_still;
  }

  inner_stuck : (stop : Stop InnerPlace)
      → Rejects (SpellsRawRest d) (in_inner d) ends_inner text stop
      → Rejects (Past (open_bracket ∷ []) (SpellsRawInner d)) (in_inner d) ends_inner text stop
  inner_stuck stop r =
      record { refuses = inner_lifts.refuses _ _ r.refuses; open_still = r.open_still }

  pub inner_failed : {F : Type 0} (opened : M → M) (first new : M) (h : Halt InnerPlace F)
      → ScansItems bare with closed d text old new (Err h)
      → Scans (Past (open_bracket ∷ []) (SpellsRawInner d)) (in_inner d) ends_inner
      (λ z v. made_rest bare with closed (opened z) v) text first new (Err h)
  inner_failed opened first new (halt.Refused stop) r = inner_stuck stop r
  inner_failed opened first new (halt.Fault f) r = tt

-- less is left after a space
pub less_left : (rest gap at prefix left more : List ℕ) (c : ℕ) → rest ≡ gap ++ at
    → at ≡ prefix ++ left → left ≡ c ∷ more → length more < length rest
less_left rest gap at prefix left more c e f k =
    let p = ap length e in
    let q = ap length f in
    let r = ap length k in
    let s = length-append gap at in
    let t = length-append prefix left in
    omega arith
