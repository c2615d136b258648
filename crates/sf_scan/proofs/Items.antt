-- Items: a bare item and parameters, which begin with a semicolon.
use Rattle.std.proofs.Common.{◌≡◌, ◌≢◌, ℕ, Bool, true, false, List, [], ◌∷◌, ◌++◌, refl, ap, ◌∙◌}
use Rattle.std.proofs.Common.{◌==◌, ◌||◌, ◌&&◌, inl, arith, eqb-true}
use Rattle.sf_value.specs.Ascii.{semicolon}
use Rattle.sf_value.specs.Grammar.BareItems.{SpellsBare}
use Rattle.sf_value.specs.declared.dialect.Dialect.{Dialect}
use Rattle.sf_value.specs.declared.value.Bare.{Bare}
use Rattle.sf_value.specs.declared.value.Bare.TheVariants.{Boolean}
use Rattle.sf_value.specs.Grammar.Pairs.{Pairs}
use Rattle.sf_value.specs.Grammar.Lines.{Continues}
use Rattle.sf_scan.specs.Items.{SpellsRawItem, in_item, ends_item, made_item}
use Rattle.sf_scan.specs.Makers.{MakesParams, RefusesParams, made_of}
use Rattle.sf_scan.specs.Outcomes.{Accepts, Rejects}
use Rattle.sf_value.specs.Grammar.Parameters.{SpellsRaw}
use Rattle.sf_scan.specs.Places.{in_bare, ends_bare, in_params, is_follow}
use Rattle.sf_scan.specs.Stops.{IsFollowed, Reads, Refuses}
use Rattle.sf_value.specs.Runs.{Lacks, FirstIs}
use Rattle.sf_scan.specs.declared.place.Stop.{Stop}
use Rattle.sf_scan.specs.declared.place.BarePlace.{BarePlace}
use Rattle.sf_scan.specs.declared.place.ParamPlace.{ParamPlace}
use Rattle.sf_scan.specs.declared.item.ItemPlace.{ItemPlace}
use Rattle.sf_scan.specs.declared.item.ItemPlace.TheVariants as place
use Rattle.sf_scan.specs.Languages.{Apart}
use Rattle.sf_scan.proofs.Lists.{heads, cons_nil}
use Rattle.sf_scan.proofs.Sequences.{then_refuses, then_ends, then_reads, then_refuses_after}
use Rattle.sf_scan.proofs.Sequences.{reads_as, refuses_as}

-- no text of a semicolon
pub no_semicolon : (t : List ℕ) → FirstIs (λ b. b ≢ semicolon) t → Lacks (λ b. b == semicolon) t
no_semicolon [] h = tt
no_semicolon (b ∷ t) h = differs b h
  where
    differs : (b : ℕ) → b ≢ semicolon → (b == semicolon) ≡ false
    differs b h = grind arith

pub open_test : (x y z : Bool) → y ≡ false → (x || (y && z)) ≡ x
open_test true y z h = refl
open_test false y z h = rw h refl

pub closed_test : (x y z : Bool) → y ≡ true → (x || (y && z)) ≡ (x || z)
closed_test x y z h = rw h refl

module _ (d : Dialect) where
  -- parameters begin with a semicolon, if there are any
  pub raw_starts : (t : List ℕ) (raw : Pairs Bare) → SpellsRaw d t raw
      → FirstIs (λ b. b ≡ semicolon) t
  raw_starts [] raw h = tt
  raw_starts (b ∷ t) [] h = absurd (cons_nil b t h)
  raw_starts (b ∷ t) (p ∷ raw) h = heads b semicolon t _ (h.2 ∙ ap (λ x. x ++ h.1) h.3.2)

  follows : (b : ℕ) → b ≡ semicolon → is_follow b ≡ true
  follows b e = rw e refl

  pub raw_follows : (t : List ℕ) (raw : Pairs Bare) → SpellsRaw d t raw
      → FirstIs (λ b. is_follow b ≡ true) t
  raw_follows [] raw h = tt
  raw_follows (b ∷ t) raw h = follows b (raw_starts (b ∷ t) raw h)

  is_semicolon : (b : ℕ) → b ≡ semicolon → (b == semicolon) ≡ true
  is_semicolon b e = grind arith

  pub one_raw : Continues (SpellsRaw d) (semicolon ∷ [])
  one_raw = (
    97 ∷ [],
    (97 ∷ [], Boolean true) ∷ [],
    (semicolon ∷ 97 ∷ [], [], refl, ([], [], refl, tt, (refl, tt), inl (refl, refl)), refl),
  )

  pub raw_followed : IsFollowed (SpellsRaw d) (λ b. b == semicolon) []
  raw_followed = record {
    viable = ([], [], refl);
    may = λ b h. let e = eqb-true b semicolon h in rw e one_raw;
    only = λ b c. is_semicolon b (raw_starts (b ∷ c.0) c.1 c.2);
  }

  module _ (apart : Apart (SpellsBare d) is_follow) {M : Type 0} (bare : M → Bare → M)
      (with : M → List ℕ → Bare → M) (text : List ℕ) (old : M) where
    -- no bare item
    pub item_refused : (p : BarePlace) (left : List ℕ) (stop : Stop ItemPlace)
        → Refuses (SpellsBare d) (in_bare d p) text left → ends_bare p ≡ false → stop.left.now ≡ left
        → stop.place ≡ place.InBare p
        → Rejects (SpellsRawItem d) (in_item d) ends_item text stop
    item_refused p left stop r k e f = record {
      refuses = rw (e, f) (refuses_as (SpellsRawItem d) (in_bare d p) _ text left
          (λ b. open_test (in_bare d p b) (ends_bare p) (b == semicolon) k)
          (then_refuses (SpellsBare d) (SpellsRaw d) is_follow apart raw_follows (in_bare d p) text left
          ([], [], refl) r));
      open_still = rw f k;
    }

    -- a bare item alone
    pub item_alone : (p : BarePlace) (x : Bare) (left : List ℕ) (new : M) (stop : Stop ItemPlace)
        → Reads (SpellsBare d) (in_bare d p) text x left → ends_bare p ≡ true
        → FirstIs (λ b. b ≢ semicolon) left → stop.left.now ≡ left → stop.place ≡ place.InBare p
        → new ≡ bare old x
        → Accepts (SpellsRawItem d) (in_item d) ends_item (made_item bare with) text old new stop
    item_alone p x left new stop r k n e f m = record {
      value = (x, []);
      reads = rw (e, f) (reads_as (SpellsRawItem d) (λ b. in_bare d p b || b == semicolon) _ text
          (x, []) left (λ b. closed_test (in_bare d p b) (ends_bare p) (b == semicolon) k)
          (then_ends (SpellsBare d) (SpellsRaw d) is_follow apart raw_follows (in_bare d p)
          (λ b. b == semicolon) text x [] left r raw_followed (no_semicolon left n) refl));
      made = m;
      ended = rw f k;
    }

    -- with parameters
    pub item_with : (p : BarePlace) (x : Bare) (rest more : List ℕ) (between new : M)
        (end : Stop ParamPlace) (stop : Stop ItemPlace)
        → Reads (SpellsBare d) (in_bare d p) text x rest → rest ≡ semicolon ∷ more → between ≡ bare old x
        → MakesParams with d rest between new end → stop.left.now ≡ end.left.now
        → stop.place ≡ place.InParams end.place
        → Accepts (SpellsRawItem d) (in_item d) ends_item (made_item bare with) text old new stop
    item_with p x rest more between new end stop r s m k e f = record {
      value = (x, k.raw);
      reads = rw (e, f) (then_reads (SpellsBare d) (SpellsRaw d) is_follow apart raw_follows (in_bare d p)
          (in_params d end.place) text x rest semicolon more k.raw end.left.now r s refl one_raw
          k.reads);
      made = k.made ∙ ap (λ z. made_of with z k.raw) m;
      ended = rw f k.ends;
    }

    -- with parameters that go wrong
    pub item_broken : (p : BarePlace) (x : Bare) (rest more : List ℕ) (between new : M)
        (end : Stop ParamPlace) (stop : Stop ItemPlace)
        → Reads (SpellsBare d) (in_bare d p) text x rest → rest ≡ semicolon ∷ more
        → RefusesParams with d rest between new end → stop.left.now ≡ end.left.now
        → stop.place ≡ place.InParams end.place
        → Rejects (SpellsRawItem d) (in_item d) ends_item text stop
    item_broken p x rest more between new end stop r s k e f = record {
      refuses = rw (e, f) (then_refuses_after (SpellsBare d) (SpellsRaw d) is_follow apart raw_follows
          (in_bare d p) (in_params d end.place) text x rest semicolon more end.left.now r s refl
          one_raw k.refuses);
      open_still = rw f k.open_still;
    }
