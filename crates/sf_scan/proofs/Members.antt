-- Members: Items and Inner Lists.
use Rattle.std.proofs.Common.{◌≡◌, ◌≢◌, ℕ, Bool, true, false, List, [], ◌∷◌, ◌++◌, refl, sym, ap, ◌∙◌}
use Rattle.std.proofs.Common.{inl, inr, ◌==◌, length, subst, arith}
use Rattle.sf_value.specs.Ascii.{open_bracket}
use Rattle.sf_value.specs.declared.dialect.Dialect.{Dialect}
use Rattle.sf_value.specs.declared.value.Bare.{Bare}
use Rattle.sf_value.specs.Grammar.Pairs.{Pairs}
use Rattle.sf_scan.specs.InnerLists.{RawInner, SpellsRawInner}
use Rattle.sf_scan.specs.Items.{RawItem, SpellsRawItem, in_item, ends_item}
use Rattle.sf_scan.specs.Lifts.{Lifts}
use Rattle.sf_scan.specs.Members.{RawMember, SpellsRawMember, in_member, ends_member}
use Rattle.sf_scan.specs.Outcomes.{Rejects}
use Rattle.sf_value.specs.Grammar.Parameters.{SpellsRaw}
use Rattle.sf_scan.specs.Places.{in_bare, is_follow, is_after}
use Rattle.sf_scan.specs.Series.{IsElement}
use Rattle.sf_scan.specs.Stops.{Past, IsFollowed, Reads, Refuses}
use Rattle.sf_value.specs.Runs.{Lacks, FirstIs}
use Rattle.sf_scan.specs.declared.place.Stop.{Stop}
use Rattle.sf_scan.specs.declared.place.BarePlace.TheVariants as bare_place
use Rattle.sf_scan.specs.declared.item.ItemPlace.{ItemPlace}
use Rattle.sf_scan.specs.declared.member.MemberPlace.{MemberPlace}
use Rattle.sf_scan.specs.declared.member.MemberPlace.TheVariants as place
use Rattle.sf_value.specs.Grammar.BareItems.{SpellsBare}
use Rattle.sf_scan.proofs.Following.{bare_apart}
use Rattle.sf_scan.proofs.Alternatives.{right_texts, left_lifts, either_followed, either_apart}
use Rattle.sf_scan.specs.Languages.{Begun}
use Rattle.sf_scan.proofs.Enclosed.{inner_apart, inner_first, no_inner, inner_followed}
use Rattle.sf_scan.specs.Languages.{Apart}
use Rattle.sf_scan.proofs.Lifts.{lifts_past}
use Rattle.sf_scan.proofs.Sequences.{lacks_both, same_lacks, none_read}
use Rattle.sf_scan.proofs.Starts.{item_apart, item_begun, item_start, raw_apart}
use Rattle.sf_scan.proofs.Starts.{bare_begun, bare_start, bare_no_bracket}

no_open : (t : List ℕ) → FirstIs (λ b. b ≢ open_bracket) t → Lacks (λ b. b == open_bracket) t
no_open [] h = tt
no_open (b ∷ t) h = differs b h
  where
    differs : (b : ℕ) → b ≢ open_bracket → (b == open_bracket) ≡ false
    differs b h = grind arith

two_ways : (x : Bool) → x ≡ true → x ≡ false → ⊥
two_ways x h k = cc

module _ (d : Dialect) (apart : Apart (SpellsBare d) is_follow)
    (begun : (t : List ℕ) (x : Bare) → (SpellsBare d) t x → Begun t)
    (start : IsFollowed (SpellsBare d) (in_bare d bare_place.Start) [])
    (no_bracket : in_bare d bare_place.Start open_bracket ≡ false) where
  abbrev I : List ℕ → RawItem → Type 0
  I = SpellsRawItem d

  abbrev N : List ℕ → RawInner → Type 0
  N = SpellsRawInner d

  no_params : (u : List ℕ) × (v : Pairs Bare) × SpellsRaw d ([] ++ u) v
  no_params = ([], [], refl)

  starts_item : IsFollowed I (in_bare d bare_place.Start) []
  starts_item = item_start d apart begun (in_bare d bare_place.Start) start

  starts_inner : IsFollowed N (λ b. b == open_bracket) []
  starts_inner = inner_followed I (SpellsRaw d) (item_apart d apart) (item_begun d apart begun) no_params

  bracket_first : (c : ℕ) (t : List ℕ) (l : RawInner) → N (c ∷ t) l → c ≡ open_bracket
  bracket_first =
      inner_first I (SpellsRaw d) (item_apart d apart) (item_begun d apart begun) no_params

  no_item : (t : List ℕ) (i : RawItem) → I (open_bracket ∷ t) i → ⊥
  no_item t i h =
      two_ways (in_bare d bare_place.Start open_bracket) (starts_item.only open_bracket (t, i, h))
      no_bracket

  never_both : (c : ℕ) (t u : List ℕ) (i : RawItem) (l : RawInner) → I (c ∷ t) i → N (c ∷ u) l → ⊥
  never_both c t u i l h k =
      no_item t i (subst (λ z. I (z ∷ t) i) (bracket_first c u l k) h)

  pub member_start : IsFollowed (SpellsRawMember d) (in_member d place.Start) []
  member_start =
      either_followed I N (in_bare d bare_place.Start) (λ b. b == open_bracket) starts_item starts_inner

  pub member_apart : Apart (SpellsRawMember d) is_after
  member_apart =
      either_apart I N is_after (item_apart d apart)
      (inner_apart I (SpellsRaw d) (item_apart d apart) (item_begun d apart begun) no_params
      (raw_apart d apart)) never_both (λ i h. item_begun d apart begun [] i h)
      (no_inner I (SpellsRaw d) (item_apart d apart) (item_begun d apart begun) no_params)

  pub member_begun : (t : List ℕ) (v : RawMember) → SpellsRawMember d t v → Begun t
  member_begun t (inl i) h = item_begun d apart begun t i h
  member_begun [] (inr l) h =
      no_inner I (SpellsRaw d) (item_apart d apart) (item_begun d apart begun) no_params l h
  member_begun (c ∷ t) (inr l) h = let e = bracket_first c t l h in rw e refl

  -- an Inner List
  pub inner_member : (rest text : List ℕ) → text ≡ open_bracket ∷ rest
      → Lifts (Past (open_bracket ∷ []) N) rest (SpellsRawMember d) text inr
  inner_member rest text e =
      lifts_past (Past (open_bracket ∷ []) N) (SpellsRawMember d) inr (open_bracket ∷ []) rest text
      (right_texts I N open_bracket no_item) e

  -- an Item
  not_inner : (text : List ℕ) → FirstIs (λ b. b ≢ open_bracket) text → (c : ℕ) (more : List ℕ)
      → text ≡ c ∷ more → (t : List ℕ) (l : RawInner) → N (c ∷ t) l → ⊥
  not_inner text n c more e t l h =
      let k : c ≢ open_bracket = subst (FirstIs (λ b. b ≢ open_bracket)) e n in
      k (bracket_first c t l h)

  pub item_member : (text prefix left : List ℕ) → FirstIs (λ b. b ≢ open_bracket) text
      → (u : List ℕ) × (i : RawItem) × I (prefix ++ u) i → text ≡ prefix ++ left → prefix ≢ []
      → Lifts I text (SpellsRawMember d) text inl
  item_member text prefix left n c e k = left_lifts I N prefix text left c e k (not_inner text n)

  pub item_read : (text : List ℕ) (next : ℕ → Bool) (i : RawItem) (left : List ℕ)
      → FirstIs (λ b. b ≢ open_bracket) text → Reads I next text i left
      → Lifts I text (SpellsRawMember d) text inl
  item_read text next i left n r =
      item_member text r.stops.prefix left n r.stops.followed.viable r.stops.split
      (λ e. item_begun d apart begun [] i (subst (λ t. I t i) e r.spelled))

  pub member_broken : (text : List ℕ) (p : ItemPlace) (left : List ℕ) (stop : Stop MemberPlace)
      → FirstIs (λ b. b ≢ open_bracket) text → Refuses I (in_item d p) text left
      → ends_item p ≡ false → length left ≢ length text → stop.left.now ≡ left
      → stop.place ≡ place.InItem p
      → Rejects (SpellsRawMember d) (in_member d) ends_member text stop
  member_broken text p left stop n r k m e f = record {
    refuses = rw (e, f) ((item_member text r.stops.prefix left n r.stops.followed.viable r.stops.split
        (λ z. m (sym (ap length (r.stops.split ∙ ap (λ q. q ++ left) z))))).refuses _ left r);
    open_still = rw f k;
  }

  pub member_open : (text : List ℕ) (next : ℕ → Bool) (left : List ℕ) (stop : Stop MemberPlace)
      → FirstIs (λ b. b ≢ open_bracket) text → Refuses I next text left
      → length left ≡ length text → stop.left.now ≡ left → stop.place ≡ place.Start
      → Rejects (SpellsRawMember d) (in_member d) ends_member text stop
  member_open text next left stop n r k e f =
      let z : r.stops.prefix ≡ [] = none_read text r.stops.prefix left r.stops.split k in
      let same : text ≡ left = r.stops.split ∙ ap (λ q. q ++ left) z in
      record {
        refuses = rw (e, f, ← same) (record {
          stops = record {
            prefix = [];
            split = refl;
            followed = member_start;
            blocked = lacks_both (in_bare d bare_place.Start) (λ b. b == open_bracket) text
                (same_lacks I next (in_bare d bare_place.Start) [] text
                (subst (IsFollowed I next) z r.stops.followed) starts_item
                (subst (Lacks next) (sym same) r.stops.blocked)) (no_open text n);
          };
          unspelled = λ v h. member_begun [] v h;
        });
        open_still = rw f refl;
      }

-- with the bare items of a dialect
pub member_element : (d : Dialect) → IsElement (SpellsRawMember d) (in_member d place.Start)
member_element d = record {
  apart = member_apart d (bare_apart d) (bare_begun d) (bare_start d) (bare_no_bracket d);
  begun = member_begun d (bare_apart d) (bare_begun d) (bare_start d) (bare_no_bracket d);
  start = member_start d (bare_apart d) (bare_begun d) (bare_start d) (bare_no_bracket d);
}
