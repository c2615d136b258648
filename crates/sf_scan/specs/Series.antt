-- Members with commas between them, and whole Lists, as sf_value's grammar defines them, with repeated
-- keys.
use Rattle.std.specs.Prelude.{ℕ, Bool, true, false, List, [], ◌∷◌, ◌==◌, ◌||◌, ◌&&◌}
use Rattle.sf_value.specs.declared.dialect.Dialect.{Dialect}
use Rattle.sf_value.specs.Ascii.{comma}
use Rattle.sf_value.specs.Grammar.Classes.{is_sp, is_ows}
use Rattle.sf_value.specs.Grammar.Series.{SpellsWhole}
use Rattle.sf_scan.specs.Languages.{Apart, Begun}
use Rattle.sf_scan.specs.Members.{RawMember, SpellsRawMember, in_member, ends_member}
use Rattle.sf_scan.specs.Places.{is_after}
use Rattle.sf_scan.specs.Stops.{IsFollowed}
use Rattle.sf_scan.specs.declared.member.MemberPlace.{MemberPlace}
use Rattle.sf_scan.specs.declared.member.MemberPlace.TheVariants as member_place
use Rattle.sf_scan.specs.declared.series.SeriesPlace.{SeriesPlace}
use Rattle.sf_scan.specs.declared.series.SeriesPlace.TheVariants as place

-- a List: SP, members with commas between them, OWS
abbrev pub SpellsRawList : Dialect → List ℕ → List RawMember → Type 0
SpellsRawList d = SpellsWhole (SpellsRawMember d)

-- what is made of a list, one after another
abbrev pub made_each : {M X : Type 0} → (M → X → M) → M → List X → M
made_each make m [] = m
made_each make m (x ∷ xs) = made_each make (make m x) xs

-- a language of members that may have commas between them: none is empty or begins with a byte that may
-- come after a member, none goes on with such a byte, and these are their first bytes
pub record IsElement {X : Type 0} (L : List ℕ → X → Type 0) (begin : ℕ → Bool) : Type 0 where
  pub apart : Apart L is_after
  pub begun : (t : List ℕ) (x : X) → L t x → Begun t
  pub start : IsFollowed L begin []

-- the bytes that may come at a place among such members, as part of them: `next` at a place in a member,
-- which begins at `start`, and `ends` says whether it may end there
abbrev pub in_series : {P : Type 0} → P → (P → ℕ → Bool) → (P → Bool) → SeriesPlace P → ℕ → Bool
in_series start next ends place.Start b = next start b || is_sp b
in_series start next ends (place.InMember p) b = next p b || (ends p && (is_ows b || b == comma))
in_series start next ends place.Spaces b = is_ows b || b == comma
in_series start next ends place.Comma b = next start b || is_ows b

-- whether they may end there
abbrev pub ends_series : {P : Type 0} → (P → Bool) → SeriesPlace P → Bool
ends_series ends place.Start = true
ends_series ends (place.InMember p) = ends p
ends_series ends place.Spaces = true
ends_series ends place.Comma = false

-- the same in a List
abbrev pub in_list : Dialect → SeriesPlace MemberPlace → ℕ → Bool
in_list d = in_series member_place.Start (in_member d) ends_member

abbrev pub ends_list : SeriesPlace MemberPlace → Bool
ends_list = ends_series ends_member
