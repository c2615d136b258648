-- Members of Lists, and values of members of Dictionaries: Items and Inner Lists, with repeated keys.
use Rattle.std.specs.Prelude.{ℕ, Bool, false, List, ◌==◌, ◌||◌, ◌⊎◌}
use Rattle.std.proofs.Common.{inl, inr}
use Rattle.sf_value.specs.declared.dialect.Dialect.{Dialect}
use Rattle.sf_value.specs.declared.value.Bare.{Bare}
use Rattle.sf_value.specs.Ascii.{open_bracket}
use Rattle.sf_scan.specs.InnerLists.{RawInner, SpellsRawInner, made_rest, in_inner, ends_inner}
use Rattle.sf_scan.specs.Items.{RawItem, SpellsRawItem, made_item, in_item, ends_item}
use Rattle.sf_scan.specs.Languages.{Either}
use Rattle.sf_scan.specs.Places.{in_bare}
use Rattle.sf_scan.specs.declared.place.BarePlace.TheVariants as bare_place
use Rattle.sf_scan.specs.declared.member.MemberPlace.{MemberPlace}
use Rattle.sf_scan.specs.declared.member.MemberPlace.TheVariants as place

-- an Item or an Inner List, with parameters as they stand
abbrev pub RawMember : Type 0
RawMember = RawItem ⊎ RawInner

abbrev pub SpellsRawMember : Dialect → List ℕ → RawMember → Type 0
SpellsRawMember d = Either (SpellsRawItem d) (SpellsRawInner d)

-- what is made of it
abbrev pub made_member : {M : Type 0} → (M → Bare → M) → (M → List ℕ → Bare → M) → (M → M)
    → (M → M) → M → RawMember → M
made_member bare with opened closed m (inl i) = made_item bare with m i
made_member bare with opened closed m (inr l) = made_rest bare with closed (opened m) l

-- the bytes that may come at a place in a member, as part of it
abbrev pub in_member : Dialect → MemberPlace → ℕ → Bool
in_member d place.Start b = in_bare d bare_place.Start b || b == open_bracket
in_member d (place.InItem p) b = in_item d p b
in_member d (place.InInner p) b = in_inner d p b

-- whether the member may end there
abbrev pub ends_member : MemberPlace → Bool
ends_member place.Start = false
ends_member (place.InItem p) = ends_item p
ends_member (place.InInner p) = ends_inner p
