-- The values of sf_value's grammar, from those with repeated keys.
use Rattle.std.specs.Prelude.{◌≡◌, ℕ, List, [], ◌∷◌}
use Rattle.std.proofs.Common.{inl, inr}
use Rattle.sf_value.specs.declared.value.Item.{Item}
use Rattle.sf_value.specs.declared.value.Inner.{Inner}
use Rattle.sf_value.specs.declared.value.Member.{Member}
use Rattle.sf_value.specs.declared.value.Member.TheVariants as member
use Rattle.sf_value.specs.declared.value.Field.{Field}
use Rattle.sf_value.specs.declared.value.Field.TheVariants as field
use Rattle.sf_value.specs.Grammar.Fields.{list_of, dict_of}
use Rattle.sf_value.specs.Grammar.InnerLists.{inner}
use Rattle.sf_value.specs.Grammar.Items.{item}
use Rattle.sf_value.specs.Grammar.Pairs.{Pairs, settle}
use Rattle.sf_scan.specs.InnerLists.{RawInner}
use Rattle.sf_scan.specs.Items.{RawItem}
use Rattle.sf_scan.specs.Members.{RawMember}

-- the values, one by one
abbrev pub each_of : {X Y : Type 0} → (X → Y) → List X → List Y
each_of f [] = []
each_of f (x ∷ xs) = f x ∷ each_of f xs

abbrev pub item_of : RawItem → Item
item_of v = item v.0 (settle v.1)

abbrev pub inner_of : RawInner → Inner
inner_of v = inner (each_of item_of v.0) (settle v.1)

abbrev pub member_of : RawMember → Member
member_of (inl i) = member.Item (item_of i)
member_of (inr l) = member.Inner (inner_of l)

abbrev pub entry_of : List ℕ × RawMember → List ℕ × Member
entry_of p = (p.0, member_of p.1)

-- fields of each kind
abbrev pub item_field_of : RawItem → Field
item_field_of v = field.Item (item_of v)

abbrev pub list_field_of : List RawMember → Field
list_field_of ms = list_of (each_of member_of ms)

abbrev pub dict_field_of : Pairs RawMember → Field
dict_field_of ps = dict_of (settle (each_of entry_of ps))

-- M has the texts of L and no others, each with the value that `of` gives
pub record Settles {V W : Type 0} (L : List ℕ → V → Type 0) (M : List ℕ → W → Type 0) (of : V → W)
    : Type 0 where
  pub up : (t : List ℕ) (v : V) → L t v → M t (of v)
  pub down : (t : List ℕ) (w : W) → M t w → (v : V) × (w ≡ of v) × L t v
