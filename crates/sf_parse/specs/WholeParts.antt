-- What reading a whole part at the start of a text returns.
use Rattle.std.specs.Prelude.{◌≡◌, ℕ, false, List, [], ◌∷◌, ◌++◌}
use Rattle.sf_value.specs.Ascii.{space, semicolon, close_bracket}
use Rattle.sf_value.specs.declared.dialect.Dialect.{Dialect}
use Rattle.sf_value.specs.declared.value.Bare.{Bare}
use Rattle.sf_value.specs.declared.value.Item.{Item}
use Rattle.sf_value.specs.declared.value.Member.{Member}
use Rattle.sf_value.specs.declared.value.Member.TheVariants as member
use Rattle.sf_value.specs.Grammar.Classes.{is_sp, is_ows}
use Rattle.sf_value.specs.Grammar.Items.{SpellsItem, item}
use Rattle.sf_value.specs.Grammar.Pairs.{Pairs}
use Rattle.sf_value.specs.Grammar.Parameters.{SpellsParam}
use Rattle.sf_value.specs.Grammar.InnerLists.{SpellsItems}
use Rattle.sf_scan.specs.Leaves.{leaf_bare}
use Rattle.sf_value.specs.Runs.{Skips}
use Rattle.sf_parse.specs.declared.whole_parts.AfterItem.{AfterItem}
use Rattle.sf_parse.specs.declared.whole_parts.AfterItem.TheVariants as after
use Rattle.sf_parse.specs.declared.whole_parts.Found.{Found}

-- the start of the text, up to the rest, spells the value as P says
pub record ReadsAs {X : Type 0} (P : List ℕ → X → Type 0) (text : List ℕ) (x : X)
    (rest : List ℕ) : Type 0 where
  pub prefix : List ℕ
  pub split : text ≡ prefix ++ rest
  pub spelled : P prefix x

-- the start of the text spells a parameter after its semicolon
pub record ReadsParam (d : Dialect) (text key : List ℕ) (x : Bare) (rest : List ℕ)
    : Type 0 where
  pub prefix : List ℕ
  pub split : text ≡ prefix ++ rest
  pub spelled : SpellsParam d (semicolon ∷ prefix) key x

-- after an Item of an Inner List come one or more spaces, or the closing bracket
abbrev pub IsAfterItem : List ℕ → AfterItem → Type 0
IsAfterItem text (after.Open rest) =
    (more : List ℕ) × (text ≡ space ∷ more) × Skips is_sp more rest.now
IsAfterItem text (after.Closed rest) = text ≡ close_bracket ∷ rest.now

-- the start of the text spells an Item, which is added to the old ones
pub record AddsItem (d : Dialect) (text : List ℕ) (old new : List Item) (end : AfterItem)
    : Type 0 where
  pub item : Item
  pub rest : List ℕ
  pub reads : ReadsAs (SpellsItem d) text item rest
  pub added : new ≡ old ++ item ∷ []
  pub after : IsAfterItem rest end

-- the text begins with a byte that is no white space, as members do
abbrev pub BeginsMember : List ℕ → Type 0
BeginsMember text = (b : ℕ) × (more : List ℕ) × (text ≡ b ∷ more) × (is_ows b ≡ false)

-- what was found, with these parameters, as a member after its key
abbrev pub found_member : Found → Pairs Bare → List ℕ × Member
found_member f params = (f.key.now, member.Item (item (leaf_bare f.leaf) params))

-- the start of the text spells Items of an Inner List, after at least this many spaces, and a
-- closing bracket follows; they are added to the old ones
pub record ReadsItems (d : Dialect) (least : ℕ) (text : List ℕ) (old new : List Item)
    (rest : List ℕ) : Type 0 where
  pub prefix : List ℕ
  pub items : List Item
  pub split : text ≡ prefix ++ close_bracket ∷ rest
  pub spelled : SpellsItems d least prefix items
  pub added : new ≡ old ++ items
