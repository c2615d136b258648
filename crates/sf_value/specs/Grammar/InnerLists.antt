-- The texts of Inner Lists, and of the members of Lists and Dictionaries.
use Rattle.std.specs.Prelude.{◌≡◌, ℕ, ◌≤◌, List, [], ◌∷◌, ◌++◌, length}
use Rattle.sf_value.specs.declared.dialect.Dialect.{Dialect}
use Rattle.sf_value.specs.declared.value.Bare.{Bare}
use Rattle.sf_value.specs.declared.value.Item.{Item}
use Rattle.sf_value.specs.declared.value.Inner.{Inner}
use Rattle.sf_value.specs.declared.value.Member.{Member}
use Rattle.sf_value.specs.declared.value.Member.TheVariants as member
use Rattle.sf_value.specs.Ascii.{open_bracket, close_bracket}
use Rattle.sf_value.specs.Grammar.Words.{Every}
use Rattle.sf_value.specs.Grammar.Classes.{is_sp}
use Rattle.sf_value.specs.Grammar.Pairs.{Pairs}
use Rattle.sf_value.specs.Grammar.Parameters.{SpellsParams}
use Rattle.sf_value.specs.Grammar.Items.{SpellsItem}

-- an Inner List by its parts
abbrev pub inner : List Item → Pairs Bare → Inner
inner is ps = record { items = is; params = ps }

-- Items with spaces before each, at least this many before the first and one before each other, and
-- spaces at the end
abbrev pub SpellsItems : Dialect → ℕ → List ℕ → List Item → Type 0
SpellsItems d least t [] = Every is_sp t
SpellsItems d least t (i ∷ is) =
    (gap prefix suffix : List ℕ)
    × (t ≡ gap ++ (prefix ++ suffix))
    × Every is_sp gap
    × (least ≤ length gap)
    × SpellsItem d prefix i
    × SpellsItems d 1 suffix is

-- an Inner List (3.1.1, 4.2.1.2): a bracket, Items, a bracket, parameters
abbrev pub SpellsInner : Dialect → List ℕ → Inner → Type 0
SpellsInner d t l =
    (body suffix : List ℕ)
    × (t ≡ open_bracket ∷ (body ++ close_bracket ∷ suffix))
    × SpellsItems d 0 body l.items
    × SpellsParams d suffix l.params

-- a member (4.2.1.1): an Item or an Inner List
abbrev pub SpellsMember : Dialect → List ℕ → Member → Type 0
SpellsMember d t (member.Item i) = SpellsItem d t i
SpellsMember d t (member.Inner l) = SpellsInner d t l
