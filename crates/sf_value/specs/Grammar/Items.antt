-- The texts of Items.
use Rattle.std.specs.Prelude.{◌≡◌, ℕ, List, ◌++◌}
use Rattle.sf_value.specs.declared.dialect.Dialect.{Dialect}
use Rattle.sf_value.specs.declared.value.Bare.{Bare}
use Rattle.sf_value.specs.declared.value.Item.{Item}
use Rattle.sf_value.specs.Grammar.Pairs.{Pairs}
use Rattle.sf_value.specs.Grammar.BareItems.{SpellsBare}
use Rattle.sf_value.specs.Grammar.Parameters.{SpellsParams}

-- an Item by its parts
abbrev pub item : Bare → Pairs Bare → Item
item x ps = record { bare = x; params = ps }

-- an Item (3.3, 4.2.3): its bare item, then its parameters
abbrev pub SpellsItem : Dialect → List ℕ → Item → Type 0
SpellsItem d t i =
    (prefix suffix : List ℕ)
    × (t ≡ prefix ++ suffix)
    × SpellsBare d prefix i.bare
    × SpellsParams d suffix i.params
