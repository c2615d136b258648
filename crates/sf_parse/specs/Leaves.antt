-- Bare items that were found in a text and are not yet built.
use Rattle.std.specs.Prelude.{◌≡◌, ℕ, List, ◌∷◌, Some, ⊤}
use Rattle.sf_value.specs.declared.dialect.Dialect.{Dialect}
use Rattle.sf_value.specs.Digits.{sextet}
use Rattle.sf_value.specs.Grammar.BareItems.{SpellsBare}
use Rattle.sf_value.specs.InPlace.{FitsInPlace}
use Rattle.sf_scan.specs.Leaves.{leaf_bare, unescaped}
use Rattle.sf_scan.specs.declared.leaf.Leaf.{Leaf}
use Rattle.sf_scan.specs.declared.leaf.Leaf.TheVariants as leaf

-- some text spells it
abbrev pub IsLeaf : Leaf → Type 0
IsLeaf leaf = (d : Dialect) × (text : List ℕ) × SpellsBare d text (leaf_bare leaf)

-- it is built without an allocation, whatever its text is
abbrev pub FitsLeaf : Leaf → Type 0
FitsLeaf (leaf.Integer n) = ⊤
FitsLeaf (leaf.Decimal m) = ⊤
FitsLeaf (leaf.Date n) = ⊤
FitsLeaf (leaf.Token t) = FitsInPlace t.now
FitsLeaf (leaf.Text t) = FitsInPlace t.now
FitsLeaf (leaf.Escaped t) = FitsInPlace (unescaped t.now)
FitsLeaf (leaf.Blob t) = ⊥
FitsLeaf (leaf.Display t) = ⊥
FitsLeaf (leaf.Boolean b) = ⊤

-- the text begins with a character of base64 of this value
abbrev pub BeginsCharacter : List ℕ → ℕ → List ℕ → Type 0
BeginsCharacter text x rest = (b : ℕ) × (text ≡ b ∷ rest) × (sextet b ≡ Some x)
