-- Bare items that point into the text.
use Rattle.std.specs.Prelude.{ℕ, ◌==◌, if◌then◌else◌, List, [], ◌∷◌}
use Rattle.sf_value.specs.Ascii.{backslash}
use Rattle.sf_value.specs.declared.value.Bare.{Bare}
use Rattle.sf_value.specs.declared.value.Bare.TheVariants as bare
use Rattle.sf_scan.specs.Blobs.{blob_bytes}
use Rattle.sf_scan.specs.DisplayStrings.{shown_bytes}
use Rattle.sf_scan.specs.declared.number.NumberLeaf.{NumberLeaf}
use Rattle.sf_scan.specs.declared.leaf.Leaf.{Leaf}
use Rattle.sf_scan.specs.declared.leaf.Leaf.TheVariants as leaf

-- the bytes with each backslash left out that stands before another byte
abbrev pub unescaped : List ℕ → List ℕ
unescaped [] = []
unescaped (b ∷ []) = b ∷ []
unescaped (b ∷ c ∷ s) = if b == backslash then c ∷ unescaped s else b ∷ unescaped (c ∷ s)

-- the bare item of a leaf
abbrev pub leaf_bare : Leaf → Bare
leaf_bare (leaf.Integer n) = bare.Integer n
leaf_bare (leaf.Decimal m) = bare.Decimal m
leaf_bare (leaf.Date n) = bare.Date n
leaf_bare (leaf.Token t) = bare.Token t.now
leaf_bare (leaf.Text t) = bare.Text t.now
leaf_bare (leaf.Escaped t) = bare.Text (unescaped t.now)
leaf_bare (leaf.Blob t) = bare.Blob (blob_bytes t.now)
leaf_bare (leaf.Display t) = bare.Shown (shown_bytes t.now)
leaf_bare (leaf.Boolean b) = bare.Boolean b

-- the leaf of an Integer or a Decimal
abbrev pub number_leaf : NumberLeaf → Leaf
number_leaf n = if n.is_decimal then leaf.Decimal n.value else leaf.Integer n.value
