-- The indented tree that `show` prints for a field: each line is under its parent, indented by two
-- more spaces.
use Rattle.std.specs.Prelude.{ℕ, ◌+◌, ◌*◌, List as Seq, [], ◌∷◌, ◌++◌, length, replicate, codes}
use Rattle.std.specs.Prelude.{decimal}
use Rattle.sf_value.specs.Ascii.{space}
use Rattle.sf_value.specs.declared.value.Bare.{Bare}
use Rattle.sf_value.specs.declared.value.Bare.TheVariants.{Integer, Decimal, Text, Token}
use Rattle.sf_value.specs.declared.value.Bare.TheVariants.{Blob, Boolean, Date, Shown}
use Rattle.sf_value.specs.declared.value.Item.{Item}
use Rattle.sf_value.specs.declared.value.Inner.{Inner}
use Rattle.sf_value.specs.declared.value.Member.{Member}
use Rattle.sf_value.specs.declared.value.Member.TheVariants as member
use Rattle.sf_value.specs.declared.value.Field.{Field}
use Rattle.sf_value.specs.declared.value.Field.TheVariants as field
use Rattle.sf_value.specs.Grammar.Pairs.{Pairs}
use Rattle.sf_value.specs.Grammar.Canonical.{canon_bare}

-- what is before a line at this depth
abbrev pub margin : ℕ → Seq ℕ
margin depth = replicate (2 * depth) space

-- the word for the type of a bare item, and a space
abbrev pub type_word : Bare → Seq ℕ
type_word (Integer n) = codes "integer "
type_word (Decimal m) = codes "decimal "
type_word (Text s) = codes "string "
type_word (Token s) = codes "token "
type_word (Blob s) = codes "bytes "
type_word (Boolean b) = codes "boolean "
type_word (Date n) = codes "date "
type_word (Shown s) = codes "display "

-- a bare item to the end of its line: the word for its type, and its canonical text
abbrev pub bare_line : Bare → Seq ℕ
bare_line b = type_word b ++ (canon_bare b ++ codes "\n")

-- a word, a count, and the end of the line
abbrev pub count_line : Seq ℕ → ℕ → Seq ℕ
count_line word n = word ++ (decimal n ++ codes "\n")

-- a line for each parameter
abbrev pub param_lines : ℕ → Pairs Bare → Seq ℕ
param_lines depth [] = []
param_lines depth (p ∷ ps) =
    margin depth ++ (codes "; " ++ (p.0 ++ (codes " " ++ (bare_line p.1 ++ param_lines depth ps))))

-- an Item at this depth, after what is before it in its line; its parameters are below it
abbrev pub item_lines : ℕ → Item → Seq ℕ
item_lines depth i = bare_line i.bare ++ param_lines (depth + 1) i.params

-- the Items of an Inner List
abbrev pub items_lines : ℕ → Seq Item → Seq ℕ
items_lines depth [] = []
items_lines depth (i ∷ is) = margin depth ++ (item_lines depth i ++ items_lines depth is)

-- an Inner List: the number of its Items, and below it these and then its parameters
abbrev pub inner_lines : ℕ → Inner → Seq ℕ
inner_lines depth l =
    count_line (codes "inner ") (length l.items)
    ++ (items_lines (depth + 1) l.items ++ param_lines (depth + 1) l.params)

-- a member
abbrev pub member_lines : ℕ → Member → Seq ℕ
member_lines depth (member.Item i) = item_lines depth i
member_lines depth (member.Inner l) = inner_lines depth l

-- the members of a List
abbrev pub members_lines : Seq Member → Seq ℕ
members_lines [] = []
members_lines (m ∷ ms) = margin 1 ++ (member_lines 1 m ++ members_lines ms)

-- the members of a Dictionary, each after its key
abbrev pub entries_lines : Pairs Member → Seq ℕ
entries_lines [] = []
entries_lines (p ∷ ps) =
    margin 1 ++ (p.0 ++ (codes " = " ++ (member_lines 1 p.1 ++ entries_lines ps)))

-- the tree of a field
abbrev pub tree : Field → Seq ℕ
tree (field.Item i) = codes "item\n" ++ (margin 1 ++ item_lines 1 i)
tree (field.List l) = count_line (codes "list ") (length l.members) ++ members_lines l.members
tree (field.Dict m) = count_line (codes "dict ") (length m.members) ++ entries_lines m.members
