-- What a whole text that is accepted spells.
use Rattle.std.specs.Prelude.{◌≡◌, ℕ, ◌≤◌, List, [], ◌∷◌, ◌++◌, take, length}
use Rattle.sf_value.specs.declared.dialect.Dialect.{Dialect}
use Rattle.sf_value.specs.declared.value.Field.{Field}
use Rattle.sf_value.specs.declared.value.Kind.{Kind}
use Rattle.sf_value.specs.Grammar.Words.{Every}
use Rattle.sf_value.specs.Grammar.Classes.{is_sp}
use Rattle.sf_value.specs.Grammar.Series.{SpellsSeries}
use Rattle.sf_parse.specs.Parsers.{IsOnly}
use Rattle.sf_view.specs.declared.node.Node.{Node}
use Rattle.sf_view.specs.View.{DescribesField, DescribesEntries, DescribesMembers}
use Rattle.sf_view.specs.declared.keys.Marks.{Marks}
use Rattle.sf_view.specs.Marks.{HaveMarks}
use Rattle.sf_view.specs.Scans.{Puts}
use Rattle.std.specs.Map.{keys_of}
use Rattle.sf_value.specs.declared.value.Member.{Member}
use Rattle.sf_value.specs.Grammar.Pairs.{Pairs, settle}
use Rattle.sf_value.specs.Grammar.InnerLists.{SpellsMember}
use Rattle.sf_value.specs.Grammar.Fields.{SpellsEntry}

-- the text spells a field and no other, and the first nodes, count many, describe it
pub record Accepts (d : Dialect) (kind : Kind) (text : List ℕ) (nodes : List Node) (count : ℕ)
    : Type 0 where
  pub within : count ≤ length nodes
  pub value : Field
  pub only : IsOnly d kind text value
  pub describes : DescribesField d text (take count nodes) value

-- members were read; with the text of any further member after them they are a series
pub record SoFar (X : Type 0) (P : List ℕ → X → Type 0) (T : List Node → List X → Type 0)
    (text rest : List ℕ) (old new : List Node) (count : ℕ) : Type 0 where
  pub gap : List ℕ
  pub prefix : List ℕ
  pub values : List X
  pub nodes : List Node
  pub split : text ≡ gap ++ (prefix ++ rest)
  pub spaces : Every is_sp gap
  pub glue : (f : List ℕ) (x : X) → P f x → SpellsSeries P (prefix ++ f) (values ++ x ∷ [])
  pub puts : Puts old new 0 count nodes
  pub describes : T nodes values

-- the members of a List up to the rest were read, and the first nodes, count many, describe them
abbrev pub IsListed : Dialect → List ℕ → List ℕ → List Node → ℕ → Type 0
IsListed d text rest nodes count =
    SoFar Member (SpellsMember d) (DescribesMembers d text) text rest nodes nodes count

-- the nodes describe these members of a Dictionary or fewer, of which as much is left when they are
-- settled, and these are the marks of the keys that the nodes have
pub record DescribesMarked (d : Dialect) (text : List ℕ) (marks : Marks) (ns : List Node)
    (ps : Pairs Member) : Type 0 where
  pub kept : Pairs Member
  pub same : settle kept ≡ settle ps
  pub describes : DescribesEntries d text ns kept
  pub marked : HaveMarks marks (keys_of kept)

-- the members of a Dictionary up to the rest were read, and the first nodes, count many, describe
-- those of them that are kept
abbrev pub AreEntries : Dialect → List ℕ → List ℕ → Marks → List Node → ℕ → Type 0
AreEntries d text rest marks nodes count =
    SoFar (List ℕ × Member) (SpellsEntry d) (DescribesMarked d text marks) text rest nodes nodes count
