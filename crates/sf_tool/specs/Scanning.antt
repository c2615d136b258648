-- Texts that are read line by line, and what is written without a value.
use Rattle.std.specs.Prelude.{◌≡◌, ℕ, ◌+◌, ◌⊎◌, List as Seq, ◌∷◌, length, Result, Ok, Err}
use Rattle.sf_value.specs.declared.dialect.Dialect.{Dialect}
use Rattle.sf_value.specs.declared.value.Kind.{Kind}
use Rattle.sf_value.specs.declared.value.Kind.TheVariants as kind
use Rattle.sf_value.specs.declared.value.Field.{Field}
use Rattle.sf_value.specs.Devices.{SinkState}
use Rattle.sf_value.specs.Grammar.Fields.{SpellsEntry}
use Rattle.sf_value.specs.Grammar.InnerLists.{SpellsMember}
use Rattle.sf_value.specs.Grammar.Lines.{join}
use Rattle.sf_value.specs.Grammar.Series.{SpellsWhole}
use Rattle.sf_parse.specs.declared.refusal.Refusal.{Refusal}
use Rattle.sf_parse.specs.AllocationFreeParsers.{NotForMemory}
use Rattle.sf_parse.specs.Parsers.{IsOnly, Parses}
use Rattle.sf_tool.specs.declared.status.Status.{Status}
use Rattle.sf_tool.specs.declared.status.Status.TheVariants.{Accepted}
use Rattle.sf_tool.specs.Lines.{lines_of}
use Rattle.sf_tool.specs.Run.{joined, ReportsText}

-- the text spells a first member and others
abbrev pub SpellsSome : {X : Type 0} → (Seq ℕ → X → Type 0) → Seq ℕ → Type 0
SpellsSome {X = X} P t = (x : X) × (xs : Seq X) × SpellsWhole P t (x ∷ xs)

-- the text spells a List or a Dictionary with a member
abbrev pub SpellsMembers : Dialect → Kind → Seq ℕ → Type 0
SpellsMembers d kind.Item t = ⊥
SpellsMembers d kind.List t = SpellsSome (SpellsMember d) t
SpellsMembers d kind.Dict t = SpellsSome (SpellsEntry d) t

-- a scan of the lines of an input read this text of members, which are the lines before the rest,
-- joined, and stopped at the first line of the rest, which is at this place of the joined text
pub record StopsAfter (d : Dialect) (kind : Kind) (input rest : Seq ℕ) (place : ℕ) : Type 0 where
  pub text : Seq ℕ
  pub line : Seq ℕ
  pub more : Seq (Seq ℕ)
  pub members : SpellsMembers d kind text
  pub place_is : place ≡ length text + 2
  pub left : lines_of rest ≡ line ∷ more
  pub whole : joined input ≡ join (text ∷ line ∷ more)

-- the scan stopped at the first line, or after others
abbrev pub StopsAt : Dialect → Kind → Seq ℕ → Seq ℕ → ℕ → Type 0
StopsAt d kind input rest place = (place ≡ 0) ⊎ StopsAfter d kind input rest place

-- the text spells a field and no other, or this is its exact refusal
abbrev pub AcceptedOrRefused : Dialect → Kind → Seq ℕ → Result (Unit {0}) Refusal → Type 0
AcceptedOrRefused d kind t (Ok u) = (v : Field) × IsOnly d kind t v
AcceptedOrRefused d kind t (Err e) = Parses d kind t (Err e) × NotForMemory (Err e)

-- what is printed of the only field that the text spells was to be written
abbrev pub ReportsOnly : (Field → Seq ℕ) → Dialect → Kind → Seq ℕ → SinkState → SinkState → Status
    → Type 0
ReportsOnly print d kind t old new status =
    (v : Field) × IsOnly d kind t v × ReportsText (print v) Accepted old new status
