-- What reading the start of a text without nodes returns.
use Rattle.std.specs.Prelude.{◌≡◌, ℕ, List, ◌∷◌, ◌++◌, Option, Some, None}
use Rattle.sf_value.specs.Ascii.{close_bracket}
use Rattle.sf_value.specs.declared.dialect.Dialect.{Dialect}
use Rattle.sf_value.specs.declared.value.Bare.{Bare}
use Rattle.sf_value.specs.declared.value.Bare.TheVariants.{Text}
use Rattle.sf_value.specs.declared.value.Member.{Member}
use Rattle.sf_value.specs.declared.value.Member.TheVariants as member
use Rattle.sf_value.specs.Grammar.BareItems.{SpellsBare}
use Rattle.sf_value.specs.Grammar.Parameters.{SpellsParam}
use Rattle.sf_value.specs.Grammar.InnerLists.{SpellsItems, SpellsMember}
use Rattle.sf_value.specs.Grammar.Fields.{SpellsEntry}
use Rattle.sf_view.specs.declared.view.BareView.{BareView}
use Rattle.sf_view.specs.declared.view.Slice.{Slice}
use Rattle.sf_view.specs.View.{DescribesText}
use Rattle.sf_view.specs.Views.{IsBorrowed}

-- the start of the text, up to the rest, spells something as P says
pub record Reads {X : Type 0} (P : List ℕ → X → Type 0) (text rest : List ℕ) : Type 0 where
  pub prefix : List ℕ
  pub value : X
  pub split : text ≡ prefix ++ rest
  pub spelled : P prefix value

-- the start of the text spells a bare item, which is borrowed
pub record ReadsBare (d : Dialect) (text : List ℕ) (b : BareView) (rest : List ℕ) : Type 0 where
  pub prefix : List ℕ
  pub value : Bare
  pub split : text ≡ prefix ++ rest
  pub spelled : SpellsBare d prefix value
  pub borrowed : IsBorrowed d b value

-- the start of the text spells a parameter with this key, and its value is borrowed
pub record ReadsParam (d : Dialect) (text key : List ℕ) (b : BareView) (rest : List ℕ)
    : Type 0 where
  pub prefix : List ℕ
  pub value : Bare
  pub split : text ≡ prefix ++ rest
  pub spelled : SpellsParam d prefix key value
  pub borrowed : IsBorrowed d b value

-- the start of the text spells the Items of an Inner List, after at least this many spaces, and a
-- closing bracket follows
abbrev pub ReadsItems : Dialect → ℕ → List ℕ → List ℕ → Type 0
ReadsItems d least text rest = Reads (SpellsItems d least) text (close_bracket ∷ rest)

-- the bare item of an Item is borrowed; an Inner List has none
abbrev pub ShowsMember : Dialect → Option BareView → Member → Type 0
ShowsMember d (Some b) (member.Item i) = IsBorrowed d b i.bare
ShowsMember d None (member.Inner l) = Unit {0}
ShowsMember d b m = ⊥

-- the start of the text spells a member; if it is an Item, its bare item is borrowed
pub record ReadsMember (d : Dialect) (text : List ℕ) (b : Option BareView) (rest : List ℕ)
    : Type 0 where
  pub reads : Reads (SpellsMember d) text rest
  pub shows : ShowsMember d b reads.value

-- the start of the text spells a member of a Dictionary with this key; if it is an Item, its bare
-- item is borrowed
pub record ReadsEntry (d : Dialect) (text key : List ℕ) (b : Option BareView) (rest : List ℕ)
    : Type 0 where
  pub reads : Reads (λ t m. SpellsEntry d t (key, m)) text rest
  pub shows : ShowsMember d b reads.value

-- the bytes of a String, or None if there is no String
abbrev pub ShowsText : Dialect → Option Slice → Option (List ℕ) → Type 0
ShowsText d (Some s) (Some t) = DescribesText d s.coded s.bytes.now (Text t)
ShowsText d None None = Unit {0}
ShowsText d s t = ⊥
