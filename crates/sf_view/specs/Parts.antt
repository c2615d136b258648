-- The parts of a view, in order.
use Rattle.std.specs.Prelude.{◌≡◌, ℕ, List as Seq, [], ◌∷◌, Option, Some, None}
use Rattle.sf_value.specs.declared.dialect.Dialect.{Dialect}
use Rattle.sf_value.specs.declared.value.Bare.{Bare}
use Rattle.sf_value.specs.declared.value.Item.{Item}
use Rattle.sf_value.specs.declared.value.Member.{Member}
use Rattle.sf_value.specs.Grammar.Pairs.{Pairs}
use Rattle.sf_view.specs.declared.node.Node.{Node}
use Rattle.sf_view.specs.declared.node_types.Role.{Role}
use Rattle.sf_view.specs.declared.node_types.Role.TheVariants as role_is
use Rattle.sf_view.specs.declared.view.View.{View as PartView}
use Rattle.sf_view.specs.View.{DescribesMember, DescribesMembers, DescribesEntries, DescribesItem}
use Rattle.sf_view.specs.View.{DescribesItems, DescribesParams}

-- some nodes describe the first of these parts, and the others describe the rest
pub record SplitsOff {X : Type 0} (P : Seq Node → X → Type 0) (T : Seq Node → Seq X → Type 0)
    (xs : Seq X) (prefix later : Seq Node) : Type 0 where
  pub value : X
  pub others : Seq X
  pub parts : xs ≡ value ∷ others
  pub first : P prefix value
  pub rest : T later others

-- the first part and the others, if there are any parts
abbrev pub Splits : {X : Type 0} → (Seq Node → X → Type 0) → (Seq Node → Seq X → Type 0) → Seq X
    → Option (PartView × PartView) → Type 0
Splits P T xs None = xs ≡ []
Splits P T xs (Some r) = SplitsOff P T xs r.0.nodes.now r.1.nodes.now

-- the members of a List, split into the first and the others
abbrev pub MembersSplit : Dialect → Seq ℕ → Seq Member → Option (PartView × PartView) → Type 0
MembersSplit d source ms r = Splits (DescribesMember d source []) (DescribesMembers d source) ms r

-- the members of a Dictionary, split into the first and the others
abbrev pub EntriesSplit : Dialect → Seq ℕ → Pairs Member → Option (PartView × PartView) → Type 0
EntriesSplit d source ps r =
    Splits (λ ns p. DescribesMember d source p.0 ns p.1) (DescribesEntries d source) ps r

-- the Items of an Inner List, split into the first and the others
abbrev pub ItemsSplit : Dialect → Seq ℕ → Seq Item → Option (PartView × PartView) → Type 0
ItemsSplit d source is r =
    Splits (DescribesItem d source role_is.InnerItem []) (DescribesItems d source) is r

-- parameters, split into the first and the others
abbrev pub ParamsSplit : Dialect → Seq ℕ → Role → Pairs Bare → Option (PartView × PartView)
    → Type 0
ParamsSplit d source r ps s =
    Splits (λ ns p. DescribesParams d source r ns (p ∷ [])) (DescribesParams d source r) ps s

-- the nodes describe the Items of an Inner List
abbrev pub ItemsShown : Dialect → Seq ℕ → Seq Item → Option PartView → Type 0
ItemsShown d source is None = ⊥
ItemsShown d source is (Some v) = DescribesItems d source v.nodes.now is
