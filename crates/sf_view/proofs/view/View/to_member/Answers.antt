use Rattle.std.proofs.Common.{◌≡◌, ◌∙◌, ℕ, List, ap, Some}
use Rattle.std.specs.Option.{option_map}
use Rattle.sf_value.specs.declared.dialect.Dialect.{Dialect}
use Rattle.sf_value.specs.declared.value.Member.{Member}
use Rattle.sf_value.specs.declared.value.Member.TheVariants as member
use Rattle.sf_value.specs.Grammar.Valid.{ValidItem, ValidInner, ValidMember}
use Rattle.sf_view.specs.declared.node_types.Role.TheVariants as role_is
use Rattle.sf_view.specs.View.{DescribesMember}
use Rattle.sf_view.proofs.Copying.{copy_is, items_distinct}
use Rattle.sf_view.proofs.view.View.to_member.Goals.{In_ok-inner-in-Some, In_ok-item-in-None}
use Rattle.sf_view.proofs.view.View.to_member.Goals as goal

inner : (c : In_ok-inner-in-Some) (d : Dialect) (k : List ℕ) (m : Member)
    → DescribesMember d c.args.self.now.text.now k c.args.self.now.nodes.now m
    → ValidMember d m → option_map member.Inner c.in_ok-inner-in-Some.field-0 ≡ Some m
inner c d k (member.Item i) t v =
    let other = c.in-Some.ensures.item d role_is.Member k i t in
    absurd cc
inner c d k (member.Inner l) t v =
    ap (option_map member.Inner)
    (copy_is (ValidInner d l) l _
    (c.in_ok-inner-in-Some.ensures.copy d k l t (items_distinct d l.items v.0) v.1.1) v)

item : (c : In_ok-item-in-None) (d : Dialect) (k : List ℕ) (m : Member)
    → DescribesMember d c.args.self.now.text.now k c.args.self.now.nodes.now m
    → ValidMember d m → option_map member.Item c.in_ok-item-in-None.field-0 ≡ Some m
item c d k (member.Item i) t v =
    ap (option_map member.Item)
    (copy_is (ValidItem d i) i _
    (c.in_ok-item-in-None.ensures.copy d role_is.Member k i t v.1.1) v)
item c d k (member.Inner l) t v = absurd (c.in-None.ensures.inner d k l t)

pub returns-in_default : goal.returns-in_default
returns-in_default c = λ d k m t v.
    let e = inner (goal.at.returns-in_default c).In_ok-inner-in-Some d k m t v in
    let is = c.in_default.is in
    cc

pub returns-in-Some : goal.returns-in-Some
returns-in-Some c = λ d k m t v.
    let is = c.in-Some-2.is in
    let some : Some c.in-Some-2.inner ≡ c.in_ok-inner-in-Some.field-0 = cc in
    ap (option_map member.Inner) some
    ∙ inner (goal.at.returns-in-Some c).In_ok-inner-in-Some d k m t v

pub returns-in_default-2 : goal.returns-in_default-2
returns-in_default-2 c = λ d k m t v.
    let e = item (goal.at.returns-in_default-2 c).In_ok-item-in-None d k m t v in
    let is = c.in_default-2.is in
    cc

pub returns-in-None : goal.returns-in-None
returns-in-None c = λ d k m t v.
    let is = c.in-Some-3.is in
    let some : Some c.in-Some-3.item ≡ c.in_ok-item-in-None.field-0 = cc in
    ap (option_map member.Item) some
    ∙ item (goal.at.returns-in-None c).In_ok-item-in-None d k m t v
