use Rattle.std.proofs.Common.{◌≡◌, ◌∙◌, List, ap₂, Some, None}
use Rattle.sf_value.specs.declared.value.Bare.{Bare}
use Rattle.sf_value.specs.declared.value.Inner.{Inner}
use Rattle.sf_value.specs.declared.value.Item.{Item}
use Rattle.sf_value.specs.Grammar.Pairs.{Pairs}
use Rattle.sf_value.proofs.Settling.{settle-distinct}
use Rattle.sf_view.specs.declared.node_types.Role.TheVariants as role_is
use Rattle.sf_view.proofs.view.View.to_inner.Goals as goal

inner_of : List Item → Pairs Bare → Inner
inner_of is ps = record { items = is; params = ps }

pub returns-in_default-clause-copy : goal.returns-in_default-clause-copy
returns-in_default-clause-copy c = λ d k l t each distinct valid.
    c.in_default.ensures.inner d k l t

pub returns-in_default-2-clause-copy : goal.returns-in_default-2-clause-copy
returns-in_default-2-clause-copy c = λ d k l t each distinct valid.
    let is = c.in_default-2.is in
    let none : c.in_ok-items.field-0 ≡ None = cc in
    let stuck = rw none at (c.in_ok-items.ensures d l.items
    (rw c.in-Some.ensures.text (c.in-Some.ensures.inner d k l t)) each) in
    stuck valid.0

pub returns-in_default-3-clause-copy : goal.returns-in_default-3-clause-copy
returns-in_default-3-clause-copy c = λ d k l t each distinct valid.
    let is = c.in_default-3.is in
    let none : c.in_ok-params.field-0 ≡ None = cc in
    let stuck = rw none at (c.in_ok-params.ensures d role_is.InnerParameter l.params
    (rw c.params.ensures.text (c.params.ensures.inner d k l t))) in
    stuck valid.1.0

pub returns-clause-copy : goal.returns-clause-copy
unfolding inner_of
returns-clause-copy c = λ d k l t each distinct.
    let a = c.in-Some-2.is in
    let b = c.in-Some-3.is in
    let one : c.in_ok-items.field-0 ≡ Some c.in-Some-2.items = cc in
    let two : c.in_ok-params.field-0 ≡ Some c.in-Some-3.params = cc in
    let items = rw one at (c.in_ok-items.ensures d l.items
    (rw c.in-Some.ensures.text (c.in-Some.ensures.inner d k l t)) each) in
    let params = rw two at (c.in_ok-params.ensures d role_is.InnerParameter l.params
    (rw c.params.ensures.text (c.params.ensures.inner d k l t))) in
    ap₂ inner_of items (params ∙ settle-distinct l.params distinct)

pub returns-clause-item : goal.returns-clause-item
returns-clause-item c = λ d r k i t.
    let none = c.in-Some.ensures.item d r k i t in
    absurd cc
