use Rattle.std.proofs.Common.{◌≡◌, ◌∙◌, ap₂, Some, None}
use Rattle.sf_value.specs.declared.value.Bare.{Bare}
use Rattle.sf_value.specs.declared.value.Item.{Item}
use Rattle.sf_value.specs.Grammar.Pairs.{Pairs}
use Rattle.sf_value.proofs.Settling.{settle-distinct}
use Rattle.sf_view.specs.declared.node_types.Role.TheVariants as role_is
use Rattle.sf_view.proofs.view.View.to_item.Goals as goal

item_of : Bare → Pairs Bare → Item
item_of b ps = record { bare = b; params = ps }

pub returns-in_default-clause-copy : goal.returns-in_default-clause-copy
returns-in_default-clause-copy c = λ d r k i t distinct valid. c.in_default.ensures.item d r k i t

pub returns-in_default-2-clause-copy : goal.returns-in_default-2-clause-copy
returns-in_default-2-clause-copy c = λ d r k i t distinct valid.
    let is = c.in_default-2.is in
    let none : c.in_ok-bare.field-0 ≡ None = cc in
    let stuck = rw none at (c.in_ok-bare.ensures d i.bare (c.in-Some.ensures.item d r k i t)) in
    stuck valid.0

pub returns-in_default-3-clause-copy : goal.returns-in_default-3-clause-copy
returns-in_default-3-clause-copy c = λ d r k i t distinct valid.
    let is = c.in_default-3.is in
    let none : c.in_ok-params.field-0 ≡ None = cc in
    let stuck = rw none at (c.in_ok-params.ensures d role_is.Parameter i.params
    (rw c.params.ensures.text (c.params.ensures.item d r k i t))) in
    stuck valid.1.0

pub returns-clause-copy : goal.returns-clause-copy
unfolding item_of
returns-clause-copy c = λ d r k i t distinct.
    let a = c.in-Some-2.is in
    let b = c.in-Some-3.is in
    let one : c.in_ok-bare.field-0 ≡ Some c.in-Some-2.bare = cc in
    let two : c.in_ok-params.field-0 ≡ Some c.in-Some-3.params = cc in
    let bare = rw one at (c.in_ok-bare.ensures d i.bare (c.in-Some.ensures.item d r k i t)) in
    let params = rw two at (c.in_ok-params.ensures d role_is.Parameter i.params
    (rw c.params.ensures.text (c.params.ensures.item d r k i t))) in
    ap₂ item_of bare (params ∙ settle-distinct i.params distinct)

pub returns-clause-inner : goal.returns-clause-inner
returns-clause-inner c = λ d k l t.
    let none = c.in-Some.ensures.inner d k l t in
    absurd cc
