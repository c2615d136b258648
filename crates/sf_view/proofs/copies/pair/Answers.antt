use Rattle.std.proofs.Common.{◌≡◌, ◌∙◌, sym, subst, ap₂, Some, None}
use Rattle.sf_value.specs.Grammar.Tokens.{IsKey}
use Rattle.sf_view.proofs.copies.pair.Goals as goal

pub returns-in_default : goal.returns-in_default
returns-in_default c = λ d r k x t valid. c.in_default.ensures.param d r k x t

pub returns-in_default-2 : goal.returns-in_default-2
returns-in_default-2 c = λ d r k x t valid.
    let is = c.in_default-2.is in
    let none : c.in_ok-value.field-0 ≡ None = cc in
    let stuck = rw none at (c.in_ok-value.ensures d x (c.in-Some.ensures.param d r k x t)) in
    stuck valid.1

pub returns-in_default-3 : goal.returns-in_default-3
returns-in_default-3 c = λ d r k x t valid.
    let is = c.in_default-3.is in
    let none : c.in_ok-key.field-0 ≡ None = cc in
    let stuck = rw none at c.in_ok-key.ensures in
    stuck (subst IsKey (sym (c.key.ensures.param d r k x t)) valid.0)

pub returns : goal.returns
returns c = λ d r k x t.
    let a = c.in-Some-2.is in
    let b = c.in-Some-3.is in
    let some : c.in_ok-value.field-0 ≡ Some c.in-Some-2.value = cc in
    let word : c.in_ok-key.field-0 ≡ Some c.in-Some-3.key = cc in
    let value = rw some at (c.in_ok-value.ensures d x (c.in-Some.ensures.param d r k x t)) in
    let key = rw word at c.in_ok-key.ensures in
    ap₂ (λ y z. (y, z)) (key ∙ c.key.ensures.param d r k x t) value
