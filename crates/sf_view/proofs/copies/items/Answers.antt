use Rattle.std.proofs.Common.{◌≡◌, [], ◌∙◌, sym, subst, Some, None}
use Rattle.sf_value.specs.Grammar.Pairs.{HasDistinctKeys}
use Rattle.sf_value.specs.Grammar.Valid.{ValidItem}
use Rattle.sf_value.specs.Grammar.Words.{Each}
use Rattle.sf_view.specs.declared.node_types.Role.TheVariants as role_is
use Rattle.sf_view.specs.View.{DescribesItem, DescribesItems}
use Rattle.sf_view.proofs.Copying.{PartsLeft, parts_more, parts_stuck}
use Rattle.sf_view.proofs.copies.items.Goals as goal

pub returns-in_default-2 : goal.returns-in_default-2
returns-in_default-2 c = λ d is t distinct all.
    let h = c.in-Some.ensures in
    let s = c.loop-part.rest.text.now in
    let prefix = c.in-Some.part.nodes.now in
    let it = c.in_default-2.is in
    let none : c.in_ok-item.field-0 ≡ None = cc in
    parts_stuck (DescribesItem d s role_is.InnerItem []) (DescribesItems d s)
    (λ i. HasDistinctKeys i.params × (Each (ValidItem d) is → ValidItem d i))
    c.loop-part.rest.nodes.now prefix c.in-Some.others.nodes.now c.loop-part.all is
    (c.loop-part.invariant.left d is t distinct) (λ xs u. h.items d xs u)
    (λ x u e.
    let stuck = rw none at (c.in_ok-item.ensures.copy d role_is.InnerItem [] x
    (rw h.text.0 u) e.0) in
    stuck (e.1 all))

pub loop-part-preserved : goal.loop-part-preserved
loop-part-preserved c =
    let h = c.in-Some.ensures in
    let s = c.loop-part.rest.text.now in
    let prefix = c.in-Some.part.nodes.now in
    let later = c.in-Some.others.nodes.now in
    let more = c.push.new.self in
    let it = c.in-Some-2.is in
    let some : c.in_ok-item.field-0 ≡ Some c.in-Some-2.item = cc in
    record {
      text = h.text.1 ∙ c.loop-part.invariant.text;
      left = λ d is t distinct.
          subst
          (λ y.
          PartsLeft (DescribesItems d y)
          (λ i. HasDistinctKeys i.params × (Each (ValidItem d) is → ValidItem d i)) later more is)
          (sym h.text.1)
          (parts_more (DescribesItem d s role_is.InnerItem []) (DescribesItems d s)
          (λ i. HasDistinctKeys i.params × (Each (ValidItem d) is → ValidItem d i))
          c.loop-part.rest.nodes.now prefix later c.loop-part.all more is c.in-Some-2.item
          (c.loop-part.invariant.left d is t distinct) (λ xs u. h.items d xs u)
          (λ x u e.
          rw some at (c.in_ok-item.ensures.copy d role_is.InnerItem [] x (rw h.text.0 u) e.0))
          c.in-Ok.ensures.added);
    }
