use Rattle.std.proofs.Common.{sym, subst}
use Rattle.sf_write.proofs.CanonSteps.{flag_is}
use Rattle.sf_write.proofs.Following.{then}
use Rattle.sf_view.specs.declared.node_types.Role.TheVariants as role_is
use Rattle.sf_view.specs.View.{DescribesParams}
use Rattle.sf_view.proofs.writing.put_item_after.Goals as goal

pub returns-in_default : goal.returns-in_default
returns-in_default g c = λ d r k i t. absurd (c.in_default.ensures.item d r k i t)

pub returns : goal.returns
returns g c = λ d r k i t.
    rw (flag_is i.bare i.params)
    (then (c.put_value-sent.ensures d i.bare (c.in-Some.ensures.item d r k i t))
    (c.put_params.ensures d role_is.Parameter i.params
    (subst (λ y. DescribesParams d y role_is.Parameter c.params.result.nodes.now i.params)
    (sym c.params.ensures.text) (c.params.ensures.item d r k i t))))
