use Rattle.std.proofs.Common.{sym, subst}
use Rattle.sf_view.specs.declared.node_types.Role.TheVariants as role_is
use Rattle.sf_view.specs.View.{DescribesParams}
use Rattle.sf_view.proofs.Splitting.{inner_is, no_inner}
use Rattle.sf_view.proofs.view.View.params.Goals as goal
use Rattle.sf_view.proofs.view.View.params.Goals.{in-Some, in-None}

pub returns-clause-inner : goal.returns-clause-inner
returns-clause-inner c = λ d k l t.
    let s = c.args.self.now.text.now in
    let ns = c.args.self.now.nodes.now in
    elim c.match-inner_parts.branch [
      | in-Some w ↦
          subst (λ y. DescribesParams d s role_is.InnerParameter y.now l.params) (sym w.nodes-is)
          (inner_is d s k ns l w.in-Some.field-0-0.now w.in-Some.params.now w.in-Some.ensures.some t).behind
      | in-None w ↦ absurd (no_inner d s k ns l w.in-None.ensures.none t)
    ]
