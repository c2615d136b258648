use Rattle.sf_view.proofs.Splitting.{inner_is}
use Rattle.sf_view.proofs.view.View.items.Goals as goal

pub returns-clause-inner : goal.returns-clause-inner
returns-clause-inner c = λ d k l t.
    let r = c.in_ok-items in
    (inner_is d c.args.self.now.text.now k c.args.self.now.nodes.now l r.items.now r.field-0-1.now
    r.ensures.some t).inside
