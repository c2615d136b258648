use Rattle.sf_value.specs.Grammar.Pairs.{settle}
use Rattle.sf_view.proofs.settling.settle.Goals as goal

pub returns-clause-settled : goal.returns-clause-settled
returns-clause-settled c = λ d ps t.
    c.in_ok-count.ensures.described d c.args.source.now (settle ps)
    (c.in_ok-members.ensures.settled d ps t)
