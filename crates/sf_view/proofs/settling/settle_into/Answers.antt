use Rattle.std.proofs.Common.{◌∙◌, sym, subst}
use Rattle.sf_value.specs.Grammar.Pairs.{settle}
use Rattle.sf_view.specs.View.{DescribesEntries}
use Rattle.sf_view.proofs.settling.settle_into.Goals as goal

pub returns-clause-settled : goal.returns-clause-settled
returns-clause-settled c = λ d ps t.
    subst (λ y. DescribesEntries d c.args.source.now y (settle ps))
    (sym (c.in_ok-stay.ensures.puts.there ∙ c.as_slice.ensures.value))
    (c.in_ok-settled.ensures d ps
    (subst (λ y. DescribesEntries d c.args.source.now y ps) (sym c.split_at.ensures.front) t))
