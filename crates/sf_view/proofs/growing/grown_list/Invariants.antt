use Rattle.sf_view.specs.Accepts.{IsListed}
use Rattle.sf_view.proofs.growing.grown_list.Given as goal

abbrev pub invariant-loop : goal.invariant-loop
invariant-loop l = IsListed l.dialect l.text l.from.rest.now l.nodes.items l.from.count
