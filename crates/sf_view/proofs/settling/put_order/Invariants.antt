use Rattle.std.proofs.Common.{◌≤◌, length, take}
use Rattle.sf_value.specs.declared.dialect.Dialect.{Dialect}
use Rattle.sf_value.specs.declared.value.Member.{Member}
use Rattle.sf_value.specs.Grammar.Pairs.{Pairs}
use Rattle.sf_view.specs.View.{DescribesEntries}
use Rattle.sf_view.specs.Settling.{IsIndex}
use Rattle.sf_view.proofs.SettledNodes.{SettledSoFar, IsLater}
use Rattle.sf_view.proofs.settling.put_order.Given as goal

abbrev pub invariant-loop-key : goal.invariant-loop-key
invariant-loop-key l = record {
  within : l.count ≤ length l.order;
  later : IsLater l.nodes l.rest;
  index : IsIndex l.source l.nodes l.table (take l.count l.order);
  settled : (d : Dialect) (ps : Pairs Member) → DescribesEntries d l.source l.nodes ps
      → SettledSoFar d l.source l.nodes l.rest (take l.count l.order) ps;
}

abbrev pub decreases-loop-key : goal.decreases-loop-key
decreases-loop-key l = length l.rest
