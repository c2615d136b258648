use Rattle.std.proofs.Common.{length, take, ◌-◌, ◌≤◌}
use Rattle.sf_value.specs.Grammar.Words.{Each}
use Rattle.sf_view.specs.Finding.{IsInside}
use Rattle.sf_view.proofs.parts.items_end.Given as goal

abbrev pub invariant-loop-end : goal.invariant-loop-end
invariant-loop-end l = record {
  within : l.end ≤ length l.nodes;
  before : Each IsInside (take l.end l.nodes);
}

abbrev pub decreases-loop-end : goal.decreases-loop-end
decreases-loop-end l = length l.nodes - l.end
