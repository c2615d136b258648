use Rattle.std.proofs.Common.{length}
use Rattle.sf_value.specs.Grammar.Lines.{join}
use Rattle.sf_parse.specs.AllocationFreeParsers.{IsAllocationFree}
use Rattle.sf_field.proofs.Feeding.{FedSoFar, behind}
use Rattle.sf_field.proofs.lines.feed_in_turn.Given as goal

abbrev pub invariant-loop-line : goal.invariant-loop-line
invariant-loop-line g l = record {
  -- what is left of the joined text is that of the lines that are left
  so_far : FedSoFar l.fn.parser l.parser (join (g.L.FieldLines.lines l.initial.lines))
      (behind l.parser.after_line (g.L.FieldLines.lines l.lines));
  allocation_free : IsAllocationFree l.fn.parser (join (g.L.FieldLines.lines l.initial.lines))
      → IsAllocationFree l.parser (behind l.parser.after_line (g.L.FieldLines.lines l.lines));
}

abbrev pub decreases-loop-line : goal.decreases-loop-line
decreases-loop-line g l = length (g.L.FieldLines.lines l.lines)
