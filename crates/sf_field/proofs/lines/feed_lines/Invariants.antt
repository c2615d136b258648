use Rattle.std.proofs.Common.{◌∷◌, length}
use Rattle.sf_value.specs.Grammar.Lines.{join}
use Rattle.sf_parse.specs.AllocationFreeParsers.{IsAllocationFree}
use Rattle.sf_field.proofs.Feeding.{FedSoFar, behind}
use Rattle.sf_field.proofs.lines.feed_lines.Given as goal

abbrev pub invariant-loop-line : goal.invariant-loop-line
invariant-loop-line g l = record {
  -- what is left of the joined text is that of the lines that are left
  so_far : FedSoFar l.fn.parser l.parser
      (join (l.fn.first ∷ l.fn.second ∷ g.L.FieldLines.lines l.fn.others))
      (behind l.parser.after_line (g.L.FieldLines.lines l.others));
  allocation_free : IsAllocationFree l.fn.parser
      (join (l.fn.first ∷ l.fn.second ∷ g.L.FieldLines.lines l.fn.others))
      → IsAllocationFree l.parser (behind l.parser.after_line (g.L.FieldLines.lines l.others));
}

abbrev pub decreases-loop-line : goal.decreases-loop-line
decreases-loop-line g l = length (g.L.FieldLines.lines l.others)
