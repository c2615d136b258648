use Rattle.std.proofs.Common.{◌≡◌, ◌+◌, ◌≤◌, [], get_or, length}
use Rattle.sf_tool.specs.Lines.{lines_of}
use Rattle.sf_tool.proofs.explaining.bad_spot.Given as goal

abbrev pub invariant-loop-first : goal.invariant-loop-first
invariant-loop-first l = record {
  same : get_or (lines_of l.fn.input) l.fn.number [] ≡ get_or (lines_of l.left) l.before [];
  number : l.line + l.before ≡ l.fn.number + 1;
  counted : l.line + length l.left ≤ length l.fn.input + 1;
}

abbrev pub decreases-loop-first : goal.decreases-loop-first
decreases-loop-first l = length l.left
