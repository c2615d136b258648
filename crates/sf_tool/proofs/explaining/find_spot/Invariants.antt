use Rattle.std.proofs.Common.{◌≡◌, ◌+◌, ◌≤◌, length}
use Rattle.sf_parse.specs.Spots.{place_in}
use Rattle.sf_tool.specs.Lines.{lines_of}
use Rattle.sf_tool.proofs.explaining.find_spot.Given as goal

abbrev pub invariant-loop-first : goal.invariant-loop-first
invariant-loop-first l = record {
  same : place_in 1 (lines_of l.fn.input) l.fn.place ≡ place_in l.line (lines_of l.left) l.rest;
  counted : l.line + length l.left ≤ length l.fn.input + 1;
}

abbrev pub decreases-loop-first : goal.decreases-loop-first
decreases-loop-first l = length l.left
