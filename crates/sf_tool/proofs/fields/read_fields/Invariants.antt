use Rattle.std.proofs.Common.{◌+◌, ◌≤◌, length}
use Rattle.sf_tool.specs.Lines.{lines_of}
use Rattle.sf_tool.proofs.MapCapacity.{IsListedMap}
use Rattle.sf_tool.proofs.LineByLine.{ReadsOn}
use Rattle.sf_tool.proofs.fields.read_fields.Given as goal

abbrev pub invariant-loop-line : goal.invariant-loop-line
invariant-loop-line l = record {
  number_fits : l.number + length l.rest ≤ length l.input;
  listed : IsListedMap l.targets l.headers l.number;
  reads : ReadsOn l.targets (lines_of l.input) (lines_of l.rest) l.number l.headers;
}

abbrev pub decreases-loop-line : goal.decreases-loop-line
decreases-loop-line l = length l.rest
