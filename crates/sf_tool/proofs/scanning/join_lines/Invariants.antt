use Rattle.std.proofs.Common.{◌≡◌, ◌++◌, length}
use Rattle.sf_field.proofs.Feeding.{behind}
use Rattle.sf_tool.specs.Lines.{lines_of}
use Rattle.sf_tool.specs.Run.{joined}
use Rattle.sf_tool.proofs.scanning.join_lines.Given as goal

-- with the lines that are left, the text so far is the joined text
abbrev pub invariant-loop-line : goal.invariant-loop-line
invariant-loop-line l = l.text.items ++ behind l.after_line (lines_of l.rest) ≡ joined l.input

abbrev pub decreases-loop-line : goal.decreases-loop-line
decreases-loop-line l = length l.rest
