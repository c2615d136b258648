use Rattle.std.proofs.Common.{◌≡◌, ◌++◌, drop}
use Rattle.sf_value.specs.Grammar.Lines.{join}
use Rattle.sf_field.proofs.Feeding.{behind}
use Rattle.sf_field.proofs.lines.joined.Given as goal

-- with the lines that are left, the text so far is the joined text
abbrev pub invariant-loop-line : goal.invariant-loop-line
invariant-loop-line l =
    l.text.items ++ behind l.after_line (drop l.line-index l.lines) ≡ join l.fn.lines
