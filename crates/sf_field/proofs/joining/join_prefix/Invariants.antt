use Rattle.std.proofs.Common.{◌≡◌, ◌≤◌, ◌∷◌, length, take}
use Rattle.sf_value.specs.Grammar.Lines.{join}
use Rattle.sf_field.proofs.joining.join_prefix.Given as goal

-- with the lines that are left, the lines so far have the joined text of all
abbrev pub invariant-loop : goal.invariant-loop
invariant-loop g l = record {
  within : l.length ≤ length l.buffer;
  joins : join (take l.length l.buffer ∷ l.next ∷ g.L.FieldLines.lines l.others)
      ≡ join (l.fn.first ∷ l.fn.second ∷ g.L.FieldLines.lines l.fn.others);
}
