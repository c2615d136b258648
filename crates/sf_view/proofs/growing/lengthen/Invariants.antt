use Rattle.std.proofs.Common.{◌≡◌, ◌≤◌, length, take}
use Rattle.sf_view.proofs.growing.lengthen.Given as goal

abbrev pub invariant-loop : goal.invariant-loop
invariant-loop l = record {
  longer : length l.fn.nodes.items ≤ length l.nodes.items;
  kept : take (length l.fn.nodes.items) l.nodes.items ≡ l.fn.nodes.items;
}
