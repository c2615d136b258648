use Rattle.std.proofs.Common.{◌≡◌, ◌+◌, ◌-◌, ◌≤◌, drop, length}
use Rattle.std.specs.List.{prefix_len}
use Rattle.sf_value.specs.Grammar.Classes.{is_ows}
use Rattle.sf_use.proofs.cache_control.after_ows.Given as goal

abbrev pub invariant-loop-start : goal.invariant-loop-start
invariant-loop-start l =
    (l.start ≤ length l.text)
    × (prefix_len is_ows l.text ≡ l.start + prefix_len is_ows (drop l.start l.text))

abbrev pub decreases-loop-start : goal.decreases-loop-start
decreases-loop-start l = length l.text - l.start
