use Rattle.std.proofs.Common.{◌≡◌, ◌+◌, ◌≤◌, take, length}
use Rattle.std.specs.List.{suffix_len}
use Rattle.sf_value.specs.Grammar.Classes.{is_ows}
use Rattle.sf_tool.proofs.cutting.without_trail.Given as goal

abbrev pub invariant-loop-end : goal.invariant-loop-end
invariant-loop-end l =
    (l.end ≤ length l.bytes)
    × (l.end + suffix_len is_ows l.bytes
    ≡ length l.bytes + suffix_len is_ows (take l.end l.bytes))

abbrev pub decreases-loop-end : goal.decreases-loop-end
decreases-loop-end l = l.end
