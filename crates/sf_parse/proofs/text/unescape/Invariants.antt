use Rattle.std.proofs.Common.{◌≡◌, ◌++◌, length}
use Rattle.sf_scan.specs.Leaves.{unescaped}
use Rattle.sf_parse.proofs.text.unescape.Given as goal

abbrev pub invariant-loop-bytes : goal.invariant-loop-bytes
invariant-loop-bytes l = l.bytes ++ unescaped l.rest ≡ unescaped l.text

abbrev pub decreases-loop-bytes : goal.decreases-loop-bytes
decreases-loop-bytes l = length l.rest
