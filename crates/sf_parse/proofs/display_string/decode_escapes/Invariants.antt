use Rattle.std.proofs.Common.{◌≡◌, ◌++◌, length}
use Rattle.sf_scan.specs.DisplayStrings.{shown_bytes}
use Rattle.sf_parse.proofs.display_string.decode_escapes.Given as goal

abbrev pub invariant-loop-bytes : goal.invariant-loop-bytes
invariant-loop-bytes l = l.bytes ++ shown_bytes l.rest ≡ shown_bytes l.text

abbrev pub decreases-loop-bytes : goal.decreases-loop-bytes
decreases-loop-bytes l = length l.rest
