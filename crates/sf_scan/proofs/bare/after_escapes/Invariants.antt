use Rattle.std.proofs.Common.{length}
use Rattle.sf_value.specs.Grammar.Strings.{is_unescaped}
use Rattle.sf_scan.specs.Scans.{PastEscaped}
use Rattle.sf_value.specs.Runs.{Lacks}
use Rattle.sf_scan.proofs.bare.after_escapes.Given as goal

abbrev pub invariant-loop-escape : goal.invariant-loop-escape
invariant-loop-escape l =
    record { past : PastEscaped l.text l.rest; no_byte : Lacks is_unescaped l.rest }

abbrev pub decreases-loop-escape : goal.decreases-loop-escape
decreases-loop-escape l = length l.rest
