use Rattle.std.proofs.Common.{option_copied}
use Rattle.sf_view.specs.Cursors.{left_in}
use Rattle.sf_use.proofs.RulesScanning.{with_first_rule, rules_of_members}
use Rattle.sf_use.proofs.Scanning.{ReadSoFar}
use Rattle.sf_use.proofs.caching.CacheRules.scan_in.Given as goal

abbrev pub invariant-loop-member : goal.invariant-loop-member
invariant-loop-member l =
    ReadSoFar l.fn.dialect with_first_rule rules_of_members l.text l.cursor l.rules

abbrev pub decreases-loop-member : goal.decreases-loop-member
decreases-loop-member l = left_in (option_copied l.cursor.rest)
