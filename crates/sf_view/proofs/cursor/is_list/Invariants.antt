use Rattle.std.proofs.Common.{option_copied}
use Rattle.sf_value.specs.Grammar.InnerLists.{SpellsMember}
use Rattle.sf_view.specs.Cursors.{left_in}
use Rattle.sf_view.proofs.Cursors.{DoneSoFar}
use Rattle.sf_view.proofs.cursor.is_list.Given as goal

abbrev pub invariant-loop-start : goal.invariant-loop-start
invariant-loop-start l = DoneSoFar (SpellsMember l.dialect) l.text (option_copied l.start)

abbrev pub decreases-loop-start : goal.decreases-loop-start
decreases-loop-start l = left_in (option_copied l.start)
