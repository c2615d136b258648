use Rattle.std.proofs.Common.{option_copied}
use Rattle.sf_value.specs.Grammar.Fields.{SpellsEntry}
use Rattle.sf_view.specs.Cursors.{left_in}
use Rattle.sf_view.proofs.Cursors.{DoneSoFar}
use Rattle.sf_view.proofs.cursor.is_dict.Given as goal

abbrev pub invariant-loop-start : goal.invariant-loop-start
invariant-loop-start l = DoneSoFar (SpellsEntry l.dialect) l.text (option_copied l.start)

abbrev pub decreases-loop-start : goal.decreases-loop-start
decreases-loop-start l = left_in (option_copied l.start)
