use Rattle.std.proofs.Common.{drop, take, None}
use Rattle.std.specs.Prelude.{All}
use Rattle.sf_use.specs.TargetedChoice.{IsChosenFromIn, IsOfferIn}
use Rattle.sf_use.specs.declared.targeted.Choice.{Choice}
use Rattle.sf_use.proofs.targeted.select_in.Given as goal

abbrev pub invariant-loop-index : goal.invariant-loop-index
invariant-loop-index l = record {
  later : (choice : Choice)
      → IsChosenFromIn l.dialect l.index (drop l.index l.targets) l.headers choice
      → IsChosenFromIn l.dialect 0 l.targets l.headers choice;
  passed : All (λ n. IsOfferIn l.dialect l.headers n None) (take l.index l.targets);
}
