use Rattle.std.proofs.Common.{take, None}
use Rattle.std.specs.Prelude.{All}
use Rattle.sf_use.specs.TargetedChoice.{IsOfferIn}
use Rattle.sf_use.proofs.targeted_rules.select_rules_in.Given as goal

abbrev pub invariant-loop-index : goal.invariant-loop-index
invariant-loop-index l =
    All (λ n. IsOfferIn l.dialect l.headers n None) (take l.index l.targets)
