use Rattle.sf_view.proofs.CountedParts.{params_none}
use Rattle.sf_view.proofs.counting.count_params.Goals as goal

pub returns-then-is_none : goal.returns-then-is_none
returns-then-is_none c = params_none _ _
