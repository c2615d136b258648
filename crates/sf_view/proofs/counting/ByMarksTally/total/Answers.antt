use Rattle.sf_view.proofs.CountedParts.{sum_distinct}
use Rattle.sf_view.proofs.counting.ByMarksTally.total.Goals as goal

pub returns : goal.returns
returns c = λ ps s. sum_distinct _ ps s.0 (s.1.1 s.1.0).0
