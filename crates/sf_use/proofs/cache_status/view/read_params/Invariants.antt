use Rattle.std.proofs.Common.{length}
use Rattle.sf_use.proofs.CacheStatusLemmas.Views.{ParamsSoFar}
use Rattle.sf_use.proofs.cache_status.view.read_params.Given as goal

abbrev pub invariant-loop-param : goal.invariant-loop-param
invariant-loop-param l = ParamsSoFar l.start l.cursor l.params

abbrev pub decreases-loop-param : goal.decreases-loop-param
decreases-loop-param l = length l.cursor.rest.now
