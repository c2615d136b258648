use Rattle.std.proofs.Common.{sym, subst}
use Rattle.sf_c.specs.Paths.{IsShort}
use Rattle.sf_c.proofs.HopBound.{content_few}
use Rattle.sf_c.proofs.cache_status.path_by_tree.Goals.{After-set}
use Rattle.sf_c.proofs.cache_status.path_by_tree.Goals as goal

few : (c : After-set) → IsShort c.args.text.now c.set.new.self
few c =
    subst (λ p. IsShort c.args.text.now p) (sym c.set.ensures)
    (content_few c.args.dialect c.count.result c.size.result c.args.text.now c.in-Ok.field _ _
    c.in-Ok-caches_in.caches c.count.ensures c.size.ensures c.in-Ok-flatten_hops.ensures
    c.hops.ensures c.hops_are_few.ensures.hops c.hops_are_few.ensures.bytes
    c.in-Ok.ensures.0.spelled c.in-Ok-caches_in.ensures.0)

pub returns-then-hops-path-clause-few : goal.returns-then-hops-path-clause-few
returns-then-hops-path-clause-few c =
    few (goal.at.returns-then-hops-path-clause-few c).After-set

pub returns-then-bytes-path-clause-few : goal.returns-then-bytes-path-clause-few
returns-then-bytes-path-clause-few c =
    few (goal.at.returns-then-bytes-path-clause-few c).After-set

pub returns-clause-few : goal.returns-clause-few
returns-clause-few c = few (goal.at.returns-clause-few c).After-set
