use Rattle.std.proofs.Common.{◌≡◌, sym, ap, subst, ◌∙◌, take_all}
use Rattle.sf_use.specs.CacheStatus.Served.{IsLastHit, served}
use Rattle.sf_use.proofs.CacheStatusLemmas.LastHits.{one_more_hit, one_more_miss, served_is_last}
use Rattle.sf_use.proofs.cache_status.path.CachePath.served_by.Goals.{then-is_hit, else-is_hit}
use Rattle.sf_use.proofs.cache_status.path.CachePath.served_by.Goals as goal

pub loop-index-preserved : goal.loop-index-preserved
loop-index-preserved c =
    elim c.if-is_hit.branch [
      | then-is_hit w ↦
          w.last-is
          ∙ one_more_hit c.deref-hop-items.result.now c.loop-index.index c.hop-item.result
          c.loop-index-test.true c.hop-item.is (sym c.is_hit.ensures ∙ w.if-is_hit.true)
      | else-is_hit w ↦
          w.last-is ∙ c.loop-index.invariant
          ∙ one_more_miss c.deref-hop-items.result.now c.loop-index.index c.hop-item.result
          c.loop-index-test.true c.hop-item.is (sym c.is_hit.ensures ∙ w.if-is_hit.false)
    ]

pub returns-clause-place : goal.returns-clause-place
returns-clause-place c =
    c.loop-index.invariant
    ∙ ap served
    (take_all c.loop-index.index c.deref-hop-items.result.now c.loop-index-test.false
    ∙ c.deref-hop-items.ensures.value ∙ c.self.view_is)

pub returns-clause-last : goal.returns-clause-last
returns-clause-last c =
    let place : c.loop-index.last ≡ served c.args.self.now = returns-clause-place c in
    subst (IsLastHit c.args.self.now) (sym place) (served_is_last c.args.self.now)
