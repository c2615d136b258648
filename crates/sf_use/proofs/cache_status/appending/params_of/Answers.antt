use Rattle.std.proofs.Common.{ap, ◌∙◌}
use Rattle.std.specs.Prelude.{codes}
use Rattle.sf_use.specs.CacheStatus.Members.{added}
use Rattle.sf_use.proofs.CacheStatusLemmas.Written.{all_put}
use Rattle.sf_use.proofs.cache_status.appending.params_of.Goals as goal

pub returns : goal.returns
returns c =
    all_put c.new-params.result c.put.new.params c.put-2.new.params c.put-3.new.params
    c.put-4.new.params c.put-5.new.params c.put-6.new.params c.put-7.new.params
    c.put-8.new.params _ _ _ _ _ _ _ _
    c.new-params.ensures
    (c.in_ok-put.ensures ∙ ap (added _ (codes "hit")) c.hit_value.ensures)
    (c.in_ok-put-2.ensures ∙ ap (added _ (codes "fwd")) c.in_ok-why.ensures)
    (c.in_ok-put-3.ensures ∙ ap (added _ (codes "fwd-status")) c.status_value.ensures)
    (c.in_ok-put-4.ensures ∙ ap (added _ (codes "ttl")) c.ttl_value.ensures)
    (c.in_ok-put-5.ensures ∙ ap (added _ (codes "stored")) c.stored_value.ensures)
    (c.in_ok-put-6.ensures ∙ ap (added _ (codes "collapsed")) c.collapsed_value.ensures)
    (c.in_ok-put-7.ensures ∙ ap (added _ (codes "key")) c.in_ok-key.ensures)
    (c.in_ok-put-8.ensures ∙ ap (added _ (codes "detail")) c.in_ok-detail.ensures)
