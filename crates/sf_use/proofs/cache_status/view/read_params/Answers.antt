use Rattle.std.proofs.Common.{◌≡◌, None, refl, subst}
use Rattle.sf_view.specs.ItemCursors.{ReadsNextParam}
use Rattle.sf_use.proofs.CacheStatusLemmas.Views.{params_none, params_step, params_end}
use Rattle.sf_use.proofs.cache_status.view.read_params.Goals as goal

pub loop-param-init : goal.loop-param-init
loop-param-init c =
    params_none _ _ (record {
      hit = refl;
      fwd = refl;
      fwd_status = refl;
      ttl = refl;
      stored = refl;
      collapsed = refl;
      key = tt;
      detail = tt;
    })

pub loop-param-preserved : goal.loop-param-preserved
loop-param-preserved c =
    params_step _ _ _ _ _ c.in-Some.param c.loop-param.invariant c.in_ok-param.ensures.dialect
    (subst (ReadsNextParam c.loop-param.cursor c.next.new.self) c.in-Some.is
    c.in_ok-param.ensures.next)
    c.set.ensures c.in_ok-param.ensures.kept

pub returns-clause-reads : goal.returns-clause-reads
returns-clause-reads c =
    let is = c.in_default.is in
    let none : c.in_ok-param.field-0 ≡ None = cc in
    params_end _ _ _ _ _ _ c.loop-param.invariant c.in_ok-param.ensures.next none
    c.in_ok-end.ensures.dialect c.in_ok-end.ensures.remains
