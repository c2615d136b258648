use Rattle.std.proofs.Common.{refl}
use Rattle.std.proofs.lemmas.Result.{err_from_is_err_and}
use Rattle.sf_scan.proofs.Following.{bare_apart}
use Rattle.sf_scan.proofs.InnerLists.{inner_read, inner_refused, inner_failed}
use Rattle.sf_scan.proofs.Starts.{bare_begun}
use Rattle.sf_scan.proofs.inner.inner_list.Goals as goal

pub returns-in_err-after : goal.returns-in_err-after
returns-in_err-after g c =
    let d = c.args.dialect in
    let p = err_from_is_err_and c.from_residual.result c.from_residual.ensures.1 in
    rw (p.1, p.2) (inner_failed d (bare_apart d) (bare_begun d) g.M.Builder.bare
    g.M.Maker.with g.M.Builder.closed _ c.begin_inner.new.self g.M.Builder.opened c.args.maker.now
    c.items.new.maker _ c.in_err-after.ensures)

pub returns-in-Ok : goal.returns-in-Ok
returns-in-Ok g c =
    let d = c.args.dialect in
    inner_read d (bare_apart d) (bare_begun d) g.M.Builder.bare g.M.Maker.with
    g.M.Builder.closed _ _ g.M.Builder.opened _ _ _ _ _ _ _ c.in_default.ensures
    c.in_ok-after.ensures c.in_default-end_inner.ensures c.in-Ok.ensures refl refl

pub returns-in-Err-Refused : goal.returns-in-Err-Refused
returns-in-Err-Refused g c =
    let d = c.args.dialect in
    inner_refused d (bare_apart d) (bare_begun d) g.M.Builder.bare g.M.Maker.with
    g.M.Builder.closed _ _ _ _ _ _ _ _ c.in_ok-after.ensures (rw c.in-Err-Refused.field-0-is at c.in-Err-Refused.ensures) refl refl
