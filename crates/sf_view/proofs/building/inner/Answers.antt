use Rattle.std.proofs.Common.{subst, sym, Err}
use Rattle.sf_view.specs.Building.{IsInside, IsInner, Reads}
use Rattle.sf_view.proofs.BuildingLaws.{inner_wrong}
use Rattle.sf_view.proofs.building.inner.Goals as goal

pub returns-in-Err : goal.returns-in-Err
returns-in-Err c =
    let d = c.args.source.dialect in
    let s = c.args.source.text.now in
    let nodes = c.args.nodes.now in
    let fault = c.in-Err.fault in
    let w = subst (λ y. Reads (IsInside d s) y (Err fault)) c.after_first.ensures c.in-Err.ensures in
    subst (λ y. Reads (IsInner d s) nodes (Err y)) (sym c.after.ensures)
    (inner_wrong d s nodes fault c.in-Some.ensures.some.1 w)
