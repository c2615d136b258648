use Rattle.std.proofs.Common.{subst, sym, Err}
use Rattle.sf_view.specs.declared.node_types.Role.TheVariants as role_is
use Rattle.sf_view.specs.Building.{AreParams, IsItem, Reads}
use Rattle.sf_view.proofs.BuildingLaws.{item_wrong}
use Rattle.sf_view.proofs.building.item.Goals as goal

pub returns-in-Err : goal.returns-in-Err
returns-in-Err c =
    let d = c.args.source.dialect in
    let s = c.args.source.text.now in
    let nodes = c.args.nodes.now in
    let fault = c.in-Err.fault in
    let w = subst (λ y. Reads (AreParams d s role_is.Parameter) y (Err fault))
    c.after_first.ensures c.in-Err.ensures in
    subst (λ y. Reads (IsItem d s c.args.role) nodes (Err y)) (sym c.after.ensures)
    (item_wrong d s c.args.role nodes fault c.in-Some.ensures.some.1 w)
