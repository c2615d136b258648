use Rattle.std.proofs.Common.{arith}
use Rattle.std.proofs.lemmas.Result.{err_from_is_err_and}
use Rattle.sf_nodes.proofs.NodeSteps.{length_next}
use Rattle.sf_nodes.proofs.flattening.count_items.Goals as goal

pub loop-item-preserved : goal.loop-item-preserved
loop-item-preserved c =
    let next = length_next _ _ _ c.loop-item-test.true c.item-item.is in
    let size = c.in_ok-own.ensures in
    let count = c.in_ok-count.ensures in
    let params = c.len.ensures.len in
    omega arith

pub returns-in_err-own : goal.returns-in_err-own
returns-in_err-own c =
    let p = err_from_is_err_and c.from_residual.result c.from_residual.ensures.1 in
    let next = length_next _ _ _ c.loop-item-test.true c.item-item.is in
    let size = c.in_err-own.ensures in
    let params = c.len.ensures.len in
    rw p.1 (omega arith)

pub returns-in_err-count : goal.returns-in_err-count
returns-in_err-count c =
    let p = err_from_is_err_and c.from_residual-in_err-count.result
    c.from_residual-in_err-count.ensures.1 in
    let next = length_next _ _ _ c.loop-item-test.true c.item-item.is in
    let size = c.in_ok-own.ensures in
    let count = c.in_err-count.ensures in
    let params = c.len.ensures.len in
    rw p.1 (omega arith)
