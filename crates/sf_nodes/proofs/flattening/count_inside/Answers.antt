use Rattle.std.proofs.Common.{arith}
use Rattle.std.proofs.lemmas.Result.{err_from_is_err_and}
use Rattle.sf_nodes.proofs.NodeSteps.{length_inside}
use Rattle.sf_nodes.proofs.flattening.count_inside.Goals as goal

pub returns : goal.returns
returns c =
    let whole = length_inside c.args.inner.now in
    let count = rw c.as_slice.ensures at c.in_ok-count.ensures in
    let params = c.len.ensures.len in
    omega arith

pub returns-in_err-count : goal.returns-in_err-count
returns-in_err-count c =
    let p = err_from_is_err_and c.from_residual.result c.from_residual.ensures.1 in
    let whole = length_inside c.args.inner.now in
    let count = rw c.as_slice.ensures at c.in_err-count.ensures in
    let params = c.len.ensures.len in
    rw p.1 (omega arith)
