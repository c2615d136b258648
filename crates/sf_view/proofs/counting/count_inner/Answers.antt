use Rattle.std.proofs.Common.{arith}
use Rattle.sf_view.proofs.CountedParts.{inner_counts}
use Rattle.sf_view.proofs.counting.count_inner.Goals as goal

pub returns : goal.returns
returns c =
    let a = c.in_ok-all.ensures.nodes in
    let b = c.in_ok-all.ensures.bytes in
    let e = c.in_ok-counts.ensures.nodes in
    let f = c.in_ok-counts.ensures.bytes in
    inner_counts _ _ _ _ _ _ _ _ _ _ _ c.in-Some.ensures c.in_ok-items.ensures c.in_ok-params.ensures
    (omega arith) (omega arith)
