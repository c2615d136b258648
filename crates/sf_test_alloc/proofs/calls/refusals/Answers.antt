use Rattle.std.proofs.Common.{of_calls}
use Rattle.std.proofs.iter.Next.{called}
use Rattle.sf_test_alloc.proofs.CallLemmas.{refused_again, right_at_last}
use Rattle.sf_test_alloc.proofs.calls.refusals.Goals as goal

pub returns-in-Right : goal.returns-in-Right
returns-in-Right g c =
    let at = c.loop-step in
    let call = c.call-in-loop-step in (
      call.new.self,
      right_at_last _ _ at.step _ _ at.invariant.1 (called g.F.FnMut call.ensures c.in-Right.is),
    )

pub loop-step-preserved : goal.loop-step-preserved
loop-step-preserved g c =
    let at = c.loop-step in
    let call = c.call-in-loop-step in (
      search of_calls,
      refused_again _ _ at.step _ _ at.invariant.1 (called g.F.FnMut call.ensures c.in-Refused.is),
    )
