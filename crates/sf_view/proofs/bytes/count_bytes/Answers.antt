use Rattle.std.proofs.Common.{refl, arith}
use Rattle.sf_view.proofs.Decoding.{counted_none, counted_run, counted_byte}
use Rattle.sf_view.proofs.bytes.count_bytes.Goals as goal

pub loop-next-init : goal.loop-next-init
loop-next-init c = record { within = omega arith; counted = λ t r. counted_none _ _ t r }

pub loop-next-preserved : goal.loop-next-preserved
loop-next-preserved c =
    let i = c.loop-next.invariant.within in
    let whole = c.take_run.ensures.whole in
    let shorter = c.in-Some.ensures.shorter in
    record {
      within = omega arith;
      counted = λ t r.
          counted_byte _ _ _ _ t _ _ _ c.in-Some.ensures.some refl
          (counted_run _ _ _ _ t _ _ c.take_run.ensures.takes refl
          (c.loop-next.invariant.counted t r));
    }
