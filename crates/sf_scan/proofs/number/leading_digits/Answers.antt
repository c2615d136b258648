use Rattle.std.proofs.Common.{arith}
use Rattle.sf_scan.proofs.Digits.{room, past_none, past_digit, begins_at, begins_small}
use Rattle.sf_scan.proofs.number.leading_digits.Goals as goal

pub loop-count-init : goal.loop-count-init
loop-count-init c = record { past = past_none _; within = omega arith; inside = omega arith }

pub overflow_mul-value : goal.overflow_mul-value
overflow_mul-value c =
    let k = room _ _ _ c.loop-count.invariant.past.small c.loop-count-test.true c.requires in
    omega arith

pub overflow_add-value : goal.overflow_add-value
overflow_add-value c =
    let k = room _ _ _ c.loop-count.invariant.past.small c.loop-count-test.true c.requires in
    let d = c.in-Some.ensures in
    let j = begins_small _ _ _
    (begins_at c.args.text.now c.loop-count.count _ c.if-count-text.true d.0 d.1) in
    omega arith

pub loop-count-preserved : goal.loop-count-preserved
loop-count-preserved c =
    let d = c.in-Some.ensures in record {
      past = past_digit _ _ _ _ _ _ c.loop-count.invariant.past
          (begins_at c.args.text.now c.loop-count.count _ c.if-count-text.true d.0 d.1);
      within = omega arith;
      inside = omega arith;
    }
