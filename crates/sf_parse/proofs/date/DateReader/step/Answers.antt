use Rattle.std.proofs.Common.{◌<◌, ◌^◌, arith}
use Rattle.sf_parse.proofs.Numerals.{digit_fits}
use Rattle.sf_parse.proofs.date.DateReader.step.Goals as goal

pub overflow_mul-self : goal.overflow_mul-self
overflow_mul-self c =
    let room : c.self.inside.value < 10 ^ 14 = digit_fits _ _ c.self.invariant.1 (omega arith) in
    omega arith

pub overflow_add-self : goal.overflow_add-self
overflow_add-self c =
    let room : c.self.inside.value < 10 ^ 14 = digit_fits _ _ c.self.invariant.1 (omega arith) in
    omega arith
