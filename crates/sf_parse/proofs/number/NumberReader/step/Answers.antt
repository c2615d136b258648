use Rattle.std.proofs.Common.{◌<◌, ◌^◌, arith}
use Rattle.sf_parse.proofs.Numerals.{digit_fits, whole_fits}
use Rattle.sf_parse.proofs.number.NumberReader.step.Goals as goal

pub overflow_mul-self : goal.overflow_mul-self
overflow_mul-self c =
    let room : c.self.inside.value < 10 ^ 14 = digit_fits _ _ c.self.invariant.1 (omega arith) in
    omega arith

pub overflow_add-self : goal.overflow_add-self
overflow_add-self c =
    let room : c.self.inside.value < 10 ^ 14 = digit_fits _ _ c.self.invariant.1 (omega arith) in
    omega arith

pub invariant_of-self-else-is_ascii_digit : goal.invariant_of-self-else-is_ascii_digit
invariant_of-self-else-is_ascii_digit c =
    let fits : c.self.inside.value < 10 ^ 12 = whole_fits _ _ c.self.invariant.1 (omega arith) in
    omega arith
