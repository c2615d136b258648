use Rattle.std.proofs.Common.{w64}
use Rattle.std.proofs.lemmas.Int.{to_z-of_z}
use Rattle.sf_write.proofs.Following.{then}
use Rattle.sf_write.proofs.numbers.put_thousandths.Goals as goal

pub returns : goal.returns
returns g c =
    let same = to_z-of_z w64 c.args.number c.ranges.number in
    let parts = c.parts-is_negative.ensures in
    let sign = rw same at parts.sign in
    let integer = rw same at parts.whole in
    let thousandths = rw same at parts.thousandths in
    let whole = rw (c.as_bytes.ensures.value, c.format.ensures.text) at c.put-sent.ensures in
    rw (← sign, ← integer, ← thousandths)
    (then c.put_sign-sent.ensures (then whole c.put_fraction.ensures))
