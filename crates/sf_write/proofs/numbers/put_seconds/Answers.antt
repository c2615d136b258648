use Rattle.std.proofs.Common.{w64}
use Rattle.std.proofs.lemmas.Int.{to_z-of_z}
use Rattle.sf_write.proofs.Following.{then}
use Rattle.sf_write.proofs.numbers.put_seconds.Goals as goal

pub returns : goal.returns
returns g c =
    let same = to_z-of_z w64 c.args.seconds c.ranges.seconds in
    then c.put-sent.ensures (rw same at c.put_number.ensures)
