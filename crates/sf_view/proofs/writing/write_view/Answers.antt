use Rattle.std.proofs.Common.{arith}
use Rattle.sf_write.proofs.Joining.{from_beginning}
use Rattle.sf_view.proofs.writing.write_view.Goals as goal

pub returns : goal.returns
returns g c = λ d v t e.
    let p = c.put_view.ensures d v t e in
    from_beginning _ _ _ _ (p.goes_on (omega arith))
