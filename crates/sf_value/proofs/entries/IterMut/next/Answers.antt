use Rattle.std.proofs.Common.{arith, refl, ◌<◌, length}
use Rattle.sf_value.proofs.Changes.{lent-within, fewer-left}
use Rattle.sf_value.proofs.entries.IterMut.next.Goals as goal

pub returns : goal.returns
returns g c =
    let ps = c.args.self.now.entries.now in
    let i = c.args.self.now.index in
    let within : i < length ps = omega arith in
    let lent = lent-within c.at_mut.result ps i within c.at_mut.ensures.value in
    rw lent.is (
      refl,
      record {
        writes_back = tt;
        value = rw lent.is at c.at_mut.ensures.value;
        fewer = λ w. fewer-left ps i w within;
      },
    )
