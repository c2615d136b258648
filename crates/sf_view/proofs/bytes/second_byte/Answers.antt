use Rattle.sf_view.proofs.Decoding.{second_takes}
use Rattle.sf_view.proofs.bytes.second_byte.Goals as goal

pub returns-clause-some : goal.returns-clause-some
returns-clause-some c = λ s h.
    let z = c.in-Some.ensures.some in
    second_takes c.args.text.now c.in-Some.rest.now s c.args.high c.in-Some.value z.0 z.1 h
