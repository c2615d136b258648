use Rattle.std.proofs.Common.{◌∷◌, ◌∙◌, ap}
use Rattle.sf_value.specs.Grammar.ByteSequences.{letter}
use Rattle.sf_view.proofs.Decoding.{first_takes}
use Rattle.sf_view.proofs.bytes.first_byte.Goals as goal

pub returns-clause-some : goal.returns-clause-some
returns-clause-some c = λ s h.
    let x = c.in-Some.ensures.some in
    let y = c.in-Some-character.ensures.some in
    first_takes c.args.text.now c.in-Some-character.rest.now s c.in-Some.first
    c.in-Some-character.second x.0 y.0 (x.1 ∙ ap (λ z. letter c.in-Some.first ∷ z) y.1) h
