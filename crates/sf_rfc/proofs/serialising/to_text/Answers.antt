use Rattle.sf_rfc.proofs.SerialisingFields.{outputs_are}
use Rattle.sf_rfc.proofs.serialising.to_text.Goals as goal

pub returns : goal.returns
returns c =
    outputs_are c.args.field.now c.to_text.result (λ text. text.items) c.to_text.ensures.canon
    c.to_text.ensures.valid
