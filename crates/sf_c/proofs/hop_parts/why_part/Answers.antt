use Rattle.sf_c.proofs.WrittenHops.{other_token}
use Rattle.sf_c.proofs.hop_parts.why_part.Goals as goal

pub returns-in-9 : goal.returns-in-9
returns-in-9 c = λ w h.
    other_token c.args.bytes.now c.args.hop.now w c.part.result.now c.in-9.is h c.part.ensures
