use Rattle.sf_c.proofs.DecidedHops.{token_decided}
use Rattle.sf_c.proofs.hop_parts.is_token.Goals as goal

pub returns-in-Some : goal.returns-in-Some
returns-in-Some c =
    token_decided c.args.bytes.now c.args.span c.in-Some.part.now c.is_word.result c.in-Some.ensures
    c.is_word.ensures

pub returns-in-None : goal.returns-in-None
returns-in-None c = λ t g. c.in-None.ensures g.0.0
