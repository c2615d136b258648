use Rattle.sf_c.proofs.DecidedHops.{string_decided}
use Rattle.sf_c.proofs.hop_parts.is_string.Goals as goal

pub returns-in-Some : goal.returns-in-Some
returns-in-Some c =
    string_decided c.args.bytes.now c.args.span c.in-Some.part.now c.are_all.result c.in-Some.ensures
    c.are_all.ensures

pub returns-in-None : goal.returns-in-None
returns-in-None c = λ t g. c.in-None.ensures g.0.0
