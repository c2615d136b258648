use Rattle.sf_parse.proofs.Numerals.{short}
use Rattle.sf_parse.proofs.number.NumberReader.finish.Goals as goal

pub with_sign-requires : goal.with_sign-requires
with_sign-requires c = short _ _ c.self.invariant.1 c.self.invariant.0
