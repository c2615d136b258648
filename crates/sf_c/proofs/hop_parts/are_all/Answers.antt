use Rattle.std.proofs.Common.{sym}
use Rattle.sf_value.proofs.Faults.{every_place}
use Rattle.sf_value.proofs.Words.{every_from_place}
use Rattle.sf_c.proofs.hop_parts.are_all.Goals as goal

pub returns-in-Some : goal.returns-in-Some
returns-in-Some g c = λ h.
    let all = every_place g.C.ByteClass.test c.args.bytes.now h in
    let found = c.in-Some.ensures in
    absurd cc

pub returns-in-None : goal.returns-in-None
returns-in-None g c = every_from_place g.C.ByteClass.test c.args.bytes.now (sym c.in-None.ensures)
