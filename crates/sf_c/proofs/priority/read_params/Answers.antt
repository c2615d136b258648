use Rattle.std.proofs.Common.{refl}
use Rattle.sf_c.proofs.ScannedTexts.{asks_for}
use Rattle.sf_c.proofs.priority.read_params.Goals as goal

pub returns-in-Some : goal.returns-in-Some
returns-in-Some c =
    asks_for (record { priority = c.args.priority.now; refusal = c.args.refusal.now }) _ _ _ _
    c.in-Some.ensures c.of.ensures refl
