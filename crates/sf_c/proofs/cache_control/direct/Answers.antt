use Rattle.std.proofs.Common.{refl}
use Rattle.sf_c.proofs.ScannedTexts.{says_to_cache}
use Rattle.sf_c.proofs.cache_control.direct.Goals as goal

pub returns-in-Some : goal.returns-in-Some
returns-in-Some c =
    says_to_cache (record { policy = c.args.policy.now; refusal = c.args.refusal.now }) _ _ _ _
    c.in-Some.ensures c.offered.ensures refl
