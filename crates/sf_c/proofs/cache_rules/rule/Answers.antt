use Rattle.std.proofs.Common.{refl}
use Rattle.sf_c.proofs.ScannedTexts.{rules_cache}
use Rattle.sf_c.proofs.cache_rules.rule.Goals as goal

pub returns-in-Some : goal.returns-in-Some
returns-in-Some c =
    rules_cache (record { rules = c.args.rules.now; refusal = c.args.refusal.now }) _ _ _ _ _
    c.in-Some.ensures c.offered.ensures refl
