use Rattle.sf_use.proofs.RulesScanning.{same_rules}
use Rattle.sf_use.proofs.targeted_rules.rules_with.Goals as goal

pub returns : goal.returns
returns c = λ d m s.
    same_rules _ _ _ _ _ _ _ _ _ _ _ _ (c.policy_with.ensures d m s) (c.invalid_with.ensures d m s)
    (c.invalid_with-2.ensures d m s) (c.set_with.ensures d m s) (c.permits_with.ensures d m s)
    (c.permits_with-2.ensures d m s)
