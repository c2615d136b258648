use Rattle.std.proofs.Common.{sym, ap, ◌∙◌, rules, arith, codes}
use Rattle.sf_use.specs.Scanning.{urgency_by, with_member}
use Rattle.sf_use.proofs.Scanning.{at_key, other_param, urgency_is, incremental_is}
use Rattle.sf_use.proofs.priority.asked_with.Goals as goal

pub returns-then-eq : goal.returns-then-eq
returns-then-eq c = λ d m s.
    at_key (λ k. with_member c.args.asked (k, m)) c.args.member.key.now (codes "u") _
    (first_of (search rules, grind arith))
    (ap (λ u. record c.args.asked { urgency = u })
    (c.urgency_of.ensures ∙ ap urgency_by (c.as_integer.ensures d m s) ∙ urgency_is m))

pub returns-then-eq-2 : goal.returns-then-eq-2
returns-then-eq-2 c = λ d m s.
    at_key (λ k. with_member c.args.asked (k, m)) c.args.member.key.now (codes "i") _
    (first_of (search rules, grind arith))
    (ap (λ i. record c.args.asked { incremental = i })
    (c.as_boolean.ensures d m s ∙ incremental_is m))

pub returns : goal.returns
returns c = λ d m s.
    sym (other_param c.args.asked c.args.member.key.now m (first_of (search rules, grind arith))
    (first_of (search rules, grind arith)))
