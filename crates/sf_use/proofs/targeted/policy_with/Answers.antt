use Rattle.std.proofs.Common.{sym, ap, ◌∙◌, rules, arith, codes}
use Rattle.sf_use.specs.Scanning.{seconds_by, with_directive}
use Rattle.sf_use.proofs.Scanning.{at_key, other_directive, seconds_are, sets_is}
use Rattle.sf_use.proofs.targeted.policy_with.Goals as goal

pub returns-then-eq : goal.returns-then-eq
returns-then-eq c = λ d m s.
    at_key (λ k. with_directive c.args.policy (k, m)) c.args.member.key.now (codes "max-age") _
    (first_of (search rules, grind arith))
    (ap (λ y. record c.args.policy { max_age = y })
    (c.seconds_of.ensures ∙ ap seconds_by (c.as_integer.ensures d m s) ∙ seconds_are m))

pub returns-then-eq-2 : goal.returns-then-eq-2
returns-then-eq-2 c = λ d m s.
    at_key (λ k. with_directive c.args.policy (k, m)) c.args.member.key.now (codes "s-maxage") _
    (first_of (search rules, grind arith))
    (ap (λ y. record c.args.policy { s_maxage = y })
    (c.seconds_of-then-eq-2.ensures ∙ ap seconds_by (c.as_integer-then-eq-2.ensures d m s)
    ∙ seconds_are m))

pub returns-then-eq-3 : goal.returns-then-eq-3
returns-then-eq-3 c = λ d m s.
    at_key (λ k. with_directive c.args.policy (k, m)) c.args.member.key.now
    (codes "must-revalidate") _ (first_of (search rules, grind arith))
    (ap (λ y. record c.args.policy { must_revalidate = y })
    (c.is_set.ensures d m s ∙ sets_is m))

pub returns-then-eq-4 : goal.returns-then-eq-4
returns-then-eq-4 c = λ d m s.
    at_key (λ k. with_directive c.args.policy (k, m)) c.args.member.key.now (codes "no-store") _
    (first_of (search rules, grind arith))
    (ap (λ y. record c.args.policy { no_store = y })
    (c.is_set-then-eq-4.ensures d m s ∙ sets_is m))

pub returns-then-eq-5 : goal.returns-then-eq-5
returns-then-eq-5 c = λ d m s.
    at_key (λ k. with_directive c.args.policy (k, m)) c.args.member.key.now (codes "no-cache") _
    (first_of (search rules, grind arith))
    (ap (λ y. record c.args.policy { no_cache = y })
    (c.is_set-then-eq-5.ensures d m s ∙ sets_is m))

pub returns-then-eq-6 : goal.returns-then-eq-6
returns-then-eq-6 c = λ d m s.
    at_key (λ k. with_directive c.args.policy (k, m)) c.args.member.key.now (codes "private") _
    (first_of (search rules, grind arith))
    (ap (λ y. record c.args.policy { is_private = y })
    (c.is_set-then-eq-6.ensures d m s ∙ sets_is m))

pub returns : goal.returns
returns c = λ d m s.
    sym (other_directive c.args.policy c.args.member.key.now m
    (first_of (search rules, grind arith)) (first_of (search rules, grind arith))
    (first_of (search rules, grind arith)) (first_of (search rules, grind arith))
    (first_of (search rules, grind arith)) (first_of (search rules, grind arith)))
