use Rattle.std.proofs.Common.{subst, sym, arith}
use Rattle.sf_use.specs.CacheControl.{HaveCacheRules}
use Rattle.sf_c.specs.Rules.{SaysRules}
use Rattle.sf_c.proofs.Fallbacks.{directives_more, directives_refused, still_refused}
use Rattle.sf_c.proofs.fallback.direct.Goals as goal

pub returns-then-fallback-ne0-clause-takes : goal.returns-then-fallback-ne0-clause-takes
returns-then-fallback-ne0-clause-takes c =
    still_refused c.args.fallback.now c.args.line.now c.if-fallback-ne0.true

pub returns-in-Some-clause-takes : goal.returns-in-Some-clause-takes
returns-in-Some-clause-takes c =
    let old = c.args.fallback.now in
    directives_more old (record old { rules = c.of-fallback.result }) c.args.line.now c.in-Some.rules
    c.if-fallback-ne0.false c.if-fallback-ne0.false c.of-fallback.ensures
    (λ lines have.
    c.in-Some.ensures lines (subst (HaveCacheRules lines) (sym c.rules.ensures) have))

pub returns-in-None-clause-takes : goal.returns-in-None-clause-takes
returns-in-None-clause-takes c =
    let old = c.args.fallback.now in
    directives_refused old
    (record old { rules = c.of-fallback-in-None.result; is_refused = 1 }) c.args.line.now
    c.if-fallback-ne0.false (λ e. omega arith)
    (subst (SaysRules c.of-fallback-in-None.result) c.refused.ensures c.of-fallback-in-None.ensures)
    (λ lines have.
    c.in-None.ensures lines (subst (HaveCacheRules lines) (sym c.rules.ensures) have))
