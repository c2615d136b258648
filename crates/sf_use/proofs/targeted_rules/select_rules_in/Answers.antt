use Rattle.std.proofs.Common.{Option, None, Some, subst, arith}
use Rattle.sf_use.specs.TargetedRules.{IsRulesOfferIn}
use Rattle.sf_use.specs.declared.caching.CacheRules.{CacheRules}
use Rattle.sf_use.proofs.Choosing.{absent_target, passed_more, reached}
use Rattle.sf_use.proofs.RulesChoosing.{is_fallback, is_first}
use Rattle.sf_use.proofs.targeted_rules.select_rules_in.Goals as goal

pub loop-index-preserved : goal.loop-index-preserved
loop-index-preserved c =
    let P : Option CacheRules → Type 0 =
    IsRulesOfferIn c.args.dialect c.args.headers.now c.index-targets-index.result in
    let offer : P None = subst P c.in-None.is c.in_ok-rules.ensures.offer in
    passed_more c.args.dialect _ _ _ _ c.loop-index-test.true c.index-targets-index.is offer
    c.loop-index.invariant

pub returns-in_err-rules-clause-reached : goal.returns-in_err-rules-clause-reached
returns-in_err-rules-clause-reached c =
    reached c.args.dialect _ _ _ _ c.loop-index-test.true c.index-targets-index.is
    c.in_err-rules.ensures.present c.loop-index.invariant c.from_residual.result

pub returns-in_err-rules-clause-absent : goal.returns-in_err-rules-clause-absent
returns-in_err-rules-clause-absent c = λ none.
    absurd (absent_target _ _ _ _ c.loop-index-test.true c.index-targets-index.is none
    c.in_err-rules.ensures.present)

pub returns-in-Some-clause-chosen : goal.returns-in-Some-clause-chosen
returns-in-Some-clause-chosen c =
    let P : Option CacheRules → Type 0 =
    IsRulesOfferIn c.args.dialect c.args.headers.now c.index-targets-index.result in
    let offer : P (Some c.in-Some.rules) = subst P c.in-Some.is c.in_ok-rules.ensures.offer in
    is_first c.args.dialect _ _ _ _ _ c.loop-index-test.true c.index-targets-index.is offer
    c.loop-index.invariant

pub returns-in-Some-clause-absent : goal.returns-in-Some-clause-absent
returns-in-Some-clause-absent c = λ none.
    let P : Option CacheRules → Type 0 =
    IsRulesOfferIn c.args.dialect c.args.headers.now c.index-targets-index.result in
    let offer : P (Some c.in-Some.rules) = subst P c.in-Some.is c.in_ok-rules.ensures.offer in
    absurd (absent_target _ _ _ _ c.loop-index-test.true c.index-targets-index.is none
    offer.1.present)

pub returns-clause-chosen : goal.returns-clause-chosen
returns-clause-chosen c = is_fallback c.args.dialect _ _ _ (omega arith) c.loop-index.invariant
