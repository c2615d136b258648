use Rattle.std.proofs.Common.{Option, None, Some, subst}
use Rattle.sf_use.specs.TargetedChoice.{IsOfferIn}
use Rattle.sf_use.specs.declared.targeted.Policy.{Policy}
use Rattle.sf_use.proofs.Choosing.{absent_target, pass_over, passed_more, reached}
use Rattle.sf_use.proofs.targeted.select_in.Goals as goal

pub loop-index-preserved : goal.loop-index-preserved
loop-index-preserved c =
    let P : Option Policy → Type 0 =
    IsOfferIn c.args.dialect c.args.headers.now c.index-targets-index.result in
    let offer : P None = subst P c.in-None.is c.in_ok-policy.ensures.offer in
    record {
      later = λ choice later.
          c.loop-index.invariant.later choice
          (pass_over c.args.dialect _ _ _ _ _ c.loop-index-test.true c.index-targets-index.is offer
          later);
      passed = passed_more c.args.dialect _ _ _ _ c.loop-index-test.true c.index-targets-index.is
          offer c.loop-index.invariant.passed;
    }

pub returns-in_err-policy-clause-reached : goal.returns-in_err-policy-clause-reached
returns-in_err-policy-clause-reached c =
    reached c.args.dialect _ _ _ _ c.loop-index-test.true c.index-targets-index.is
    c.in_err-policy.ensures.present c.loop-index.invariant.passed c.from_residual.result

pub returns-in_err-policy-clause-absent : goal.returns-in_err-policy-clause-absent
returns-in_err-policy-clause-absent c = λ none.
    absurd (absent_target _ _ _ _ c.loop-index-test.true c.index-targets-index.is none
    c.in_err-policy.ensures.present)

pub returns-in-Some-clause-absent : goal.returns-in-Some-clause-absent
returns-in-Some-clause-absent c = λ none.
    let P : Option Policy → Type 0 =
    IsOfferIn c.args.dialect c.args.headers.now c.index-targets-index.result in
    let offer : P (Some c.in-Some.policy) = subst P c.in-Some.is c.in_ok-policy.ensures.offer in
    absurd (absent_target _ _ _ _ c.loop-index-test.true c.index-targets-index.is none
    offer.1.present)
