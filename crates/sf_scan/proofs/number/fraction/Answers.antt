use Rattle.std.proofs.Common.{ap, ◌∙◌, ◌+◌, ◌*◌, rules, SFits, w64}
use Rattle.std.proofs.lemmas.Int.{to_z-of_z}
use Rattle.sf_value.specs.declared.value.Bare.TheVariants as bare
use Rattle.sf_value.specs.Grammar.Numbers.{signed}
use Rattle.sf_scan.proofs.Digits.{fits_thousandths}
use Rattle.sf_scan.proofs.Numbers.{fraction_read, fraction_refused}
use Rattle.sf_scan.proofs.number.fraction.Goals as goal

pub returns-then-fraction-eq0 : goal.returns-then-fraction-eq0
returns-then-fraction-eq0 c = λ d.
    fraction_refused d _ _ _ _ c.leading_digits-fraction.ensures c.if-fraction-eq0.true

pub with_sign-requires : goal.with_sign-requires
with_sign-requires c =
    let r = c.leading_digits-fraction.ensures in
    fits_thousandths c.args.whole _ _ _ c.requires r.past.small r.within c.scale.ensures

pub returns : goal.returns
returns c = λ d.
    let fits : SFits w64 c.with_sign.result = search rules in
    fraction_read d _ _ _ _ _ c.leading_digits-fraction.ensures c.if-fraction-eq0.false
    (ap bare.Decimal (to_z-of_z w64 c.with_sign.result fits ∙ (c.with_sign.ensures ∙ ap
    (λ s. signed c.args.negative (c.args.whole * 1000 + c.leading_digits-fraction.result.value * s))
    c.scale.ensures)))
