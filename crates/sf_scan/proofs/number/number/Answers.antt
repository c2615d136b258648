use Rattle.std.proofs.Common.{ap, ◌∙◌, rules, SFits, w64}
use Rattle.std.proofs.lemmas.Int.{to_z-of_z}
use Rattle.sf_value.specs.declared.value.Bare.TheVariants as bare
use Rattle.sf_scan.proofs.Digits.{fits, fits_whole}
use Rattle.sf_scan.proofs.Numbers.{integer_read, integer_refused, point_scans}
use Rattle.sf_scan.proofs.number.number.Goals as goal

pub fraction-requires : goal.fraction-requires
fraction-requires c = fits_whole _ _ c.leading_digits-whole.ensures.past.small c.in-Some.ensures.few

pub returns-in-Some : goal.returns-in-Some
returns-in-Some c = λ d.
    point_scans d _ _ _ _ _ c.leading_digits-whole.ensures c.in-Some.ensures (c.fraction.ensures d)

pub returns-then-whole-eq0 : goal.returns-then-whole-eq0
returns-then-whole-eq0 c = λ d.
    integer_refused d _ _ _ c.leading_digits-whole.ensures c.in_default.ensures c.if-whole-eq0.true

pub with_sign-requires : goal.with_sign-requires
with_sign-requires c = let r = c.leading_digits-whole.ensures in fits _ _ r.past.small r.within

pub returns : goal.returns
returns c = λ d.
    let small : SFits w64 c.with_sign.result = search rules in
    integer_read d _ _ _ _ c.leading_digits-whole.ensures c.in_default.ensures c.if-whole-eq0.false
    (ap bare.Integer (to_z-of_z w64 c.with_sign.result small ∙ c.with_sign.ensures))
