use Rattle.std.proofs.Common.{ap, ◌∙◌, rules, SFits, w64}
use Rattle.std.proofs.lemmas.Int.{to_z-of_z}
use Rattle.sf_value.specs.declared.value.Bare.TheVariants as bare
use Rattle.sf_scan.proofs.Digits.{fits}
use Rattle.sf_scan.proofs.Dates.{date_read, date_refused}
use Rattle.sf_scan.proofs.number.date_digits.Goals as goal

pub returns-then-seconds-eq0 : goal.returns-then-seconds-eq0
returns-then-seconds-eq0 c = λ d.
    date_refused d _ _ _ c.leading_digits-seconds.ensures c.if-seconds-eq0.true

pub with_sign-requires : goal.with_sign-requires
with_sign-requires c =
    let r = c.leading_digits-seconds.ensures in fits _ _ r.past.small r.within

pub returns : goal.returns
returns c = λ d.
    let small : SFits w64 c.with_sign.result = search rules in
    date_read d _ _ _ _ c.leading_digits-seconds.ensures c.if-seconds-eq0.false
    (ap bare.Date (to_z-of_z w64 c.with_sign.result small ∙ c.with_sign.ensures))
