use Rattle.std.proofs.Common.{subst}
use Rattle.sf_c.specs.Selecting.{IsIgnored}
use Rattle.sf_c.proofs.Selecting.{ignored_empty, ignored_refused}
use Rattle.sf_c.proofs.select.consider.Goals as goal

pub returns-in-Empty : goal.returns-in-Empty
returns-in-Empty c =
    let there = c.in-Some.ensures in
    let ignored =
    ignored_empty
    (record { rules = c.args.rules.now; refusal = c.of-refusal.result })
    (record { rules = c.rule.new.rules; refusal = c.rule.new.refusal })
    c.in-Some.text.now c.args.dialect c.in-Empty.ensures in
    (there.0, subst (IsIgnored c.args.dialect) there.1 ignored, c.in-Empty.ensures.2.1)

pub returns-in-Refused : goal.returns-in-Refused
returns-in-Refused c =
    let there = c.in-Some.ensures in
    let ignored =
    ignored_refused
    (record { rules = c.args.rules.now; refusal = c.of-refusal.result })
    (record { rules = c.rule.new.rules; refusal = c.rule.new.refusal })
    c.in-Some.text.now c.args.dialect c.in-Refused.ensures in
    (there.0, subst (IsIgnored c.args.dialect) there.1 ignored, c.in-Refused.ensures.1)
