use Rattle.std.proofs.Common.{◌≡◌, None}
use Rattle.sf_use.specs.TargetedRules.{MayOfferRules}
use Rattle.sf_use.proofs.RulesScanning.{with_first_rule, rules_of_members, all_rules_offered}
use Rattle.sf_use.proofs.RulesScanning.{may_offer_rules}
use Rattle.sf_use.proofs.Scanning.{read_none, read_all}
use Rattle.sf_use.proofs.caching.CacheRules.scan_in.Goals as goal

pub loop-member-init : goal.loop-member-init
loop-member-init c =
    read_none c.args.dialect with_first_rule rules_of_members _ _ _ c.new-cursor.ensures.dialect
    c.new-cursor.ensures.whole all_rules_offered

pub returns : goal.returns
returns c =
    let is = c.in_default.is in
    let none : c.in_ok-member.field-0 ≡ None = cc in
    read_all c.args.dialect with_first_rule rules_of_members _ _ _ _ _ c.loop-member.invariant
    c.in_ok-member.ensures.next none MayOfferRules (λ all e. may_offer_rules _ all e)
