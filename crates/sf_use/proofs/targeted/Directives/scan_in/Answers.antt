use Rattle.std.proofs.Common.{◌≡◌, None}
use Rattle.sf_use.specs.TargetedChoice.{MayOffer}
use Rattle.sf_use.proofs.Scanning.{with_first, offer_of, all_offered, may_offer}
use Rattle.sf_use.proofs.Scanning.{read_none, read_all}
use Rattle.sf_use.proofs.targeted.Directives.scan_in.Goals as goal

pub loop-member-init : goal.loop-member-init
loop-member-init c =
    read_none c.args.dialect with_first offer_of _ _ _ c.new-cursor.ensures.dialect
    c.new-cursor.ensures.whole
    all_offered

pub returns : goal.returns
returns c =
    let is = c.in_default.is in
    let none : c.in_ok-member.field-0 ≡ None = cc in
    read_all c.args.dialect with_first offer_of _ _ _ _ _ c.loop-member.invariant
    c.in_ok-member.ensures.next
    none MayOffer (λ all e. may_offer _ all e)
