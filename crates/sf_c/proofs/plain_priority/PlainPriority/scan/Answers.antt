use Rattle.std.proofs.Common.{◌≡◌, None, refl, subst, sym, ◌∙◌}
use Rattle.sf_view.specs.Cursors.{ReadsNextEntry}
use Rattle.sf_c.proofs.PlainPriorities.{all_read, member_read, none_read}
use Rattle.sf_c.proofs.plain_priority.PlainPriority.scan.Goals as goal

pub loop-member-init : goal.loop-member-init
loop-member-init c =
    none_read _ _ _ c.new-cursor.ensures.dialect
    c.new-cursor.ensures.whole refl

pub loop-member-preserved : goal.loop-member-preserved
loop-member-preserved c =
    member_read _ c.loop-member.cursor c.next.new.self c.in-Some.member c.loop-member.read _
    c.loop-member.invariant c.in_ok-member.ensures.dialect
    (subst (ReadsNextEntry c.loop-member.cursor c.next.new.self) c.in-Some.is
    c.in_ok-member.ensures.next)
    c.in_ok-read.ensures

pub returns : goal.returns
returns c =
    let is = c.in_default.is in
    let none : c.in_ok-member.field-0 ≡ None = cc in
    all_read _ _ _ _ _ c.loop-member.invariant (sym c.contains.ensures.value ∙ c.if-contains.false)
    c.in_ok-member.ensures.next none
