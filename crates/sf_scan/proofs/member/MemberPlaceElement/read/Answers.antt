use Rattle.std.proofs.Common.{refl, inl, inr, [], ◌∷◌}
use Rattle.sf_value.specs.Ascii.{open_bracket}
use Rattle.sf_scan.proofs.Following.{bare_apart}
use Rattle.sf_scan.proofs.Lifts.{accepts_in, rejects_in}
use Rattle.sf_scan.proofs.Lists.{cons_nil}
use Rattle.sf_scan.proofs.Members.{inner_member, item_read, member_broken, member_open}
use Rattle.sf_scan.proofs.Sequences.{read_some}
use Rattle.sf_scan.proofs.Starts.{bare_begun, bare_start, bare_no_bracket}
use Rattle.sf_scan.proofs.member.MemberPlaceElement.read.Goals as goal

pub returns-in-Ok-clause-scans : goal.returns-in-Ok-clause-scans
returns-in-Ok-clause-scans g c =
    let d = c.args.dialect in
    accepts_in _ _ _ _ inr _ _ _ _ _ _ _ _ _ _ _
    (inner_member d (bare_apart d) (bare_begun d) (bare_start d) (bare_no_bracket d) _ _
    c.in-Some.ensures) c.in-Ok.ensures refl (λ b. refl) refl (λ v. refl)

pub returns-in-Err-Refused-clause-scans : goal.returns-in-Err-Refused-clause-scans
returns-in-Err-Refused-clause-scans g c =
    let d = c.args.dialect in
    rejects_in _ _ _ _ inr _ _ _ _ _ _
    (inner_member d (bare_apart d) (bare_begun d) (bare_start d) (bare_no_bracket d) _ _
    c.in-Some.ensures) (rw c.in-Err-Refused.field-0-is at c.in-Err-Refused.ensures) refl (λ b. refl) refl

pub returns-in-Err-Refused-clause-kept : goal.returns-in-Err-Refused-clause-kept
returns-in-Err-Refused-clause-kept g c = λ e.
    let r = (rw c.in-Err-Refused.field-0-is at c.in-Err-Refused.ensures).refuses in
    absurd (read_some _ (open_bracket ∷ []) _ r.stops.prefix _ c.in-Some.ensures r.stops.split
    (λ z. cons_nil open_bracket [] z) e)

pub returns-in-Ok-item-clause-scans : goal.returns-in-Ok-item-clause-scans
returns-in-Ok-item-clause-scans g c =
    let d = c.args.dialect in
    let r = c.in-Ok-item.ensures.scans in
    accepts_in _ _ _ _ inl _ _ _ _ _ _ _ _ _ _ _
    (item_read d (bare_apart d) (bare_begun d) (bare_start d) (bare_no_bracket d) _ _ _
    _ c.in_default.ensures r.reads) r refl (λ b. refl) refl (λ v. refl)

pub returns-then-stop-text-clause-scans : goal.returns-then-stop-text-clause-scans
returns-then-stop-text-clause-scans g c =
    let d = c.args.dialect in
    let r = rw c.in-Err-Refused-item.field-0-is at c.in-Err-Refused-item.ensures.scans in
    member_open d (bare_apart d) (bare_begun d) (bare_start d) (bare_no_bracket d) _ _
    _ _ c.in_default.ensures r.refuses c.if-stop-text.true refl refl

pub returns-else-stop-text-clause-scans : goal.returns-else-stop-text-clause-scans
returns-else-stop-text-clause-scans g c =
    let d = c.args.dialect in
    let r = rw c.in-Err-Refused-item.field-0-is at c.in-Err-Refused-item.ensures.scans in
    member_broken d (bare_apart d) (bare_begun d) (bare_start d) (bare_no_bracket d) _
    c.in-Err-Refused-item.stop.place _ _ c.in_default.ensures r.refuses r.open_still c.if-stop-text.false refl
    refl
