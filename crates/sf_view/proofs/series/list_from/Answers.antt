use Rattle.std.proofs.Common.{refl}
use Rattle.sf_view.proofs.Members.{list_more, list_last, so_far_kept, so_far_same}
use Rattle.sf_view.proofs.series.list_from.Goals as goal

pub returns-in_default-clause-stopped : goal.returns-in_default-clause-stopped
returns-in_default-clause-stopped c =
    so_far_kept _ _ _ _ _ _ c.loop-scan.invariant c.scan_member.ensures.kept
    c.scan_member.ensures.same

pub returns-then-ends-clause-accepts : goal.returns-then-ends-clause-accepts
returns-then-ends-clause-accepts c =
    list_last _ _ _ _ _ _ _ _ _ _ _ c.loop-scan.invariant c.in-Some.ensures.scans refl refl
    c.after_ows-white.ensures (c.ends.ensures.all c.if-ends.true)

pub returns-in_default-strip_byte-clause-stopped : goal.returns-in_default-strip_byte-clause-stopped
returns-in_default-strip_byte-clause-stopped c =
    so_far_kept _ _ _ _ _ _ c.loop-scan.invariant c.scan_member.ensures.kept
    c.scan_member.ensures.same

pub loop-scan-preserved : goal.loop-scan-preserved
loop-scan-preserved c =
    so_far_same _ _ _ _ _
    (list_more _ _ _ _ _ _ _ _ _ _ _ _ _ c.loop-scan.invariant c.in-Some.ensures.scans refl refl
    c.after_ows-white.ensures c.in-Some-strip_byte.ensures c.after_ows-rest.ensures)
