use Rattle.std.proofs.Common.{refl}
use Rattle.sf_view.proofs.Members.{dict_more, dict_last, dict_raw, parts_whole, parts_raw}
use Rattle.sf_view.proofs.Members.{so_far_kept, so_far_same}
use Rattle.sf_view.proofs.series.dict_from.Goals as goal

pub returns-in_default-clause-stopped : goal.returns-in_default-clause-stopped
returns-in_default-clause-stopped c =
    so_far_kept _ _ _ _ _ _ c.loop-scan.invariant.so_far c.scan_entry.ensures.kept
    c.scan_entry.ensures.same

pub returns-then-are_apart-clause-parts : goal.returns-then-are_apart-clause-parts
returns-then-are_apart-clause-parts c =
    parts_whole _ _ _ _ _ _ c.loop-scan.invariant.unset
    (dict_last _ _ _ _ _ _ _ _ _ _ _ _ _ c.loop-scan.invariant.so_far c.in-Some.ensures.scans
    c.with-later_marks.ensures c.after_ows-white.ensures (c.ends.ensures.all c.if-ends.true)
    (c.are_apart.ensures c.if-are_apart.true))

pub returns-then-ends-clause-parts : goal.returns-then-ends-clause-parts
returns-then-ends-clause-parts c =
    parts_raw _ _ _ _ _ refl c.in-Some.ensures.scans.puts.within
    (dict_raw _ _ _ _ _ _ _ _ _ _ _ _ _ c.loop-scan.invariant.so_far c.in-Some.ensures.scans
    c.with-later_marks.ensures c.after_ows-white.ensures (c.ends.ensures.all c.if-ends.true))

pub returns-in_default-strip_byte-clause-stopped : goal.returns-in_default-strip_byte-clause-stopped
returns-in_default-strip_byte-clause-stopped c =
    so_far_kept _ _ _ _ _ _ c.loop-scan.invariant.so_far c.scan_entry.ensures.kept
    c.scan_entry.ensures.same

pub loop-scan-preserved : goal.loop-scan-preserved
loop-scan-preserved c = record {
  so_far =
      so_far_same _ _ _ _ _
      (dict_more _ _ _ _ _ _ _ _ _ _ _ _ _ _ _ c.loop-scan.invariant.so_far c.in-Some.ensures.scans
      c.with-later_marks.ensures c.after_ows-white.ensures c.in-Some-strip_byte.ensures
      c.after_ows-rest.ensures);
  unset = c.loop-scan.invariant.unset;
}
