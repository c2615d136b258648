use Rattle.std.proofs.Common.{refl}
use Rattle.sf_scan.specs.Leaves.{leaf_bare}
use Rattle.sf_scan.proofs.Following.{bare_apart}
use Rattle.sf_scan.proofs.Items.{item_refused, item_alone, item_with, item_broken}
use Rattle.sf_scan.proofs.Sequences.{read_some}
use Rattle.sf_scan.proofs.Starts.{bare_some}
use Rattle.sf_scan.proofs.Taken.{leaf_read}
use Rattle.sf_scan.proofs.item.item.Goals as goal

pub returns-in-Err-clause-scans : goal.returns-in-Err-clause-scans
returns-in-Err-clause-scans g c =
    let d = c.args.dialect in
    let r = c.in-Err.ensures in
    item_refused d (bare_apart d) g.M.Builder.bare g.M.Maker.with _ c.args.maker.now
    c.in-Err.stop.place _ _ r.refuses r.open_still refl refl

pub returns-in_default-strip_byte-clause-scans : goal.returns-in_default-strip_byte-clause-scans
returns-in_default-strip_byte-clause-scans g c =
    let d = c.args.dialect in
    let r = leaf_read d _ _ c.in-Ok.ensures in
    item_alone d (bare_apart d) g.M.Builder.bare g.M.Maker.with _ _
    c.in-Ok.found.0.place _ _ _ _ r.reads r.ends c.in_default-strip_byte.ensures refl refl c.in_default.ensures

pub returns-in-Ok-params-clause-scans : goal.returns-in-Ok-params-clause-scans
returns-in-Ok-params-clause-scans g c =
    let d = c.args.dialect in
    let r = leaf_read d _ _ c.in-Ok.ensures in
    item_with d (bare_apart d) g.M.Builder.bare g.M.Maker.with _ _
    c.in-Ok.found.0.place _ _ _ _ _ _ _ r.reads c.in-Some.ensures c.in_default.ensures
    c.in-Ok-params.ensures refl refl

pub returns-in-Err-Refused-clause-scans : goal.returns-in-Err-Refused-clause-scans
returns-in-Err-Refused-clause-scans g c =
    let d = c.args.dialect in
    let r = leaf_read d _ _ c.in-Ok.ensures in
    item_broken d (bare_apart d) g.M.Builder.bare g.M.Maker.with _ c.args.maker.now
    c.in-Ok.found.0.place _ _ _ _ _ _ _ r.reads c.in-Some.ensures (rw c.in-Err-Refused.field-0-is at c.in-Err-Refused.ensures) refl refl

pub returns-in-Err-Refused-clause-kept : goal.returns-in-Err-Refused-clause-kept
returns-in-Err-Refused-clause-kept g c = λ e.
    let r = leaf_read c.args.dialect _ _ c.in-Ok.ensures in
    let k = rw c.in-Err-Refused.field-0-is at c.in-Err-Refused.ensures in
    absurd (read_some _ r.reads.stops.prefix _ k.refuses.stops.prefix _ r.reads.stops.split
    k.refuses.stops.split
    (bare_some c.args.dialect _ (leaf_bare c.in-Ok.found.1) r.reads.spelled) e)
