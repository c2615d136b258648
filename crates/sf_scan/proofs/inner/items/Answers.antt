use Rattle.std.proofs.Common.{refl}
use Rattle.sf_scan.proofs.Following.{bare_apart}
use Rattle.sf_scan.proofs.InnerLists.{going_none, going_closed, going_last, going_more, less_left}
use Rattle.sf_scan.proofs.InnerLists.{going_stuck, going_broken, going_open}
use Rattle.sf_scan.proofs.Starts.{bare_begun, bare_start}
use Rattle.sf_scan.proofs.inner.items.Goals as goal

pub loop-after-init : goal.loop-after-init
loop-after-init g c =
    let d = c.args.dialect in
    going_none d (bare_apart d) (bare_begun d) g.M.Builder.bare g.M.Maker.with
    g.M.Builder.closed c.args.text.now c.args.maker.now

pub returns-in-Some : goal.returns-in-Some
returns-in-Some g c =
    let d = c.args.dialect in
    let r = c.few_prefix.ensures in
    going_closed d (bare_apart d) (bare_begun d) g.M.Builder.bare g.M.Maker.with
    g.M.Builder.closed _ _ _ _ _ _ c.loop-after.invariant r.whole r.every _ c.in-Some.ensures

pub returns-then-stop-at : goal.returns-then-stop-at
returns-then-stop-at g c =
    let d = c.args.dialect in
    let r = c.few_prefix.ensures in
    let e = rw c.in-Err-Refused.field-0-is at c.in-Err-Refused.ensures.scans in
    rw c.in-Err-Refused.field-0-is (going_open d (bare_apart d) (bare_begun d) g.M.Builder.bare g.M.Maker.with
    g.M.Builder.closed _ _ _ _ _ _ c.loop-after.invariant r.whole r.every c.in-Err-Refused.stop.place _ _
    (bare_start d) e.refuses (rw c.in-Err-Refused.field-0-is at c.if-stop-at.true) r.longest c.in_default.ensures refl refl)

pub returns-in-Err-Refused : goal.returns-in-Err-Refused
returns-in-Err-Refused g c =
    let d = c.args.dialect in
    let r = c.few_prefix.ensures in
    let e = rw c.in-Err-Refused.field-0-is at c.in-Err-Refused.ensures.scans in
    rw c.in-Err-Refused.field-0-is (going_broken d (bare_apart d) (bare_begun d) g.M.Builder.bare g.M.Maker.with
    g.M.Builder.closed _ _ _ _ _ _ c.loop-after.invariant r.whole r.every c.in-Err-Refused.stop.place _ _
    e.refuses e.open_still (rw c.in-Err-Refused.field-0-is at c.if-stop-at.false) refl refl)

pub returns-in-Some-strip_byte : goal.returns-in-Some-strip_byte
returns-in-Some-strip_byte g c =
    let d = c.args.dialect in
    let r = c.few_prefix.ensures in
    let i = c.in-Ok.ensures.scans in
    going_last d (bare_apart d) (bare_begun d) g.M.Builder.bare g.M.Maker.with
    g.M.Builder.closed _ _ _ _ _ _ c.loop-after.invariant r.whole r.every _ i.value _ _ _ i.reads
    c.in-Some-strip_byte.ensures i.made

pub returns-in_default-strip_byte-2 : goal.returns-in_default-strip_byte-2
returns-in_default-strip_byte-2 g c =
    let d = c.args.dialect in
    let r = c.few_prefix.ensures in
    let i = c.in-Ok.ensures.scans in
    going_stuck d (bare_apart d) (bare_begun d) g.M.Builder.bare g.M.Maker.with
    g.M.Builder.closed _ _ _ _ _ _ c.loop-after.invariant r.whole r.every c.in-Ok.end.place i.value
    _ _ i.reads i.ended c.in_default-strip_byte.ensures c.in_default-strip_byte-2.ensures refl refl

pub loop-after-smaller : goal.loop-after-smaller
loop-after-smaller g c =
    let r = c.few_prefix.ensures in
    let i = c.in-Ok.ensures.scans in
    less_left _ _ _ i.reads.stops.prefix _ _ _ r.whole i.reads.stops.split c.in-Some-strip_byte-2.ensures

pub loop-after-preserved : goal.loop-after-preserved
loop-after-preserved g c =
    let d = c.args.dialect in
    let r = c.few_prefix.ensures in
    let i = c.in-Ok.ensures.scans in
    going_more d (bare_apart d) (bare_begun d) g.M.Builder.bare g.M.Maker.with
    g.M.Builder.closed _ _ _ _ _ _ c.loop-after.invariant r.whole r.every _ i.value _ _ _ i.reads
    c.in-Some-strip_byte-2.ensures i.made
