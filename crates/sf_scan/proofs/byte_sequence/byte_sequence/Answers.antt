use Rattle.std.proofs.Common.{refl, sym}
use Rattle.sf_scan.proofs.BlobStops.{reached_run, reached_pad, blob_refused, blob_read, no_pad, stuck}
use Rattle.sf_scan.proofs.byte_sequence.byte_sequence.Goals as goal

pub loop-more-init : goal.loop-more-init
loop-more-init c =
    let r = c.long_prefix.ensures in
    reached_run _ _ _ _ r.whole r.every r.longest c.after_characters-place.ensures

pub loop-more-preserved : goal.loop-more-preserved
loop-more-preserved c =
    reached_pad _ _ _ _ _ c.loop-more.invariant c.in-Some.ensures (sym c.in-Some-padded.ensures)

pub returns-in_default-padded : goal.returns-in_default-padded
returns-in_default-padded c = λ d.
    blob_refused d _ _ _ c.loop-more.invariant refl
    (no_pad _ _ _ c.in-Some.ensures (sym c.in_default-padded.ensures))

pub returns-in_default-after_colon : goal.returns-in_default-after_colon
returns-in_default-after_colon c = λ d.
    blob_refused d _ _ _ c.loop-more.invariant refl
    (stuck _ _ _ c.loop-more.invariant c.in_default.ensures c.in_default-after_colon.ensures)

pub returns : goal.returns
returns c = λ d.
    blob_read d _ _ c.split_at.result.0.now _ _ _ c.loop-more.invariant c.in-Some-after_colon.ensures
    c.split_at.ensures.front refl refl
