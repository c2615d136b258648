use Rattle.sf_scan.proofs.Escapes.{past_run, past_escape}
use Rattle.sf_scan.proofs.bare.after_escapes.Goals as goal

pub loop-escape-init : goal.loop-escape-init
loop-escape-init c =
    let r = c.long_prefix.ensures in
    record { past = past_run _ _ _ r.whole r.every; no_byte = r.longest }

pub loop-escape-preserved : goal.loop-escape-preserved
loop-escape-preserved c =
    let r = c.long_prefix-in-Some.ensures in
    record {
      past = past_escape _ _ _ _ _ _ c.loop-escape.invariant.past c.in-Some.ensures
          c.in-Some-after_escaped.ensures r.whole r.every;
      no_byte = r.longest;
    }
