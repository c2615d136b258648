use Rattle.sf_parse.specs.Machine.Showns.{shown_step}
use Rattle.sf_parse.proofs.Prefixes.{goes_more}
use Rattle.sf_parse.proofs.display_string.take_chars.Goals.{then-byte-eq37+in_ok-rest}
use Rattle.sf_parse.proofs.display_string.take_chars.Goals.{else-byte-eq37+in_ok-rest-2}
use Rattle.sf_parse.proofs.display_string.take_chars.Goals as goal

pub loop-byte-preserved : goal.loop-byte-preserved
loop-byte-preserved c =
    elim c.if-byte-eq37.branch [
      | then-byte-eq37+in_ok-rest w ↦ rw (w.chars-is, w.bytes-is, w.rest-is)
          (record {
            goes =
                goes_more shown_step _ _ _ _ _ _ c.loop-byte.invariant.goes
                w.in_ok-rest.ensures.goes;
            leads = w.take_escapes.ensures.leads;
          })
      | else-byte-eq37+in_ok-rest-2 w ↦ rw (w.chars-is, w.bytes-is, w.rest-is)
          (record {
            goes =
                goes_more shown_step _ _ _ _ _ _ c.loop-byte.invariant.goes
                w.in_ok-rest-2.ensures.goes;
            leads = w.take_unencoded.ensures.leads;
          })
    ]
