use Rattle.sf_parse.proofs.Decoding.{character_taken, groups_ended}
use Rattle.sf_parse.proofs.blob.decode.Goals as goal

pub loop-value-preserved : goal.loop-value-preserved
loop-value-preserved c =
    let one = c.in-Some.ensures.value in
    record {
      goes =
          character_taken _ _ _ _ _ _ _ one.0 _ c.loop-value.invariant.goes one.1 one.2
          c.in_ok-held.ensures.grown;
      fits = c.in_ok-held.ensures.fits;
    }

pub returns : goal.returns
returns c =
    groups_ended _ _ _ _ _ c.loop-value.invariant.goes c.in_default.ensures.value
    c.in_ok-end.ensures
