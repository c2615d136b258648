use Rattle.sf_c.proofs.FilledBuffers.{count_is, filled, never_fails, unsaturated_length}
use Rattle.sf_c.proofs.filling.put_all.Goals as goal

pub returns-in-Ok : goal.returns-in-Ok
returns-in-Ok g c = record {
  same = (filled c.args.out.now c.put.new.out c.put.result c.requires.0
      (c.put.ensures c.requires.0 c.requires.1)).same;
  fills = λ t s. filled c.args.out.now c.put.new.out c.put.result t (c.put.ensures t s);
  counts = λ t s.
      unsaturated_length c.in-Ok.count t c.unsaturated.result
      (count_is _ _ _ c.put.result c.in-Ok.count t (cc) (c.put.ensures t s))
      c.unsaturated.ensures;
}

pub returns-in-Err : goal.returns-in-Err
returns-in-Err g c =
    absurd (never_fails _ _ _ c.put.result c.in-Err.field-0 c.requires.0 (cc)
    (c.put.ensures c.requires.0 c.requires.1))
