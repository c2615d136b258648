use Rattle.sf_c.proofs.FilledBuffers.{count_is, never_fails, unsaturated_length}
use Rattle.sf_c.proofs.filling.length_of.Goals as goal

pub returns-in-Ok : goal.returns-in-Ok
returns-in-Ok g c = λ t s.
    unsaturated_length c.in-Ok.count t c.unsaturated.result
    (count_is _ _ _ c.put.result c.in-Ok.count t (cc) (c.put.ensures t s)) c.unsaturated.ensures

pub returns-in-Err : goal.returns-in-Err
returns-in-Err g c = λ t s.
    absurd (never_fails _ _ _ c.put.result c.in-Err.field-0 t (cc) (c.put.ensures t s))
