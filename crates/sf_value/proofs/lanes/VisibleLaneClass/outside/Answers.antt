use Rattle.std.proofs.Common.{refl}
use Rattle.sf_value.specs.Grammar.Classes.{is_visible}
use Rattle.sf_value.proofs.Vectors.{masked, either, is_before, is_after}
use Rattle.sf_value.proofs.lanes.VisibleLaneClass.outside.Goals as goal

pub returns : goal.returns
returns c =
    let v = c.args.bytes in
    let long = c.fits-bytes.0 in
    masked _ is_visible v _ c.fits-bytes
    (either v _ _ (is_before v long 32) (is_after v long 126))
    refl
