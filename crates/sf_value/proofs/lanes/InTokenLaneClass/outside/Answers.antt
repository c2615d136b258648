use Rattle.std.proofs.Common.{refl}
use Rattle.sf_value.specs.Grammar.Classes.{is_in_token}
use Rattle.sf_value.proofs.Vectors.{masked, both, either, is_byte, is_from, is_up_to, is_before, is_after}
use Rattle.sf_value.proofs.lanes.InTokenLaneClass.outside.Goals as goal

pub returns : goal.returns
returns c =
    let v = c.args.bytes in
    let long = c.fits-bytes.0 in
    masked _ is_in_token v _ c.fits-bytes
    (either v _ _ (either v _ _ (either v _ _ (either v _ _ (either v _ _ (either v _ _ (is_before v long 33) (is_after v long 126))
    (either v _ _ (is_byte v long 40) (is_byte v long 41)))
    (either v _ _ (is_byte v long 123) (is_byte v long 125)))
    (both v _ _ (is_from v long 59) (is_up_to v long 64)))
    (both v _ _ (is_from v long 91) (is_up_to v long 93)))
    (either v _ _ (is_byte v long 34) (is_byte v long 44)))
    refl
