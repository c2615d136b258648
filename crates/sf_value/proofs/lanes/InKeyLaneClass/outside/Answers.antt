use Rattle.std.proofs.Common.{refl}
use Rattle.sf_value.specs.Grammar.Classes.{is_in_key}
use Rattle.sf_value.proofs.Vectors.{masked, both, either, neither, is_byte, is_from, is_up_to}
use Rattle.sf_value.proofs.lanes.InKeyLaneClass.outside.Goals as goal

pub returns : goal.returns
returns c =
    let v = c.args.bytes in
    let long = c.fits-bytes.0 in
    masked _ is_in_key v _ c.fits-bytes
    (neither v _
    (either v _ _ (either v _ _ (either v _ _ (both v _ _ (is_from v long 97) (is_up_to v long 122))
    (both v _ _ (is_from v long 48) (is_up_to v long 57)))
    (both v _ _ (is_from v long 45) (is_up_to v long 46)))
    (either v _ _ (is_byte v long 95) (is_byte v long 42))))
    refl
