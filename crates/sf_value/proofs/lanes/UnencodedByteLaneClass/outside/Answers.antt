use Rattle.std.proofs.Common.{refl}
use Rattle.sf_value.specs.Grammar.DisplayStrings.{is_unencoded}
use Rattle.sf_value.proofs.Vectors.{masked, either, is_byte, is_before, is_after}
use Rattle.sf_value.proofs.lanes.UnencodedByteLaneClass.outside.Goals as goal

pub returns : goal.returns
returns c =
    let v = c.args.bytes in
    let long = c.fits-bytes.0 in
    masked _ is_unencoded v _ c.fits-bytes
    (either v _ _ (either v _ _ (is_before v long 32) (is_after v long 126))
    (either v _ _ (is_byte v long 34) (is_byte v long 37)))
    refl
