use Rattle.std.proofs.Common.{refl}
use Rattle.sf_value.specs.Grammar.Classes.{is_ows}
use Rattle.sf_value.proofs.Vectors.{masked, either, neither, is_byte}
use Rattle.sf_value.proofs.lanes.OwsLaneClass.outside.Goals as goal

pub returns : goal.returns
returns c =
    let v = c.args.bytes in
    let long = c.fits-bytes.0 in
    masked _ is_ows v _ c.fits-bytes
    (neither v _ (either v _ _ (is_byte v long 32) (is_byte v long 9)))
    refl
