use Rattle.std.proofs.Common.{refl}
use Rattle.sf_value.specs.Grammar.Classes.{is_sp}
use Rattle.sf_value.proofs.Vectors.{masked, neither, is_byte}
use Rattle.sf_value.proofs.lanes.SpaceLaneClass.outside.Goals as goal

pub returns : goal.returns
returns c =
    let v = c.args.bytes in
    let long = c.fits-bytes.0 in
    masked _ is_sp v _ c.fits-bytes
    (neither v _ (is_byte v long 32))
    refl
