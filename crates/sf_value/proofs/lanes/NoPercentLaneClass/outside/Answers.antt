use Rattle.std.proofs.Common.{not, refl, ◌==◌}
use Rattle.sf_value.specs.Ascii.{percent}
use Rattle.sf_value.proofs.Vectors.{masked, is_byte}
use Rattle.sf_value.proofs.lanes.NoPercentLaneClass.outside.Goals as goal

pub returns : goal.returns
returns c =
    let v = c.args.bytes in
    masked _ (λ b. not (b == percent)) v _ c.fits-bytes (is_byte v c.fits-bytes.0 37) refl
