use Rattle.std.proofs.Common.{not, refl}
use Rattle.sf_value.specs.Grammar.Strings.{is_escaped}
use Rattle.sf_value.proofs.Vectors.{masked, either, is_byte}
use Rattle.sf_value.proofs.lanes.NoBackslashLaneClass.outside.Goals as goal

pub returns : goal.returns
returns c =
    let v = c.args.bytes in
    let long = c.fits-bytes.0 in
    masked _ (λ b. not (is_escaped b)) v _ c.fits-bytes
    (either v _ _ (is_byte v long 34) (is_byte v long 92))
    refl
