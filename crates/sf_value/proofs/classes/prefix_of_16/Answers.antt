use Rattle.std.proofs.Common.{arith}
use Rattle.sf_value.proofs.Vectors.{all_lanes, lanes_before}
use Rattle.sf_value.proofs.classes.prefix_of_16.Goals as goal

pub returns-then-outside-eq0 : goal.returns-then-outside-eq0
returns-then-outside-eq0 g c =
    all_lanes g.C.ByteClass.test c.args.bytes.now _ c.told-bytes c.outside-outside.ensures
    c.if-outside-eq0.true

pub returns-else-outside-eq0 : goal.returns-else-outside-eq0
returns-else-outside-eq0 g c =
    lanes_before g.C.ByteClass.test c.args.bytes.now _ c.told-bytes c.outside-outside.ensures
    (let h = c.if-outside-eq0.false in omega arith)
