use Rattle.std.proofs.Common.{◌∙◌, arith}
use Rattle.sf_field.proofs.Normals.{normalised, join_one}
use Rattle.sf_field.proofs.lines.normalise_lines.Goals as goal

pub returns-then-lines-eq1 : goal.returns-then-lines-eq1
returns-then-lines-eq1 c =
    normalised c.args.kind c.args.lines.now c.as_bytes.result.now c.normalise.result
    (c.as_bytes.ensures.bytes ∙ join_one c.args.lines.now _ c.if-lines-eq1.true c.index-lines-0.is)
    (omega arith) c.normalise.ensures

pub returns : goal.returns
returns c =
    normalised c.args.kind c.args.lines.now c.as_slice.result.now c.normalise-2.result
    (c.as_slice.ensures.value ∙ c.in_ok-text.ensures)
    (let small = c.in_ok-text.text.small in let len = c.as_slice.ensures.len in omega arith)
    c.normalise-2.ensures
