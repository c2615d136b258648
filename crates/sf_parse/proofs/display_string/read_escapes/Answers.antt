use Rattle.std.proofs.Common.{sym, ◌++◌, take, arith}
use Rattle.sf_scan.specs.Characters.{utf8_of}
use Rattle.sf_scan.proofs.Characters.{step_on}
use Rattle.sf_parse.proofs.Blocks.{escape_on, escape_leads}
use Rattle.sf_parse.proofs.display_string.read_escapes.Goals as goal

pub loop-rest-preserved : goal.loop-rest-preserved
loop-rest-preserved c =
    let x = utf8_of c.args.from in
    let y = utf8_of c.loop-rest.chars in
    let z = utf8_of c.in-Some-after.next in
    let block = c.loop-rest.block in
    let n = c.loop-rest.count in
    let step = step_on c.loop-rest.chars c.in-Some-after.next c.in-Some.byte
    (sym c.in-Some-after.ensures) in
    record {
      within = omega arith;
      goes =
          λ bs. escape_on x y z bs block c.args.chunk.now c.loop-rest.rest.now n c.in-Some.byte
          (omega arith) c.in-len3-up.len_at_least c.if-percent-ne37.false
          (c.loop-rest.invariant.goes bs)
          (c.in-Some.ensures (bs ++ take n block) y z step);
      leads =
          λ bs h. escape_leads x y z bs block n c.in-Some.byte (omega arith)
          (c.loop-rest.invariant.leads bs h) step;
    }
