use Rattle.std.proofs.Common.{arith}
use Rattle.sf_c.proofs.Joins.{puts_one}
use Rattle.sf_c.proofs.join.join.Goals as goal

pub returns : goal.returns
returns c =
    let begins = c.if-joined-buffer.false in
    let comma = c.if-free-comma.false in
    let line = c.if-free-comma-2.false in
    puts_one (record { buffer = c.args.buffer.now; joined = c.args.joined.now }) c.args.line.now
    c.separator-comma.result.now c.put.new.buffer c.put-2.new.buffer c.separator-comma.ensures
    (omega arith) c.put.ensures c.put-2.ensures
