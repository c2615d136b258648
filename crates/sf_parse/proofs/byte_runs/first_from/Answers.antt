use Rattle.std.proofs.Common.{◌<◌, ◌/◌, ◌^◌, arith}
use Rattle.sf_parse.proofs.FirstBytes.{none_left, first_left}
use Rattle.sf_parse.proofs.byte_runs.first_from.Goals as goal

pub returns-then-left-eq0 : goal.returns-then-left-eq0
returns-then-left-eq0 c = none_left c.args.set c.args.from c.if-left-eq0.true

pub returns : goal.returns
returns c =
    let size : c.args.set < 2 ^ 128 = omega arith in
    let some : 0 < c.args.set / 2 ^ c.args.from = omega arith in
    let first = first_left c.args.set c.args.from size some in
    (omega arith, first.below, first.member, first.none)
