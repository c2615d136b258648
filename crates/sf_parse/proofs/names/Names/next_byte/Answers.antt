use Rattle.std.proofs.Common.{◌++◌, ◌<◌, ap, arith}
use Rattle.sf_parse.specs.Names.{end_name}
use Rattle.sf_parse.proofs.Fitting.{high-none, high-some, byte_bit}
use Rattle.sf_parse.proofs.names.Names.next_byte.Goals as goal

pub returns-in-Some-clause-names : goal.returns-in-Some-clause-names
returns-in-Some-clause-names c =
    let left = c.args.self.now in
    let found = c.in-Some.ensures in
    rw (byte_bit c.in-Some.byte found.1)
    (ap (λ names. names ++ end_name left.may_end)
    (high-some left.set left.place c.in-Some.byte c.requires found.0 found.1 found.2 found.3))

pub returns-in-None-clause-names : goal.returns-in-None-clause-names
returns-in-None-clause-names c =
    let left = c.args.self.now in
    let below : left.place < 104 = omega arith in
    ap (λ names. names ++ end_name left.may_end)
    (high-none left.set left.place c.requires below c.in-None.ensures)
