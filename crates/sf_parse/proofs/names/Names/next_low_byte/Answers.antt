use Rattle.std.proofs.Common.{◌-◌, ◌++◌, ap, arith}
use Rattle.sf_parse.specs.Names.{end_name}
use Rattle.sf_parse.specs.ByteSets.{HasNone}
use Rattle.sf_parse.proofs.Fitting.{low-none, low-some, byte_bit}
use Rattle.sf_parse.proofs.names.Names.next_low_byte.Goals as goal
use Rattle.sf_parse.proofs.names.Names.next_low_byte.Goals.{in_default-via-in-Some+else-byte-lt33}
use Rattle.sf_parse.proofs.names.Names.next_low_byte.Goals.{in_default-via-in_default}

pub returns-in-Some-clause-names : goal.returns-in-Some-clause-names
returns-in-Some-clause-names c =
    let left = c.args.self.now in
    let found = c.in-Some.ensures in
    rw (byte_bit c.in-Some.byte found.1)
    (ap (λ names. names ++ end_name left.may_end)
    (low-some left.set left.place c.in-Some.byte c.requires found.0 (omega arith) found.2 found.3))

pub returns-in_default-clause-names : goal.returns-in_default-clause-names
returns-in_default-clause-names c =
    let left = c.args.self.now in
    let none : HasNone left.set (left.place - 104) 33 =
    elim c.in_default.branch [
      | in_default-via-in-Some+else-byte-lt33 w ↦
          λ k l u. w.in-Some.ensures.3 k l (omega arith)
      | in_default-via-in_default w ↦ λ k l u. w.in_default.ensures k l (omega arith)
    ] in
    ap (λ names. names ++ end_name left.may_end)
    (low-none left.set left.place c.requires (omega arith) none)
