use Rattle.std.proofs.Common.{◌++◌, ◌∙◌, ap, arith}
use Rattle.sf_parse.specs.Names.{end_name}
use Rattle.sf_parse.proofs.Fitting.{fitting-not, fitting-one}
use Rattle.sf_parse.proofs.names.Names.next_class.Goals as goal

pub returns-then-self-bytes-clause-names : goal.returns-then-self-bytes-clause-names
returns-then-self-bytes-clause-names c =
    let left = c.loop-self.self in
    c.loop-self.invariant ∙ ap (λ names. names ++ end_name left.may_end)
    (fitting-one left.set left.place c.bytes_of-bytes.result c.name_at-name.result
    (omega arith) c.name_at-name.ensures c.bytes_of-bytes.ensures c.if-self-bytes.true)

pub loop-self-preserved : goal.loop-self-preserved
loop-self-preserved c =
    let left = c.loop-self.self in
    c.loop-self.invariant ∙ ap (λ names. names ++ end_name left.may_end)
    (fitting-not left.set left.place c.bytes_of-bytes.result c.name_at-name.result
    (omega arith) c.name_at-name.ensures c.bytes_of-bytes.ensures c.if-self-bytes.false)
