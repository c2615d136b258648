use Rattle.std.proofs.Common.{not}
use Rattle.sf_value.specs.Grammar.Strings.{is_escaped}
use Rattle.sf_write.proofs.Runs.{first_split, run_near, run_far}
use Rattle.sf_write.proofs.strings.unescaped_len.Goals as goal

pub returns-then-run-lt-LONG-clause-len : goal.returns-then-run-lt-LONG-clause-len
returns-then-run-lt-LONG-clause-len c =
    let s = c.args.bytes.now in
    run_near (λ b. not (is_escaped b)) s c.in-Some.near.now c.in-Some.far.now 16 _
    (first_split s _ _ 16 c.in-Some.ensures.cases) c.prefix_of_16-run.ensures c.if-run-lt-LONG.true

pub returns-clause-len : goal.returns-clause-len
returns-clause-len c =
    let s = c.args.bytes.now in
    run_far (λ b. not (is_escaped b)) s c.in-Some.near.now c.in-Some.far.now 16 _ _
    (first_split s _ _ 16 c.in-Some.ensures.cases) c.prefix_of_16-run.ensures c.if-run-lt-LONG.false
    c.unescaped_len_after_run.ensures.len
