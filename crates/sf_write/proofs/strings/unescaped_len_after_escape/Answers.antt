use Rattle.std.proofs.Common.{not}
use Rattle.sf_value.specs.Grammar.Strings.{is_escaped}
use Rattle.sf_write.proofs.Runs.{run_near, run_far}
use Rattle.sf_write.proofs.strings.unescaped_len_after_escape.Goals as goal

pub returns-then-run-lt-NEAR-clause-len : goal.returns-then-run-lt-NEAR-clause-len
returns-then-run-lt-NEAR-clause-len c =
    run_near (λ b. not (is_escaped b)) c.args.bytes.now c.in-Some.near.now c.in-Some.far.now 8 _
    c.in-Some.ensures.cases c.unescaped_len_by_byte-run.ensures.len c.if-run-lt-NEAR.true

pub returns-clause-len : goal.returns-clause-len
returns-clause-len c =
    run_far (λ b. not (is_escaped b)) c.args.bytes.now c.in-Some.near.now c.in-Some.far.now 8 _ _
    c.in-Some.ensures.cases c.unescaped_len_by_byte-run.ensures.len c.if-run-lt-NEAR.false
    c.unescaped_len.ensures.len
