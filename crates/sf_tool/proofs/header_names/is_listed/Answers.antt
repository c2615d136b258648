use Rattle.std.proofs.Common.{sym}
use Rattle.sf_tool.proofs.Names.{listed-here, not-listed-here}
use Rattle.sf_tool.proofs.header_names.is_listed.Goals as goal

pub returns-then-eq_ignore_ascii_case : goal.returns-then-eq_ignore_ascii_case
returns-then-eq_ignore_ascii_case c =
    sym (listed-here c.args.targets.now c.loop-target.target-index c.target-item.result
    c.as_bytes.result.now c.args.word.now c.loop-target-test.true c.target-item.is
    c.as_bytes.ensures.value c.as_bytes.ensures.valid.1 c.if-eq_ignore_ascii_case.ensures.test)

pub loop-target-preserved : goal.loop-target-preserved
loop-target-preserved c =
    not-listed-here c.args.targets.now c.loop-target.target-index c.target-item.result
    c.as_bytes.result.now c.args.word.now c.loop-target-test.true c.target-item.is
    c.as_bytes.ensures.value c.as_bytes.ensures.valid.1 c.if-eq_ignore_ascii_case.ensures.test
    c.loop-target.invariant
