use Rattle.std.proofs.Common.{rules, ◌≢◌, arith}
use Rattle.sf_value.specs.declared.value.Kind.TheVariants as kind_is
use Rattle.sf_tool.proofs.AcceptedLines.{has_read_line, has_read_within, has_read_all}
use Rattle.sf_tool.proofs.InputLines.{length-joined}
use Rattle.sf_tool.proofs.scanning.first_stop.Goals as goal

pub overflow_add-place-in-Some : goal.overflow_add-place-in-Some
overflow_add-place-in-Some c =
    let read = has_read_line _ _ _ c.loop-line.rest.now c.in-Some.line.now c.in-Some.more.now
    c.trimmed-text.result.now c.loop-line.place c.loop-line.invariant c.in-Some.ensures.lines
    c.trimmed-text.ensures (c.has_members.ensures (search rules)) in
    omega (arith, has_read_within _ _ _ _ _ read, length-joined c.args.input.now, c.requires)

pub loop-line-preserved : goal.loop-line-preserved
loop-line-preserved c =
    has_read_line _ _ _ c.loop-line.rest.now c.in-Some.line.now c.in-Some.more.now
    c.trimmed-text.result.now _ c.loop-line.invariant c.in-Some.ensures.lines c.trimmed-text.ensures
    (c.has_members.ensures (search rules))

pub returns-clause-accepted : goal.returns-clause-accepted
returns-clause-accepted c =
    let kind : c.args.kind ≢ kind_is.Item = search rules in
    has_read_all _ _ _ c.loop-line.rest.now _ kind c.loop-line.invariant
    c.in_default-split_line.ensures.lines
