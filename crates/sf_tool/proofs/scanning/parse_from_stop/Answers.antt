use Rattle.std.proofs.Common.{Err, Ok, arith, rules, subst}
use Rattle.sf_parse.specs.declared.refusal.Refusal.TheVariants.{Syntax}
use Rattle.sf_field.specs.Lines.{ParsesLines}
use Rattle.sf_tool.proofs.AfterMembers.{stopped_after, accepted_after, refused_after, refused_within}
use Rattle.sf_tool.proofs.InputLines.{length-joined}
use Rattle.sf_tool.proofs.scanning.parse_from_stop.Goals as goal

pub returns-in-Ok : goal.returns-in-Ok
returns-in-Ok c =
    let d = c.args.dialect in
    let k = c.args.kind in
    let s = stopped_after d k c.args.input.now c.args.stop.rest.now c.args.stop.place
    c.requires.stopped (search rules) in
    let parsed =
    subst (λ ls. ParsesLines d k ls (Ok c.in-Ok.field)) c.after-lines.ensures c.in-Ok.ensures.parses
    in
    accepted_after d k c.args.input.now c.args.stop.rest.now c.args.stop.place s _ parsed.0

pub overflow_add-result : goal.overflow_add-result
overflow_add-result c =
    let d = c.args.dialect in
    let k = c.args.kind in
    let e = c.in-Err-Syntax in
    let s = stopped_after d k c.args.input.now c.args.stop.rest.now c.args.stop.place
    c.requires.stopped (search rules) in
    let parsed =
    subst (λ ls. ParsesLines d k ls (Err (Syntax e.place e.found e.expected e.may_end)))
    c.after-lines.ensures (rw e.field-0-is at e.ensures.parses) in
    let fits = refused_within d k c.args.input.now c.args.stop.rest.now c.args.stop.place e.place
    e.found e.expected e.may_end s parsed.0 in
    omega (arith, fits.1, length-joined c.args.input.now, c.requires.short)

pub returns-in-Err-Syntax : goal.returns-in-Err-Syntax
returns-in-Err-Syntax c =
    let d = c.args.dialect in
    let k = c.args.kind in
    let e = c.in-Err-Syntax in
    let s = stopped_after d k c.args.input.now c.args.stop.rest.now c.args.stop.place
    c.requires.stopped (search rules) in
    let parsed =
    subst (λ ls. ParsesLines d k ls (Err (Syntax e.place e.found e.expected e.may_end)))
    c.after-lines.ensures (rw e.field-0-is at e.ensures.parses) in (
      refused_after d k c.args.input.now c.args.stop.rest.now c.args.stop.place e.place e.found
          e.expected e.may_end s parsed.0,
      tt,
    )
