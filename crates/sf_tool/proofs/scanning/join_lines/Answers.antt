use Rattle.std.proofs.Common.{◌++◌, true, map, ap, sym, ◌∙◌, append_assoc, append-nil}
use Rattle.sf_parse.specs.Parsers.{in_line}
use Rattle.sf_field.proofs.Feeding as fed
use Rattle.sf_tool.specs.Lines.{trim, lines_of}
use Rattle.sf_tool.proofs.AcceptedLines.{first_of}
use Rattle.sf_tool.proofs.scanning.join_lines.Goals as goal

pub loop-line-init : goal.loop-line-init
loop-line-init c = rw c.in_ok-text.ensures.items (sym (fed.joined (lines_of c.args.input.now)))

pub loop-line-preserved : goal.loop-line-preserved
loop-line-preserved c =
    let text = c.loop-line.text.items in
    let after = c.loop-line.after_line in
    let more = fed.behind true (lines_of c.in-Some.more.now) in
    let next = first_of c.loop-line.rest.now c.in-Some.line.now c.in-Some.more.now
    c.trimmed.result.now c.in-Some.ensures.lines c.trimmed.ensures in
    ap (λ t. t ++ more) c.in_ok-append_line.ensures
    ∙ append_assoc text (in_line after c.trimmed.result.now) more
    ∙ ap (λ ls. text ++ fed.behind after ls) (sym next) ∙ c.loop-line.invariant

pub returns : goal.returns
returns c =
    let text = c.loop-line.text.items in
    sym (append-nil text)
    ∙ ap (λ ls. text ++ fed.behind c.loop-line.after_line (map trim ls)) (sym c.in_default.ensures.lines)
    ∙ c.loop-line.invariant
