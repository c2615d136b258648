use Rattle.std.proofs.lemmas.List.{drop_all}
use Rattle.std.proofs.Common.{◌++◌, false, ap, sym, ◌∙◌, append-nil}
use Rattle.sf_field.proofs.Feeding.{appended, behind, joined}
use Rattle.sf_field.proofs.lines.joined.Goals as goal

pub loop-line-init : goal.loop-line-init
loop-line-init c =
    ap (λ t. t ++ behind false c.args.lines.now) c.new-text.ensures.items
    ∙ sym (joined c.args.lines.now)

pub loop-line-preserved : goal.loop-line-preserved
loop-line-preserved c =
    appended c.loop-line.text.items c.append_line.new.text.items c.as_bytes.result.now
    c.line-item.result _ c.loop-line.after_line c.args.lines.now c.loop-line.line-index
    c.loop-line-test.true c.loop-line.invariant c.line-item.is c.as_bytes.ensures.bytes
    c.in_ok-append_line.ensures

pub returns : goal.returns
returns c =
    sym (append-nil c.loop-line.text.items)
    ∙ ap (λ ls. c.loop-line.text.items ++ behind c.loop-line.after_line ls)
    (sym (drop_all c.loop-line.line-index c.args.lines.now c.loop-line-test.false))
    ∙ c.loop-line.invariant
