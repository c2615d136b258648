use Rattle.std.proofs.Common.{◌≡◌, true, false, rules, sym, subst, ap, ◌∙◌}
use Rattle.http_header.specs.Token.{lowercase}
use Rattle.sf_tool.specs.Fields.{is_header_name}
use Rattle.sf_lint.proofs.Lines.{nameless-colon, nameless-word, field-line}
use Rattle.sf_lint.proofs.head.read_line.Goals as goal

pub returns-in_default : goal.returns-in_default
returns-in_default c =
    nameless-colon c.args.line.now (search rules) (sym c.is_ows.ensures ∙ c.if-is_ows.false)
    (sym c.is_like_start.ensures ∙ c.if-is_like_start.false) c.in_default.ensures

pub returns-in-None : goal.returns-in-None
returns-in-None c =
    nameless-word c.args.line.now (search rules) (sym c.is_ows.ensures ∙ c.if-is_ows.false)
    (sym c.is_like_start.ensures ∙ c.if-is_like_start.false) c.in-Some.ensures.0
    (subst (λ word. is_header_name word ≡ false) c.in-Some.ensures.1 c.in-None.ensures)

pub returns-in_ok-name-in-Some-header_name : goal.returns-in_ok-name-in-Some-header_name
returns-in_ok-name-in-Some-header_name c =
    let word = c.in-Some.ensures.1 in
    let made = c.in-Some-header_name.ensures in
    let named = rw c.in_ok-name-in-Some-header_name.was at made.1 in
    field-line c.args.line.now _ (search rules)
    (sym c.is_ows.ensures ∙ c.if-is_ows.false)
    (sym c.is_like_start.ensures ∙ c.if-is_like_start.false) c.in-Some.ensures.0
    (subst (λ w. is_header_name w ≡ true) word made.0) (named ∙ ap lowercase word)
