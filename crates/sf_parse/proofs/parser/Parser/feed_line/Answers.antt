use Rattle.std.proofs.Common.{ap, sym, ◌∙◌}
use Rattle.std.proofs.lemmas.Result.{err_from_is_err_and}
use Rattle.sf_parse.proofs.FedLines.{comma_refused, line_after, line_first, fed_line}
use Rattle.sf_parse.proofs.parser.Parser.feed_line.Goals as goal

pub returns-in_err-feed-clause-fed : goal.returns-in_err-feed-clause-fed
returns-in_err-feed-clause-fed c =
    let p = err_from_is_err_and c.from_residual.result c.from_residual.ensures.1 in
    let after = sym (ap (λ q. q.after_line) c.self.view_is) ∙ c.if-self.true in
    rw (p.1, p.2) (comma_refused _ _ _ _ c.args.line.now after c.in_err-feed.ensures.fed)

pub returns-then-self-clause-fed : goal.returns-then-self-clause-fed
returns-then-self-clause-fed c =
    let after = sym (ap (λ q. q.after_line) c.self.view_is) ∙ c.if-self.true in
    line_after _ c.feed.new.self _ _ _ c.args.line.now after c.in_ok-feed.ensures.fed
    c.feed-then-self.ensures.fed

pub returns-in_err-feed-2-clause-fed : goal.returns-in_err-feed-2-clause-fed
returns-in_err-feed-2-clause-fed c =
    let p = err_from_is_err_and c.from_residual-in_err-feed-2.result
    c.from_residual-in_err-feed-2.ensures.1 in
    let after = sym (ap (λ q. q.after_line) c.self.view_is) ∙ c.if-self.false in
    rw (p.1, p.2) (line_first _ _ _ _ c.args.line.now after c.in_err-feed-2.ensures.fed)

pub returns-clause-fed : goal.returns-clause-fed
returns-clause-fed c =
    let after = sym (ap (λ q. q.after_line) c.self.view_is) ∙ c.if-self.false in
    line_first _ _ _ _ c.args.line.now after
    (fed_line _ c.feed-2.new.self _ _ c.mark_line.ensures c.in_ok-feed-2.ensures.fed)
