use Rattle.std.proofs.Common.{◌∷◌}
use Rattle.std.proofs.lemmas.Result.{err_from_is_err_and}
use Rattle.sf_field.proofs.Answered.{refused_lines, finished_lines}
use Rattle.sf_field.proofs.lines.parse_several.Goals as goal

pub returns-in_err-feed_lines-clause-parses : goal.returns-in_err-feed_lines-clause-parses
returns-in_err-feed_lines-clause-parses g c =
    let p = err_from_is_err_and c.from_residual.result c.from_residual.ensures.1 in
    let new = c.new_in-parser in
    rw (p.1, p.2)
    (refused_lines c.args.dialect c.args.kind new.result c.feed_lines.new.parser
    c.in_err-feed_lines.field-0.0
    (c.args.first.now ∷ c.args.second.now ∷ g.L.FieldLines.lines c.args.others)
    new.ensures.dialect new.ensures.kind new.ensures.max new.ensures.took
    c.in_err-feed_lines.ensures.fed)

pub returns-clause-parses : goal.returns-clause-parses
returns-clause-parses g c =
    let new = c.new_in-parser in
    finished_lines c.args.dialect c.args.kind new.result c.feed_lines.new.parser c.finish.result
    (c.args.first.now ∷ c.args.second.now ∷ g.L.FieldLines.lines c.args.others)
    new.ensures.dialect new.ensures.kind new.ensures.max new.ensures.took
    c.in_ok-feed_lines.ensures.fed c.finish.ensures.ended
