use Rattle.std.proofs.lemmas.Result.{err_from_is_err_and}
use Rattle.sf_field.proofs.Answered.{refused_lines, finished_lines}
use Rattle.sf_field.proofs.lines.parse_in_turn.Goals as goal

pub returns-in_err-feed_in_turn-clause-parses : goal.returns-in_err-feed_in_turn-clause-parses
returns-in_err-feed_in_turn-clause-parses g c =
    let p = err_from_is_err_and c.from_residual.result c.from_residual.ensures.1 in
    let new = c.new_in-in_turn in
    rw (p.1, p.2)
    (refused_lines c.args.dialect c.args.kind new.result c.feed_in_turn.new.parser
    c.in_err-feed_in_turn.field-0.0 (g.L.FieldLines.lines c.args.lines) new.ensures.dialect
    new.ensures.kind new.ensures.max new.ensures.took c.in_err-feed_in_turn.ensures.fed)

pub returns-clause-parses : goal.returns-clause-parses
returns-clause-parses g c =
    let new = c.new_in-in_turn in
    finished_lines c.args.dialect c.args.kind new.result c.feed_in_turn.new.parser c.finish.result
    (g.L.FieldLines.lines c.args.lines) new.ensures.dialect new.ensures.kind new.ensures.max
    new.ensures.took c.in_ok-feed_in_turn.ensures.fed c.finish.ensures.ended
