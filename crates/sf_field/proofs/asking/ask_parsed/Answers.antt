use Rattle.std.proofs.Common.{[], ◌∷◌, subst}
use Rattle.sf_field.specs.Lines.{ParsesLines}
use Rattle.sf_field.proofs.asking.ask_parsed.Goals as goal

pub returns-clause-answers : goal.returns-clause-answers
returns-clause-answers g c =
    let line = c.args.text.now ∷ [] in
    c.answer_read.ensures.answers c.args.dialect line
    (subst (λ k. ParsesLines c.args.dialect k line c.parse_line-read.result) c.KIND.ensures
    c.parse_line-read.ensures.parses)
