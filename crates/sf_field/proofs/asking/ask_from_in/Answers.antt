use Rattle.std.proofs.Common.{subst}
use Rattle.sf_field.specs.Lines.{ParsesLines}
use Rattle.sf_field.proofs.Normals.{means_as_canonical}
use Rattle.sf_field.proofs.asking.ask_from_in.Goals as goal

pub returns-in_default-clause-canonical : goal.returns-in_default-clause-canonical
returns-in_default-clause-canonical g c =
    means_as_canonical c.args.dialect _ _ (g.L.FieldLines.lines c.args.lines)

pub returns-in_default-next_line-clause-canonical : goal.returns-in_default-next_line-clause-canonical
returns-in_default-next_line-clause-canonical g c =
    means_as_canonical c.args.dialect _ _ (g.L.FieldLines.lines c.args.lines)

pub returns-clause-canonical : goal.returns-clause-canonical
returns-clause-canonical g c =
    means_as_canonical c.args.dialect _ _ (g.L.FieldLines.lines c.args.lines)

pub returns-then-not-asking_is_free-clause-canonical : goal.returns-then-not-asking_is_free-clause-canonical
returns-then-not-asking_is_free-clause-canonical g c =
    means_as_canonical c.args.dialect _ _ (g.L.FieldLines.lines c.args.lines)

pub returns-then-not-asking_is_free-clause-answers : goal.returns-then-not-asking_is_free-clause-answers
returns-then-not-asking_is_free-clause-answers g c =
    let lines = g.L.FieldLines.lines c.args.lines in
    c.answer_read.ensures.answers c.args.dialect lines
    (subst (λ k. ParsesLines c.args.dialect k lines c.parse_from-read.result) c.KIND.ensures
    c.parse_from-read.ensures.parses)
