use Rattle.std.proofs.Common.{◌≡◌, ◌∷◌, subst, take, option_copied}
use Rattle.sf_value.specs.Grammar.Lines.{join}
use Rattle.sf_field.specs.Lines.{ParsesLines, remaining}
use Rattle.sf_field.proofs.OneText.{asks_alike}
use Rattle.sf_field.proofs.asking.ask_several.Goals as goal

pub returns-then-first-gt1024-clause-answers : goal.returns-then-first-gt1024-clause-answers
returns-then-first-gt1024-clause-answers g c =
    let lines = c.args.first.now ∷ c.args.second.now ∷ g.L.FieldLines.lines c.args.others in
    c.answer_read.ensures.answers c.args.dialect lines
    (subst (λ k. ParsesLines c.args.dialect k lines c.parse_several-read.result) c.KIND.ensures
    c.parse_several-read.ensures.parses)

pub returns-in-Some-clause-answers : goal.returns-in-Some-clause-answers
returns-in-Some-clause-answers g c =
    let lines = c.args.first.now ∷ c.args.second.now ∷ g.L.FieldLines.lines c.args.others in
    let joined = c.join_prefix-joined in
    let text = take joined.result.length joined.new.buffer in
    let others = g.L.FieldLines.lines joined.new.others in
    let left = text ∷ c.in-Some.next.now ∷ others in
    let same : join left ≡ join lines =
    subst (λ o. join (text ∷ remaining (option_copied o) others) ≡ join lines) c.in-Some.is
    joined.ensures.joins in
    asks_alike c.args.dialect _ _ left lines _ same
    (c.answer_read-in-Some.ensures.answers c.args.dialect left
    (subst (λ k. ParsesLines c.args.dialect k left c.parse_several-read-in-Some.result)
    c.KIND-in-Some.ensures c.parse_several-read-in-Some.ensures.parses))
