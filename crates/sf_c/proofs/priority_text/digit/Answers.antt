use Rattle.std.proofs.Common.{arith, sym, ◌∙◌, ◌+◌, ◌<◌, ◌∷◌, [], ap}
use Rattle.std.proofs.lemmas.Fmt.{decimal_digit}
use Rattle.sf_c.proofs.priority_text.digit.Goals as goal

pub returns : goal.returns
returns c =
    let range = c.get.ensures.range in
    let small : c.args.urgency < 10 = omega arith in
    ap (λ n. (48 + n) ∷ []) c.get.ensures.value ∙ sym (decimal_digit c.args.urgency small)
