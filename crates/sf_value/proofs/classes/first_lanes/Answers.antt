use Rattle.std.proofs.Common.{◌∙◌, ap, sym, subst, take}
use Rattle.std.specs.List.{prefix_len}
use Rattle.sf_value.specs.Grammar.Words.{Every}
use Rattle.sf_value.proofs.Vectors.{every_before}
use Rattle.sf_value.proofs.classes.first_lanes.Goals as goal

pub returns-clause-every : goal.returns-clause-every
returns-clause-every g c =
    let test = g.C.ByteClass.test in
    let t = c.args.text.now in
    let run = c.prefix_of_16.ensures ∙ ap (prefix_len test) c.in-Some.ensures.cases.0 in
    subst (λ n. Every test (take n t)) (sym run) (every_before test 16 t)
