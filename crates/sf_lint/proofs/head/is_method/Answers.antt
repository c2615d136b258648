use Rattle.std.proofs.Common.{arith, rules, tests}
use Rattle.std.proofs.lemmas.Bool.Decides.{nat_tests}
use Rattle.std.proofs.lemmas.Iterator.{YieldsList-from_slice}
use Rattle.std.proofs.lemmas.Iterator.Search.{all_from_yields_List}
use Rattle.sf_value.specs.Grammar.Classes.{is_tchar}
use Rattle.sf_tool.proofs.Names.{is_tchar-is}
use Rattle.sf_lint.proofs.head.is_method.Goals as goal

pub returns-then-not-is_empty : goal.returns-then-not-is_empty
returns-then-not-is_empty c =
    let all =
    all_from_yields_List is_tchar _ _ c.all.result c.all.ensures.ran
    (YieldsList-from_slice c.args.word.now cc)
    (λ x b q k. search (rules, tests, is_tchar-is x.now)) in
    grind (arith, nat_tests)
