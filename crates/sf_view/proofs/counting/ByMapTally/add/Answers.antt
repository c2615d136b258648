use Rattle.std.proofs.Common.{◌++◌, ◌∷◌, [], ◌∙◌, ap}
use Rattle.sf_value.specs.Grammar.Pairs.{settle}
use Rattle.sf_value.proofs.Settling.{settle_settle}
use Rattle.sf_view.proofs.counting.ByMapTally.add.Goals as goal

pub returns : goal.returns
returns c = λ ps e.
    let one = (c.args.key.now, c.args.value) ∷ [] in
    c.in-Ok.ensures.new ∙ ap (λ y. settle (y ++ one)) e ∙ settle_settle ps one
