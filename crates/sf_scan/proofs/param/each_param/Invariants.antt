use Rattle.std.proofs.Common.{◌≡◌, true, ℕ, List, ◌++◌, length}
use Rattle.sf_value.specs.declared.value.Bare.{Bare}
use Rattle.sf_value.specs.Grammar.Pairs.{Pairs}
use Rattle.sf_scan.specs.Makers.{made_of}
use Rattle.sf_scan.specs.Places.{in_param, ends_params}
use Rattle.sf_value.specs.Runs.{Lacks}
use Rattle.sf_scan.proofs.Raws.{Whole}
use Rattle.sf_scan.proofs.param.each_param.Given as goal

abbrev pub invariant-loop-more : goal.invariant-loop-more
invariant-loop-more g l =
    (before : List ℕ) × (raw : Pairs Bare)
    × (l.text ≡ before ++ l.end.left.now)
    × Whole l.dialect (in_param l.dialect l.end.place)
    (ends_params l.end.place) before raw
    × Lacks (in_param l.dialect l.end.place) l.end.left.now
    × (l.maker ≡ made_of g.M.Maker.with l.initial.maker raw)
    × (ends_params l.end.place ≡ true)

abbrev pub decreases-loop-more : goal.decreases-loop-more
decreases-loop-more g l = length l.end.left.now
