use Rattle.std.proofs.Common.{◌≡◌, sym, not, true, false, Bool, refl}
use Rattle.std.specs.Cmp.Lexicographic.{same_text}
use Rattle.std.specs.Str.{bytes_eq}
use Rattle.sf_value.proofs.EntryMaps.{same-step}
use Rattle.sf_value.proofs.entries.EntriesPart.same.Goals as goal

told : (b : Bool) → false ≡ not b → true ≡ b
told true h = refl
told false h = sym h

pub loop-i-preserved : goal.loop-i-preserved
loop-i-preserved g c =
    let x = c.in-Some-Some.x in
    let y = c.in-Some-Some.y in
    let tested : true ≡ bytes_eq x.0.now y.0.now = told _ c.if-ne.ensures in
    let key = same_text x.0.now y.0.now tested in
    let value = c.if-not-same.ensures.0 refl in
    same-step c.args.self.now c.args.other.now c.loop-i.i _ _ c.loop-i.invariant
    (sym c.in-Some-Some.ensures) (sym c.in-Some-Some.ensures') (λ i. (key i, value i))
