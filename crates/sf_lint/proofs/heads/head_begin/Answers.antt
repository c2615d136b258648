use Rattle.std.proofs.Common.{◌≡◌, ℕ, suc, ◌<◌, ◌-◌, List, [], true, false, length, sym, ap, ◌∙◌}
use Rattle.std.proofs.Common.{arith, map, get_or}
use Rattle.std.specs.Borrow.{Bor}
use Rattle.std.proofs.lemmas.List.{get_or-map}
use Rattle.sf_lint.specs.Head.{is_start}
use Rattle.sf_lint.proofs.HeadBounds.{begins-before, begins-here}
use Rattle.sf_lint.proofs.heads.head_begin.Goals as goal

abbrev text : Bor (List ℕ) → List ℕ
text line = line.now

abbrev empty : Bor (List ℕ)
empty = record { ref_ptr = (0, 0); now = [] }

pub returns-then-is_start-clause-value : goal.returns-then-is_start-clause-value
returns-then-is_start-clause-value c =
    let xs = map text c.args.lines.now in
    let i = c.loop-left.left - 1 in
    let within : i < length c.args.lines.now = omega arith in
    let at = get_or-map text c.args.lines.now i empty [] within in
    let start : is_start (get_or xs i []) ≡ true =
    ap is_start at ∙ sym c.is_start.ensures ∙ c.if-is_start.true in
    let next : c.loop-left.left ≡ suc i = omega arith in
    sym (c.loop-left.invariant.same ∙ begins-here xs c.loop-left.left i next start)

pub loop-left-preserved : goal.loop-left-preserved
loop-left-preserved c =
    let xs = map text c.args.lines.now in
    let i = c.loop-left.left - 1 in
    let within : i < length c.args.lines.now = omega arith in
    let at = get_or-map text c.args.lines.now i empty [] within in
    let unstarted : is_start (get_or xs i []) ≡ false =
    ap is_start at ∙ sym c.is_start.ensures ∙ c.if-is_start.false in
    let next : c.loop-left.left ≡ suc i = omega arith in
    record {
      within = omega arith;
      same = c.loop-left.invariant.same
          ∙ begins-before xs c.loop-left.left i next unstarted;
    }
