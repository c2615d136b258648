use Rattle.std.proofs.Common.{◌≡◌, ℕ, true, List, [], length, sym, ap, ◌∙◌, arith, map}
use Rattle.std.proofs.Common.{get_or}
use borrow.Author.Count.{below_more}
use Rattle.std.proofs.Math.Seq.{take-length}
use Rattle.std.proofs.lemmas.List.{get_or-map, length-map, take-map}
use Rattle.std.proofs.lemmas.List.Sums.{position_or_len_is}
use Rattle.std.specs.Borrow.{Bor}
use Rattle.std.specs.List.{position_or_len}
use Rattle.sf_lint.specs.Head.{is_start}
use Rattle.sf_lint.proofs.report.message_in.Goals as goal

abbrev text : Bor (List ℕ) → List ℕ
text line = line.now

abbrev empty : Bor (List ℕ)
empty = record { ref_ptr = (0, 0); now = [] }

pub returns-then-is_start : goal.returns-then-is_start
returns-then-is_start c =
    let xs = map text c.args.lines.now in
    let i = c.loop-i.i in
    let size = length-map c.args.lines.now text in
    let at = get_or-map text c.args.lines.now i empty [] c.loop-i-test.true in
    let passes : is_start (get_or xs i []) ≡ true =
    ap is_start at ∙ sym c.is_start.ensures ∙ c.if-is_start.true in
    let first : position_or_len is_start xs ≡ i =
    position_or_len_is is_start xs i [] (omega arith) c.loop-i.invariant (λ _. passes) in
    rw first (sym (take-map text i c.args.lines.now))

pub loop-i-preserved : goal.loop-i-preserved
loop-i-preserved c =
    let at = get_or-map text c.args.lines.now c.loop-i.i empty [] c.loop-i-test.true in
    below_more _ _ c.loop-i.invariant
    (ap is_start at ∙ sym c.is_start.ensures ∙ c.if-is_start.false)

pub returns : goal.returns
returns c =
    let xs = map text c.args.lines.now in
    let size = length-map c.args.lines.now text in
    let first : position_or_len is_start xs ≡ length xs =
    position_or_len_is is_start xs (length xs) [] (omega arith)
    (λ k h. c.loop-i.invariant k (omega arith)) (λ h. absurd (omega arith)) in
    rw first (sym (take-length xs))
