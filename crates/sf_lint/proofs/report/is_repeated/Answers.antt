use Rattle.std.proofs.Common.{◌≡◌, ℕ, ◌<◌, ◌-◌, List, [], true, false, length, refl, sym, ap}
use Rattle.std.proofs.Common.{◌∙◌, arith, map, get_or}
use Rattle.std.specs.Borrow.{Bor}
use Rattle.std.proofs.lemmas.Bool.{false≢true}
use Rattle.std.proofs.lemmas.List.{get_or-map}
use Rattle.sf_lint.specs.Head.{is_start, is_named}
use Rattle.sf_lint.proofs.Lines.{from_less, repeated, unrepeated}
use Rattle.sf_lint.proofs.report.is_repeated.Goals as goal

abbrev text : Bor (List ℕ) → List ℕ
text line = line.now

abbrev empty : Bor (List ℕ)
empty = record { ref_ptr = (0, 0); now = [] }

pub returns-then-is_start : goal.returns-then-is_start
returns-then-is_start c =
    let xs = map text c.args.lines.now in
    let i = c.loop-left.left - 1 in
    let within : i < length c.args.lines.now = omega arith in
    let at = get_or-map text c.args.lines.now i empty [] within in
    let start : is_start (get_or xs i []) ≡ true =
    ap is_start at ∙ sym c.is_start.ensures ∙ c.if-is_start.true in
    let inv = c.loop-left.invariant.unnamed in
    let lt : i < c.args.n = omega arith in (
      λ t. absurd (false≢true t),
      λ r. absurd (
          unrepeated c.args.name.now xs c.args.n i lt start
          (λ k from below. inv k (omega arith) below) r
          ),
    )

pub returns-then-is_named : goal.returns-then-is_named
returns-then-is_named c =
    let xs = map text c.args.lines.now in
    let i = c.loop-left.left - 1 in
    let within : i < length c.args.lines.now = omega arith in
    let at = get_or-map text c.args.lines.now i empty [] within in
    let unstarted : is_start (get_or xs i []) ≡ false =
    ap is_start at ∙ sym c.is_start.ensures ∙ c.if-is_start.false in
    let named : is_named c.args.name.now (get_or xs i []) ≡ true =
    ap (is_named c.args.name.now) at ∙ sym c.is_named.ensures ∙ c.if-is_named.true in
    let inv = c.loop-left.invariant.unstarted in
    let lt : i < c.args.n = omega arith in (
      λ _. repeated c.args.name.now xs c.args.n i lt named unstarted
          (λ k from below. inv k (omega arith) below),
      λ _. refl,
    )

pub loop-left-preserved : goal.loop-left-preserved
loop-left-preserved c =
    let xs = map text c.args.lines.now in
    let i = c.loop-left.left - 1 in
    let within : i < length c.args.lines.now = omega arith in
    let at = get_or-map text c.args.lines.now i empty [] within in
    let unstarted : is_start (get_or xs i []) ≡ false =
    ap is_start at ∙ sym c.is_start.ensures ∙ c.if-is_start.false in
    let unnamed : is_named c.args.name.now (get_or xs i []) ≡ false =
    ap (is_named c.args.name.now) at ∙ sym c.is_named.ensures ∙ c.if-is_named.false in
    record {
      within = omega arith;
      unnamed = from_less (λ k. is_named c.args.name.now (get_or xs k []) ≡ false) c.args.n i
          unnamed (λ k from below. c.loop-left.invariant.unnamed k (omega arith) below);
      unstarted = from_less (λ k. is_start (get_or xs k []) ≡ false) c.args.n i
          unstarted (λ k from below. c.loop-left.invariant.unstarted k (omega arith) below);
    }
