use Rattle.std.proofs.Common.{◌∷◌, refl, ap, subst}
use Rattle.std.proofs.lemmas.Result.{err_from_is_err_and}
use Rattle.sf_parse.specs.AllocationFreeParsers.{IsAllocationFree}
use Rattle.sf_field.proofs.Feeding.{behind, fed_first, fed_line, fed_refused, first_refused}
use Rattle.sf_field.proofs.Feeding.{free_first, free_next}
use Rattle.sf_field.proofs.lines.feed_lines.Goals as goal

pub returns-in_err-feed_line-clause-fed : goal.returns-in_err-feed_line-clause-fed
returns-in_err-feed_line-clause-fed g c =
    let p = err_from_is_err_and c.from_residual.result c.from_residual.ensures.1 in
    let others = g.L.FieldLines.lines c.args.others in
    rw (p.1, p.2)
    (first_refused c.args.parser.now c.feed_line.new.self c.in_err-feed_line.field-0.0
    c.args.first.now (c.args.second.now ∷ others) c.requires c.in_err-feed_line.ensures.fed)

pub returns-in_err-feed_line-clause-allocation_free : goal.returns-in_err-feed_line-clause-allocation_free
returns-in_err-feed_line-clause-allocation_free g c =
    let p = err_from_is_err_and c.from_residual.result c.from_residual.ensures.1 in
    let others = g.L.FieldLines.lines c.args.others in
    rw (p.1, p.2)
    (λ h. c.in_err-feed_line.ensures.allocation_free _
    (free_first c.args.parser.now c.args.first.now (c.args.second.now ∷ others) c.requires h))

pub returns-in_err-feed_line-2-clause-fed : goal.returns-in_err-feed_line-2-clause-fed
returns-in_err-feed_line-2-clause-fed g c =
    let p = err_from_is_err_and c.from_residual-in_err-feed_line-2.result
    c.from_residual-in_err-feed_line-2.ensures.1 in
    let others = g.L.FieldLines.lines c.args.others in
    let first = fed_first c.args.parser.now c.feed_line.new.self c.args.first.now
    (c.args.second.now ∷ others) c.requires c.in_ok-feed_line.ensures.lines
    c.in_ok-feed_line.ensures.fed in
    rw (p.1, p.2)
    (fed_refused _ c.feed_line.new.self _ _ _ _ _ _ first refl c.in_err-feed_line-2.ensures.fed)

pub returns-in_err-feed_line-2-clause-allocation_free : goal.returns-in_err-feed_line-2-clause-allocation_free
returns-in_err-feed_line-2-clause-allocation_free g c =
    let p = err_from_is_err_and c.from_residual-in_err-feed_line-2.result
    c.from_residual-in_err-feed_line-2.ensures.1 in
    let others = g.L.FieldLines.lines c.args.others in
    rw (p.1, p.2)
    (λ h. c.in_err-feed_line-2.ensures.allocation_free _
    (free_next c.feed_line.new.self (c.args.second.now ∷ others) c.in_ok-feed_line.ensures.lines
    (c.in_ok-feed_line.ensures.allocation_free _
    (free_first c.args.parser.now c.args.first.now (c.args.second.now ∷ others) c.requires h))))

pub loop-line-init : goal.loop-line-init
loop-line-init g c =
    let others = g.L.FieldLines.lines c.args.others in
    let first = fed_first c.args.parser.now c.feed_line.new.self c.args.first.now
    (c.args.second.now ∷ others) c.requires c.in_ok-feed_line.ensures.lines
    c.in_ok-feed_line.ensures.fed in
    record {
      so_far =
          fed_line _ _ c.feed_line-2.new.self _ _ c.args.second.now others
          c.feed_line.new.self.after_line c.in_ok-feed_line-2.ensures.lines first refl
          c.in_ok-feed_line-2.ensures.fed;
      allocation_free = λ h.
          free_next c.feed_line-2.new.self others c.in_ok-feed_line-2.ensures.lines
          (c.in_ok-feed_line-2.ensures.allocation_free _
          (free_next c.feed_line.new.self (c.args.second.now ∷ others)
          c.in_ok-feed_line.ensures.lines
          (c.in_ok-feed_line.ensures.allocation_free _
          (free_first c.args.parser.now c.args.first.now (c.args.second.now ∷ others) c.requires
          h))));
    }

pub loop-line-preserved : goal.loop-line-preserved
loop-line-preserved g c =
    let after = c.loop-line.parser.after_line in
    let next = ap (behind after) c.in-Some.ensures in
    record {
      so_far =
          fed_line _ _ c.feed_line-in-Some.new.self _ _ c.in-Some.line.now _ after
          c.in_ok-feed_line-3.ensures.lines c.loop-line.invariant.so_far next
          c.in_ok-feed_line-3.ensures.fed;
      allocation_free = λ h.
          free_next c.feed_line-in-Some.new.self _ c.in_ok-feed_line-3.ensures.lines
          (c.in_ok-feed_line-3.ensures.allocation_free _
          (subst (IsAllocationFree c.loop-line.parser) next
          (c.loop-line.invariant.allocation_free h)));
    }

pub returns-in_err-feed_line-3-clause-fed : goal.returns-in_err-feed_line-3-clause-fed
returns-in_err-feed_line-3-clause-fed g c =
    let p = err_from_is_err_and c.from_residual-in_err-feed_line-3.result
    c.from_residual-in_err-feed_line-3.ensures.1 in
    let next = ap (behind c.loop-line.parser.after_line) c.in-Some.ensures in
    rw (p.1, p.2)
    (fed_refused _ c.loop-line.parser _ _ _ _ _ _ c.loop-line.invariant.so_far next
    c.in_err-feed_line-3.ensures.fed)

pub returns-in_err-feed_line-3-clause-allocation_free : goal.returns-in_err-feed_line-3-clause-allocation_free
returns-in_err-feed_line-3-clause-allocation_free g c =
    let p = err_from_is_err_and c.from_residual-in_err-feed_line-3.result
    c.from_residual-in_err-feed_line-3.ensures.1 in
    let next = ap (behind c.loop-line.parser.after_line) c.in-Some.ensures in
    rw (p.1, p.2)
    (λ h. c.in_err-feed_line-3.ensures.allocation_free _
    (subst (IsAllocationFree c.loop-line.parser) next
    (c.loop-line.invariant.allocation_free h)))
