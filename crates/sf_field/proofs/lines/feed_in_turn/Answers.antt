use Rattle.std.proofs.Common.{[], sym, ap, ◌∙◌, subst}
use Rattle.std.proofs.lemmas.Result.{err_from_is_err_and}
use Rattle.sf_value.specs.Grammar.Lines.{join}
use Rattle.sf_parse.specs.AllocationFreeParsers.{IsAllocationFree}
use Rattle.sf_parse.proofs.FedLines.{fed_before}
use Rattle.sf_field.proofs.Feeding.{FedSoFar, behind, joined, fed_nothing, fed_line, fed_refused}
use Rattle.sf_field.proofs.Feeding.{free_next}
use Rattle.sf_field.proofs.lines.feed_in_turn.Goals as goal

pub returns-in_err-feed-clause-fed : goal.returns-in_err-feed-clause-fed
returns-in_err-feed-clause-fed g c =
    let p = err_from_is_err_and c.from_residual.result c.from_residual.ensures.1 in
    rw (p.1, p.2)
    (fed_before c.args.parser.now c.feed.new.self c.in_err-feed.field-0.0 []
    (join (g.L.FieldLines.lines c.args.lines)) c.in_err-feed.ensures.fed)

pub returns-in_err-feed-clause-allocation_free : goal.returns-in_err-feed-clause-allocation_free
returns-in_err-feed-clause-allocation_free g c =
    let p = err_from_is_err_and c.from_residual.result c.from_residual.ensures.1 in
    rw (p.1, p.2) (λ h. c.in_err-feed.ensures.allocation_free _ h)

pub loop-line-init : goal.loop-line-init
loop-line-init g c =
    let all = g.L.FieldLines.lines c.args.lines in
    let flag = c.in_ok-feed.ensures.lines ∙ c.requires in
    let left = joined all ∙ ap (λ b. behind b all) (sym flag) in
    record {
      so_far =
          subst (FedSoFar c.args.parser.now c.feed.new.self (join all)) left
          (fed_nothing _ _ _ c.in_ok-feed.ensures.fed);
      allocation_free = λ h.
          subst (IsAllocationFree c.feed.new.self) left
          (c.in_ok-feed.ensures.allocation_free (join all) h);
    }

pub returns-in_err-feed_line-clause-fed : goal.returns-in_err-feed_line-clause-fed
returns-in_err-feed_line-clause-fed g c =
    let p = err_from_is_err_and c.from_residual-in_err-feed_line.result
    c.from_residual-in_err-feed_line.ensures.1 in
    let next = ap (behind c.loop-line.parser.after_line) c.in-Some.ensures in
    rw (p.1, p.2)
    (fed_refused _ c.loop-line.parser _ _ _ _ _ _ c.loop-line.invariant.so_far next
    c.in_err-feed_line.ensures.fed)

pub returns-in_err-feed_line-clause-allocation_free : goal.returns-in_err-feed_line-clause-allocation_free
returns-in_err-feed_line-clause-allocation_free g c =
    let p = err_from_is_err_and c.from_residual-in_err-feed_line.result
    c.from_residual-in_err-feed_line.ensures.1 in
    let next = ap (behind c.loop-line.parser.after_line) c.in-Some.ensures in
    rw (p.1, p.2)
    (λ h. c.in_err-feed_line.ensures.allocation_free _
    (subst (IsAllocationFree c.loop-line.parser) next
    (c.loop-line.invariant.allocation_free h)))

pub loop-line-preserved : goal.loop-line-preserved
loop-line-preserved g c =
    let after = c.loop-line.parser.after_line in
    let next = ap (behind after) c.in-Some.ensures in
    record {
      so_far =
          fed_line _ _ c.feed_line.new.self _ _ c.in-Some.line.now _ after
          c.in_ok-feed_line.ensures.lines c.loop-line.invariant.so_far next
          c.in_ok-feed_line.ensures.fed;
      allocation_free = λ h.
          free_next c.feed_line.new.self _ c.in_ok-feed_line.ensures.lines
          (c.in_ok-feed_line.ensures.allocation_free _
          (subst (IsAllocationFree c.loop-line.parser) next
          (c.loop-line.invariant.allocation_free h)));
    }
