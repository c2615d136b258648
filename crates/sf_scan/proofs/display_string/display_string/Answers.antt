use Rattle.std.proofs.Common.{refl}
use Rattle.std.proofs.lemmas.Result.{err_from_is_err_and}
use Rattle.sf_scan.proofs.ShownStops.{reached_first, reached_more, refused_quote, refused_between}
use Rattle.sf_scan.proofs.ShownStops.{refused_escape, shown_read}
use Rattle.sf_scan.specs.DisplayStrings.{PastEscape}
use Rattle.sf_scan.proofs.display_string.display_string.Goals as goal
use Rattle.sf_scan.proofs.display_string.display_string.Goals.{in-Some-past_escape}
use Rattle.sf_scan.proofs.display_string.display_string.Goals.{in-None+in_ok-next-in-None}

pub returns-in_default : goal.returns-in_default
returns-in_default c = λ d e. refused_quote d e _ c.in_default.ensures refl

pub loop-escape-init : goal.loop-escape-init
loop-escape-init c = reached_first _ _ c.after_unencoded-left.ensures

pub loop-escape-preserved : goal.loop-escape-preserved
loop-escape-preserved c =
    let next = c.match-past_escape.next in
    let past : PastEscape c.loop-escape.chars c.in-Some-strip_byte.escape.now next.0 next.1.now =
    elim c.match-past_escape.branch [
      | in-Some-past_escape w ↦ rw w.next-is w.in-Some-past_escape.ensures
      | in-None+in_ok-next-in-None w ↦ rw w.next-is w.in_ok-next-in-None.ensures
    ] in
    reached_more _ _ _ _ _ _ _ c.loop-escape.invariant c.in-Some-strip_byte.ensures past
    c.after_unencoded-left-in-Some-strip_byte.ensures

pub returns-in_err-next-in-None : goal.returns-in_err-next-in-None
returns-in_err-next-in-None c = λ d e.
    let p = err_from_is_err_and c.from_residual.result c.from_residual.ensures.1 in
    rw (p.1, p.2) (refused_escape d e _ _ _ _ _ _ c.in-Some.ensures c.loop-escape.invariant
    c.in-Some-strip_byte.ensures c.in_err-next-in-None.ensures)

pub returns-in_default-after_quote : goal.returns-in_default-after_quote
returns-in_default-after_quote c = λ d e.
    refused_between d e _ _ _ _ c.in-Some.ensures c.loop-escape.invariant c.in_default-strip_byte.ensures
    c.in_default-after_quote.ensures refl

pub returns : goal.returns
returns c = λ d e.
    shown_read d e _ _ _ c.split_at.result.0.now _ _ _ c.in-Some.ensures c.loop-escape.invariant
    c.in-Some-after_quote.ensures c.split_at.ensures.front refl refl
