use Rattle.std.proofs.Common.{rules, arith, ◌≡◌, ◌≤◌, ◌+◌, ◌<◌, ◌^◌, length, take, drop}
use Rattle.std.proofs.Common.{length-take}
use Rattle.std.proofs.lemmas.Result.{err_from_is_err_and}
use Rattle.std.proofs.lemmas.List.{take-append-le}
use Rattle.sf_value.specs.Devices.{capped}
use Rattle.sf_parse.proofs.Readings.{reads_start, reads_more, reads_refused, reads_failed}
use Rattle.sf_parse.proofs.Readings.{reads_full, reads_ended}
use Rattle.sf_parse.proofs.reader.parse_reader.Goals.{else-loop-given-test}
use Rattle.sf_parse.proofs.reader.parse_reader.Goals.{then-loop-given-test+in-Ok-eq0}
use Rattle.sf_parse.proofs.reader.parse_reader.Goals as goal

pub loop-given-init : goal.loop-given-init
loop-given-init g c =
    let new = c.new-parser.ensures in (
      reads_start _ c.args.kind c.args.max _ new.took new.dialect new.kind new.max
          new.allocation_free,
      search rules,
    )

pub returns-in_err-feed-in-Ok : goal.returns-in_err-feed-in-Ok
returns-in_err-feed-in-Ok g c =
    let p = err_from_is_err_and c.from_residual.result c.from_residual.ensures.1 in
    let n = c.in-Ok.n in
    let block = c.pull.new.block in
    let chunk = take n block in
    let some : 0 < n = omega arith in
    let bound : c.loop-given.given + length chunk ≤ capped (c.args.max + 1) =
    simp length-take (search rules) in
    let here = take-append-le n block (drop c.min-length.result c.loop-given.block) c.in-Ok.ensures.0
    in
    rw (p.1, p.2)
    (reads_refused _ _ _ c.args.kind c.args.max c.loop-given.given _ _ chunk _
    c.loop-given.invariant.0
    (c.in-Ok.ensures.1 some) bound (rw here at c.in_err-feed-in-Ok.ensures.fed)
    (λ more h. rw here at (c.in_err-feed-in-Ok.ensures.allocation_free more) h))

pub loop-given-preserved : goal.loop-given-preserved
loop-given-preserved g c =
    let n = c.in-Ok.n in
    let block = c.pull.new.block in
    let chunk = take n block in
    let some : 0 < n = omega arith in
    let size : length chunk ≡ n = simp length-take (search rules) in
    let here = take-append-le n block (drop c.min-length.result c.loop-given.block) c.in-Ok.ensures.0
    in (
      reads_more _ _ _ c.args.kind c.args.max c.loop-given.given n _ _ chunk
          c.loop-given.invariant.0
          (c.in-Ok.ensures.1 some) size (rw here at c.in_ok-feed-in-Ok.ensures.fed)
          (λ more h. rw here at (c.in_ok-feed-in-Ok.ensures.allocation_free more) h),
      search rules,
    )

pub returns-in-Err : goal.returns-in-Err
returns-in-Err g c =
    reads_failed _ _ _ c.args.kind c.args.max c.loop-given.given _ c.loop-given.invariant.0
    c.in-Err.ensures.1

pub returns : goal.returns
returns g c =
    let small : c.args.max < 2 ^ 64 = omega arith in
    elim c.loop-given-test.branch [
      | else-loop-given-test w ↦ rw w.reader-is
          (reads_full _ _ c.args.kind c.args.max c.loop-given.given c.saturating_add-limit.result _
          c.finish.result
          c.loop-given.invariant.0 small (search rules) w.loop-given-test.false
          c.finish.ensures.allocation_free c.finish.ensures.ended)
      | then-loop-given-test+in-Ok-eq0 w ↦ rw w.reader-is
          (reads_ended _ _ _ c.args.kind c.args.max c.loop-given.given _ c.finish.result
          c.loop-given.invariant.0 small
          (w.in-Ok-eq0.ensures.2 w.in-Ok-eq0.field-0-test (search rules))
          c.finish.ensures.allocation_free c.finish.ensures.ended)
    ]
