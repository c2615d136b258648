use Rattle.std.proofs.Common.{◌≡◌, take, length, sym, subst, arith}
use Rattle.std.proofs.lemmas.List.{length-take-le, take-take}
use Rattle.sf_value.specs.Grammar.Words.{Every}
use Rattle.sf_value.proofs.Runs.{every_block, lacks_within, lacks_after}
use Rattle.sf_value.proofs.classes.long_run.Goals as goal

pub slice_bounds-lanes_run-end : goal.slice_bounds-lanes_run-end
slice_bounds-lanes_run-end g c =
    sym (length-take-le 48 c.args.text.now (let h = c.if-text-le-NEAR.false in omega arith))

pub returns-then-run-lt-NEAR-clause-every : goal.returns-then-run-lt-NEAR-clause-every
returns-then-run-lt-NEAR-clause-every g c =
    let run = c.lanes_run-run.result in
    subst (Every g.C.ByteClass.test)
    (take-take run 48 c.args.text.now (let h = c.if-run-lt-NEAR.true in omega arith))
    c.lanes_run-run.ensures.every

pub returns-clause-every : goal.returns-clause-every
returns-clause-every g c =
    let run = c.lanes_run-run.result in
    let whole : length (take 48 c.args.text.now) ≡ 48 =
    length-take-le 48 c.args.text.now (let h = c.if-text-le-NEAR.false in omega arith) in
    let all : run ≡ 48 =
    let h = c.lanes_run-run.ensures.within in
    let k = c.if-run-lt-NEAR.false in
    omega (arith, whole) in
    let near : Every g.C.ByteClass.test (take run c.args.text.now) =
    subst (Every g.C.ByteClass.test) (take-take run 48 c.args.text.now (omega (arith, all)))
    c.lanes_run-run.ensures.every in
    every_block g.C.ByteClass.test c.args.text.now 48 _
    (subst (λ n. Every g.C.ByteClass.test (take n c.args.text.now)) all near)
    c.far_run.ensures.every

pub returns-then-run-lt-NEAR-clause-longest : goal.returns-then-run-lt-NEAR-clause-longest
returns-then-run-lt-NEAR-clause-longest g c =
    lacks_within g.C.ByteClass.test c.lanes_run-run.result 48 c.args.text.now
    (let h = c.if-run-lt-NEAR.true in omega arith) c.lanes_run-run.ensures.longest

pub returns-clause-longest : goal.returns-clause-longest
returns-clause-longest g c =
    lacks_after g.C.ByteClass.test c.far_run.result 48 c.args.text.now c.far_run.ensures.longest
