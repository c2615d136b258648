use Rattle.std.proofs.Common.{◌≡◌, ℕ, List, [], ◌++◌, codes, append_assoc}
use Rattle.std.proofs.lemmas.Result.{IfOk-weaker}
use Rattle.sf_use.specs.CacheStatus.Parameters.{boolean_at, integer_at, name_at, text_at, token_at}
use Rattle.sf_lint.specs.Meanings.{ignored_at, status_at}
use Rattle.sf_lint.proofs.ignored.ignored_params.Goals as goal

-- eight texts, each after those before it
in_order : (t0 t1 t2 t3 t4 t5 t6 t7 t8 a b c d e f g h : List ℕ) → t0 ≡ [] → t1 ≡ t0 ++ a
    → t2 ≡ t1 ++ b → t3 ≡ t2 ++ c → t4 ≡ t3 ++ d → t5 ≡ t4 ++ e → t6 ≡ t5 ++ f → t7 ≡ t6 ++ g
    → t8 ≡ t7 ++ h → t8 ≡ a ++ (b ++ (c ++ (d ++ (e ++ (f ++ (g ++ h))))))
in_order t0 t1 t2 t3 t4 t5 t6 t7 t8 a b c d e f g h p0 p1 p2 p3 p4 p5 p6 p7 p8 =
    rw (p8, p7, p6, p5, p4, p3, p2, p1, p0) (simp append_assoc)

pub returns : goal.returns
returns c =
    let s = c.args.settings.now in
    let n = c.args.number in
    let p = c.args.params.now in
    IfOk-weaker c.with_ignored-8.result _ _
    (λ text last. in_order c.new-text.result.items c.in_ok-text.text.items
    c.in_ok-text-2.text.items c.in_ok-text-3.text.items c.in_ok-text-4.text.items
    c.in_ok-text-5.text.items c.in_ok-text-6.text.items c.in_ok-text-7.text.items text.items
    (ignored_at s n p boolean_at (codes "hit"))
    (ignored_at s n p token_at (codes "fwd"))
    (ignored_at s n p status_at (codes "fwd-status"))
    (ignored_at s n p integer_at (codes "ttl"))
    (ignored_at s n p boolean_at (codes "stored"))
    (ignored_at s n p boolean_at (codes "collapsed"))
    (ignored_at s n p text_at (codes "key"))
    (ignored_at s n p name_at (codes "detail"))
    c.new-text.ensures.items c.in_ok-text.ensures c.in_ok-text-2.ensures c.in_ok-text-3.ensures
    c.in_ok-text-4.ensures c.in_ok-text-5.ensures c.in_ok-text-6.ensures c.in_ok-text-7.ensures last)
    c.with_ignored-8.ensures
