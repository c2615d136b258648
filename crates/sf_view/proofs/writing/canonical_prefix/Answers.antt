use Rattle.std.proofs.Common.{rules}
use Rattle.sf_view.proofs.Writes.{canonical_none, canonical_plain, canonical_escape}
use Rattle.sf_view.proofs.Writes.{canonical_cut}
use Rattle.sf_view.proofs.writing.canonical_prefix.Goals as goal

pub loop-later-init : goal.loop-later-init
loop-later-init c = canonical_none c.args.text.now

pub loop-later-preserved : goal.loop-later-preserved
loop-later-preserved c =
    let plain = canonical_plain c.args.text.now c.loop-later.rest.now c.long_prefix.result.0.now
    c.long_prefix.result.1.now c.loop-later.invariant c.long_prefix.ensures.whole
    c.long_prefix.ensures.every in
    canonical_escape c.args.text.now c.long_prefix.result.1.now c.in-Some.later.now plain
    c.in-Some.ensures.escape

pub returns-in_default-clause-run : goal.returns-in_default-clause-run
returns-in_default-clause-run c =
    let plain = canonical_plain c.args.text.now c.loop-later.rest.now c.long_prefix.result.0.now
    c.long_prefix.result.1.now c.loop-later.invariant c.long_prefix.ensures.whole
    c.long_prefix.ensures.every in
    canonical_cut c.args.text.now c.long_prefix.result.1.now _ _ _ plain (search rules)
    c.split_at.ensures.front c.split_at.ensures.back
