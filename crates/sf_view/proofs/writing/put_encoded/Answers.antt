use Rattle.std.proofs.Common.{ap, ◌∙◌}
use Rattle.sf_value.specs.Grammar.Canonical.{canon_shown}
use Rattle.sf_write.proofs.Following.{remains_less}
use Rattle.sf_view.proofs.Writes.{shown_byte}
use Rattle.sf_view.proofs.writing.put_encoded.Goals as goal

pub returns-in_default : goal.returns-in_default
returns-in_default g c = λ t h.
    let w = c.loop-byte.invariant t h in
    let r = c.canonical_prefix.ensures.run w.left w.remains in
    let left = remains_less w.unsent r.canonical c.put-sent.ensures in
    left.finish _ _ (rw (c.in_default.ensures.none r.left r.remains) c.put.ensures)

pub loop-byte-preserved : goal.loop-byte-preserved
loop-byte-preserved g c = λ t h.
    let w = c.loop-byte.invariant t h in
    let r = c.canonical_prefix.ensures.run w.left w.remains in
    let b = c.in-Some.ensures.some r.left r.remains in
    record {
      left = b.left;
      remains = b.remains;
      unsent = remains_less (remains_less w.unsent r.canonical c.put-sent.ensures)
          (ap canon_shown b.split ∙ shown_byte c.in-Some.byte b.left) c.put_shown_byte-sent.ensures;
    }
