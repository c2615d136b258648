use Rattle.std.proofs.Common.{rules, refl}
use Rattle.sf_write.proofs.Following.{remains_all, remains_less}
use Rattle.sf_write.proofs.Runs.{string_run, string_escape, string_end}
use Rattle.sf_write.proofs.strings.put_string.Goals as goal

pub loop-byte-init : goal.loop-byte-init
loop-byte-init g c =
    record {
      left = remains_less remains_all refl c.put-sent.ensures;
      run = search rules;
      within = search rules;
    }

pub returns-in_default : goal.returns-in_default
returns-in_default g c =
    let split = c.split_at.ensures in
    let run = string_run _ _ _ _ c.loop-byte.invariant.run split.front split.back in
    let left = remains_less c.loop-byte.invariant.left run c.put-sent-in-loop-byte.ensures in
    left.finish _ _ (rw (string_end _ c.in_default.ensures.cases) c.put.ensures)

pub loop-byte-preserved : goal.loop-byte-preserved
loop-byte-preserved g c =
    let split = c.split_at.ensures in
    let run = string_run _ _ _ _ c.loop-byte.invariant.run split.front split.back in
    let left = remains_less c.loop-byte.invariant.left run c.put-sent-in-loop-byte.ensures in
    let byte = string_escape _ _ _ _ _ c.loop-byte.invariant.run split.back
    c.in-Some.ensures.cases.0 in
    record {
      left = remains_less left byte c.put-sent-in-loop-byte-2.ensures;
      run = search rules;
      within = search rules;
    }
