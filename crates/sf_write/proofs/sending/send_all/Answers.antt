use Rattle.std.proofs.Common.{◌<◌, Err, rules, arith, length, length-take}
use Rattle.std.proofs.lemmas.List.{nil_from_length}
use Rattle.sf_write.proofs.Joining.{unwritten_all, unwritten_less, sent_once, refused_once, unwritten_none}
use Rattle.sf_write.proofs.Joining.{uncalled_all, uncalled_less, uncalled_none}
use Rattle.sf_write.proofs.sending.send_all.Goals as goal

pub loop-rest-init : goal.loop-rest-init
loop-rest-init g c = record { written = unwritten_all _ _ _ (omega arith); calls = uncalled_all }

pub loop-rest-preserved : goal.loop-rest-preserved
loop-rest-preserved g c =
    let sent = c.in-Ok.ensures.sends in
    record {
      written = unwritten_less _ c.loop-rest.invariant.written (search rules)
          (sent_once sent.2 (rw length-take (search rules)));
      calls = uncalled_less c.loop-rest.invariant.calls (search rules) c.in-Ok.ensures.gives;
    }

pub returns-in-Err-clause-writes : goal.returns-in-Err-clause-writes
returns-in-Err-clause-writes g c =
    let some : 0 < length c.loop-rest.rest.now = search rules in
    let left = c.loop-rest.invariant.written in
    left.finish _ (Err (record { written = c.loop-rest.written }))
    (refused_once left.counted some c.in-Err.ensures.sends.1)

pub returns-clause-writes : goal.returns-clause-writes
returns-clause-writes g c =
    unwritten_none c.loop-rest.invariant.written (nil_from_length _ (search rules))

pub returns-clause-calls : goal.returns-clause-calls
returns-clause-calls g c =
    uncalled_none c.loop-rest.invariant.calls (nil_from_length _ (search rules))
