use Rattle.std.proofs.Common.{◌≤◌, arith}
use Rattle.std.specs.Vec.Iter.{into_iter_items, into_iter_len}
use Rattle.indexmap.specs.IndexMap.{spare}
use Rattle.sf_value.proofs.SlotLists.{filled-step}
use Rattle.sf_value.proofs.store.fill.Goals as goal

pub loop-slot-preserved : goal.loop-slot-preserved
loop-slot-preserved g c =
    let room : into_iter_len c.next.new.self ≤ spare c.insert.new.map =
    omega (arith, c.in-Some.ensures.steps.1, c.insert.ensures.room, c.loop-slot.invariant.room) in
    record {
      all = filled-step (into_iter_items c.loop-slot.slot-iterator)
          (into_iter_items c.next.new.self) c.in-Some.slot c.loop-slot.map.entries _ _
          c.requires.distinct c.loop-slot.invariant.all c.in-Some.ensures.steps.0
          c.insert.ensures.entries;
      room = room;
    }
