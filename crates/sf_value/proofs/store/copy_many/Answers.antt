use Rattle.std.proofs.Common.{◌≡◌, ◌≤◌, length, arith, ap, ◌∙◌}
use Rattle.std.specs.Str.{bytes_eq}
use Rattle.indexmap.specs.IndexMap.{insert_entry, spare, hasher_of}
use Rattle.sf_value.proofs.SlotLists.{copied}
use Rattle.sf_value.proofs.store.copy_many.Goals as goal

pub loop-key-preserved : goal.loop-key-preserved
loop-key-preserved g c =
    let here : c.deref_mut.result.now ≡ c.loop-key.copies.value = c.deref_mut.ensures.value in
    let key = c.in_ok-copy.field-0 in
    let value = c.in_ok-value.value in
    let room : length c.next.new.self ≤ spare c.insert.new.map =
    omega (
      arith,
      ap length c.in-Some.ensures.steps,
      c.insert.ensures.room,
      ap spare here,
      c.loop-key.invariant.room,
    ) in
    record {
      all = copied c.loop-key.copies.value.entries c.insert.new.map.entries c.loop-key.key-iterator
          c.next.new.self c.args.map.now.entries c.in-Some.key.now key c.in-Some.value.now value
          c.requires.distinct c.loop-key.invariant.all c.in-Some.ensures.steps
          (c.insert.ensures.entries ∙ ap (λ m. insert_entry bytes_eq m.entries key value) here)
          c.in_ok-copy.ensures.copied c.in_ok-value.ensures.copied;
      room = room;
      given = c.insert.ensures.seed ∙ ap hasher_of here ∙ c.loop-key.invariant.given;
    }
