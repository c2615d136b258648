use Rattle.std.proofs.Common.{◌≡◌, ◌<◌, ◌≤◌, length, arith, refl, sym, ap, subst, ◌∙◌, length-append, None}
use Rattle.std.proofs.lemmas.Grind.{common_steps}
use Rattle.std.specs.List.{slice_set}
use Rattle.std.specs.Str.{bytes_eq}
use Rattle.indexmap.specs.IndexMap.{insert_entry}
use Rattle.sf_value.specs.declared.store.Slot.{Slot}
use Rattle.sf_value.specs.declared.store.Store.TheVariants as store
use Rattle.sf_value.specs.Grammar.Pairs.{value_at}
use Rattle.sf_value.specs.Stores.{slot_pairs, stored, HasPlace}
use Rattle.sf_value.proofs.SlotLists.{searched, value_missing, replaced}
use Rattle.sf_value.proofs.SlotLists.{added_last, settled, stay_entries}
use Rattle.sf_value.proofs.store.Store.set_named.Goals as goal

pub returns-then-at-len : goal.returns-then-at-len
returns-then-at-len g c =
    let k = c.args.key.now in
    let v = c.args.value in
    let i = c.in_ok-at.at in
    let ps = stored c.args.self.now in
    let ss = c.in-Few.slots.items in
    let slot = c.index_mut.result.now in
    let e = c.overwrite.new.slot in
    let before : slot_pairs ss ≡ ps = rw c.in-Few.is at c.reserve.ensures.same in
    let place : HasPlace k i (store.Few c.in-Few.slots) =
    rw c.in-Few.is at (c.in_ok-at.ensures.place c.if-at-ge-MAX_SLOTS.false) in
    let less : i < length ss = omega (arith, c.if-at-len.true, c.len.ensures) in
    let found = searched k k ss ss _ (sym (place.0 less)) refl refl in
    let put : slot_pairs (slice_set ss i e) ≡ insert_entry bytes_eq ps k v =
    replaced k ss i slot e v found c.index_mut.ensures.value c.overwrite.ensures.key c.overwrite.ensures.value
    ∙ ap (λ qs. insert_entry bytes_eq qs k v) before in
    record {
      entries = stay_entries k v ps _ c.requires.entries c.requires.key put;
      seed = grind (arith, common_steps, less);
      new = settled k v ps _ c.requires.entries put;
      same = tt;
      absent = tt;
    }

pub returns : goal.returns
returns g c =
    let k = c.args.key.now in
    let v = c.args.value in
    let i = c.in_ok-at.at in
    let ps = stored c.args.self.now in
    let ss = c.in-Few.slots.items in
    let slot : Slot _ = record { key = c.from_bytes.result; value = v; seed = c.seed-seed.result } in
    let before : slot_pairs ss ≡ ps = rw c.in-Few.is at c.reserve.ensures.same in
    let place : HasPlace k i (store.Few c.in-Few.slots) =
    rw c.in-Few.is at (c.in_ok-at.ensures.place c.if-at-ge-MAX_SLOTS.false) in
    let last : length ss ≤ i = omega (arith, c.if-at-len.false, c.len.ensures) in
    let missing = searched k k ss ss _ (sym (place.1 last).0) refl refl in
    let new : value_at k ps ≡ None =
    subst (λ qs. value_at k qs ≡ None) before (value_missing k ss missing) in
    let key = c.from_bytes.ensures ∙ c.in-Ok.ensures.bytes in
    let put : slot_pairs c.push_reserved.new.self.items ≡ insert_entry bytes_eq ps k v =
    added_last k ps ss _ slot before new key c.push_reserved.ensures.items in
    let more : 0 < length c.push_reserved.new.self.items =
    rw (c.push_reserved.ensures.items, length-append {A = Slot _}) (omega arith) in
    record {
      entries = stay_entries k v ps _ c.requires.entries c.requires.key put;
      seed = more;
      new = settled k v ps _ c.requires.entries put;
      same = tt;
      absent = tt;
    }
