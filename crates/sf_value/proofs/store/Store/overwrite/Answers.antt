use Rattle.std.proofs.Common.{refl}
use Rattle.sf_value.specs.Entries.{AreEntries}
use Rattle.sf_value.specs.Stores.{slot_pairs}
use Rattle.sf_value.proofs.SlotLists.{searched, value_missing}
use Rattle.sf_value.proofs.SlotLists.{replaced, settled, stay_entries}
use Rattle.sf_value.proofs.store.Store.overwrite.Goals as goal

pub returns-in-Few-clause-entries : goal.returns-in-Few-clause-entries
returns-in-Few-clause-entries g c =
    let k = c.args.key.now in
    let ss = c.in-Few.slots.items in
    let found = searched _ k _ ss _ c.in-Some.ensures refl c.deref.ensures.value in
    let slot = c.index_mut.result.now in
    let here : AreEntries (slot_pairs ss) = rw c.in-Few.is at c.requires.entries in
    stay_entries k c.args.value (slot_pairs ss) _ here c.requires.key
    (replaced k ss c.in-Some.present slot _ _ found c.index_mut.ensures.value c.overwrite.ensures.key c.overwrite.ensures.value)

pub returns-in-Few-clause-new : goal.returns-in-Few-clause-new
returns-in-Few-clause-new g c =
    let k = c.args.key.now in
    let ss = c.in-Few.slots.items in
    let found = searched _ k _ ss _ c.in-Some.ensures refl c.deref.ensures.value in
    let slot = c.index_mut.result.now in
    let here : AreEntries (slot_pairs ss) = rw c.in-Few.is at c.requires.entries in
    rw c.in-Few.is
    (settled k c.args.value (slot_pairs ss) _ here
    (replaced k ss c.in-Some.present slot _ _ found c.index_mut.ensures.value c.overwrite.ensures.key c.overwrite.ensures.value))

pub returns-in_default-clause-absent : goal.returns-in_default-clause-absent
returns-in_default-clause-absent g c =
    let k = c.args.key.now in
    let ss = c.in-Few.slots.items in
    rw c.in-Few.is
    (value_missing k ss (searched _ k _ ss _ c.in_default.ensures refl c.deref.ensures.value))
