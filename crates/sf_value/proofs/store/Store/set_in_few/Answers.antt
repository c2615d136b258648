use Rattle.std.proofs.Common.{[], refl, OnErr, Result, Ok, Err}
use Rattle.sf_value.specs.declared.store.Slot.{Slot}
use Rattle.sf_value.specs.Entries.{AreEntries}
use Rattle.sf_value.specs.Stores.{slot_pairs}
use Rattle.sf_value.proofs.EntryMaps.{AreEntries-none}
use Rattle.sf_value.proofs.SlotLists.{searched, value_missing, added_first}
use Rattle.sf_value.proofs.SlotLists.{replaced, added, settled, stay_entries}
use Rattle.sf_value.proofs.store.Store.set_in_few.Goals as goal

pub returns-in-Fresh-clause-entries : goal.returns-in-Fresh-clause-entries
returns-in-Fresh-clause-entries g c =
    let k = c.args.key in
    let slot : Slot _ = record { key = k; value = c.args.value; seed = c.in-Fresh.seed } in
    stay_entries k c.args.value [] _ AreEntries-none c.as_bytes.ensures.key
    (added_first k c.new-slots.result.items c.add.new.slots.items slot c.new-slots.ensures.items refl
    c.in_ok-add-in-Fresh.ensures.added)

pub returns-in-Some-clause-entries : goal.returns-in-Some-clause-entries
returns-in-Some-clause-entries g c =
    let k = c.args.key in
    let ss = c.in-Few.slots.items in
    let found = searched _ k _ ss _ c.in-Some.ensures c.as_bytes-in-Few.ensures.bytes c.deref.ensures.value in
    let slot = c.index_mut.result.now in
    let here : AreEntries (slot_pairs ss) = rw c.in-Few.is at c.requires.entries in
    stay_entries k c.args.value (slot_pairs ss) _ here c.as_bytes-in-Few.ensures.key
    (replaced k ss c.in-Some.place slot _ _ found c.index_mut.ensures.value c.overwrite.ensures.key c.overwrite.ensures.value)

pub returns-in-Some-clause-new : goal.returns-in-Some-clause-new
returns-in-Some-clause-new g c =
    let k = c.args.key in
    let ss = c.in-Few.slots.items in
    let found = searched _ k _ ss _ c.in-Some.ensures c.as_bytes-in-Few.ensures.bytes c.deref.ensures.value in
    let slot = c.index_mut.result.now in
    let here : AreEntries (slot_pairs ss) = rw c.in-Few.is at c.requires.entries in
    rw c.in-Few.is
    (settled k c.args.value (slot_pairs ss) _ here
    (replaced k ss c.in-Some.place slot _ _ found c.index_mut.ensures.value c.overwrite.ensures.key c.overwrite.ensures.value))

pub returns-then-len-lt-MAX_SLOTS-clause-entries : goal.returns-then-len-lt-MAX_SLOTS-clause-entries
returns-then-len-lt-MAX_SLOTS-clause-entries g c =
    let k = c.args.key in
    let ss = c.in-Few.slots.items in
    let missing = searched _ k _ ss _ c.in_default.ensures c.as_bytes-in-Few.ensures.bytes c.deref.ensures.value in
    let here : AreEntries (slot_pairs ss) = rw c.in-Few.is at c.requires.entries in
    stay_entries k c.args.value (slot_pairs ss) _ here c.as_bytes-in-Few.ensures.key
    (added k ss _ _ missing refl c.in_ok-add-in-Few.ensures.added)

pub returns-then-len-lt-MAX_SLOTS-clause-new : goal.returns-then-len-lt-MAX_SLOTS-clause-new
returns-then-len-lt-MAX_SLOTS-clause-new g c =
    let k = c.args.key in
    let ss = c.in-Few.slots.items in
    let missing = searched _ k _ ss _ c.in_default.ensures c.as_bytes-in-Few.ensures.bytes c.deref.ensures.value in
    let here : AreEntries (slot_pairs ss) = rw c.in-Few.is at c.requires.entries in
    rw c.in-Few.is
    (settled k c.args.value (slot_pairs ss) _ here
    (added k ss _ _ missing refl c.in_ok-add-in-Few.ensures.added))

on_err : {T E X : Type 0} (r : Result T E) → X → OnErr r X
on_err (Ok x) h = tt
on_err (Err e) h = h

pub returns-in_err-add-in-Few-clause-absent : goal.returns-in_err-add-in-Few-clause-absent
returns-in_err-add-in-Few-clause-absent g c =
    let k = c.args.key in
    let ss = c.in-Few.slots.items in
    let missing = searched _ k _ ss _ c.in_default.ensures c.as_bytes-in-Few.ensures.bytes c.deref.ensures.value in
    rw c.in-Few.is (on_err c.from_residual-in_err-add-in-Few.result (value_missing k ss missing))
