use Rattle.std.proofs.Common.{refl, sym, ap, subst, ◌∙◌}
use Rattle.sf_value.specs.Entries.{AreEntries}
use Rattle.sf_value.specs.Grammar.Pairs.{value_at, without}
use Rattle.sf_value.specs.Stores.{slot_pairs}
use Rattle.sf_value.proofs.EntryMaps.{AreEntries-none}
use Rattle.sf_value.proofs.SlotLists.{searched, value_missing, value_found}
use Rattle.sf_value.proofs.Removals.{removed_slot, removed_none, taken-out, entries-without}
use Rattle.sf_value.proofs.store.Store.remove.Goals as goal

pub returns-in_err-place-in-Few-clause-value : goal.returns-in_err-place-in-Few-clause-value
returns-in_err-place-in-Few-clause-value g c =
    let k = c.args.key.now in
    let ss = c.in-Few.slots.items in
    rw (c.from_residual.ensures, c.in-Few.is)
    (sym (value_missing k ss
    (searched k k _ ss _ c.in_err-place-in-Few.ensures refl c.deref.ensures.value)))

pub returns-in_err-place-in-Few-clause-rest : goal.returns-in_err-place-in-Few-clause-rest
returns-in_err-place-in-Few-clause-rest g c =
    let k = c.args.key.now in
    let ss = c.in-Few.slots.items in
    rw c.in-Few.is
    (removed_none k ss
    (searched k k _ ss _ c.in_err-place-in-Few.ensures refl c.deref.ensures.value))

pub returns-then-not-is_empty-clause-entries : goal.returns-then-not-is_empty-clause-entries
returns-then-not-is_empty-clause-entries g c =
    let k = c.args.key.now in
    let ss = c.in-Few.slots.items in
    let found = searched k k _ ss _ c.in_ok-place-in-Few.ensures refl c.deref.ensures.value in
    let here : AreEntries (slot_pairs ss) = rw c.in-Few.is at c.requires.entries in
    entries-without k (slot_pairs ss) _ here
    (removed_slot k ss _ c.in_ok-place-in-Few.place found here c.remove-value.ensures.items)

pub returns-then-not-is_empty-clause-value : goal.returns-then-not-is_empty-clause-value
returns-then-not-is_empty-clause-value g c =
    let k = c.args.key.now in
    let ss = c.in-Few.slots.items in
    let found = searched k k _ ss _ c.in_ok-place-in-Few.ensures refl c.deref.ensures.value in
    rw c.in-Few.is
    (value_found k ss c.in_ok-place-in-Few.place c.remove-value.result found
    c.remove-value.ensures.value)

pub returns-then-not-is_empty-clause-rest : goal.returns-then-not-is_empty-clause-rest
returns-then-not-is_empty-clause-rest g c =
    let k = c.args.key.now in
    let ss = c.in-Few.slots.items in
    let found = searched k k _ ss _ c.in_ok-place-in-Few.ensures refl c.deref.ensures.value in
    let here : AreEntries (slot_pairs ss) = rw c.in-Few.is at c.requires.entries in
    rw c.in-Few.is
    (removed_slot k ss _ c.in_ok-place-in-Few.place found here c.remove-value.ensures.items)

pub returns-in-Few-clause-entries : goal.returns-in-Few-clause-entries
returns-in-Few-clause-entries g c = AreEntries-none

pub returns-in-Many-clause-entries : goal.returns-in-Many-clause-entries
returns-in-Many-clause-entries g c =
    let k = c.args.key.now in
    let m = c.deref_mut.result.now in
    let there : AreEntries c.in-Many.map.value.entries =
    rw c.in-Many.is at c.requires.entries in
    let here : AreEntries m.entries =
    subst (λ n. AreEntries n.entries) (sym c.deref_mut.ensures.value) there in
    entries-without k m.entries _ here
    (c.shift_remove.ensures.entries ∙ taken-out k m.entries here.distinct)

pub returns-in-Many-clause-value : goal.returns-in-Many-clause-value
returns-in-Many-clause-value g c =
    let k = c.args.key.now in
    rw c.in-Many.is
    (c.shift_remove.ensures.value ∙ ap (λ n. value_at k n.entries) c.deref_mut.ensures.value)

pub returns-in-Many-clause-rest : goal.returns-in-Many-clause-rest
returns-in-Many-clause-rest g c =
    let k = c.args.key.now in
    let m = c.deref_mut.result.now in
    let there : AreEntries c.in-Many.map.value.entries =
    rw c.in-Many.is at c.requires.entries in
    let here : AreEntries m.entries =
    subst (λ n. AreEntries n.entries) (sym c.deref_mut.ensures.value) there in
    rw c.in-Many.is
    (c.shift_remove.ensures.entries ∙ taken-out k m.entries here.distinct
    ∙ ap (λ n. without k n.entries) c.deref_mut.ensures.value)
