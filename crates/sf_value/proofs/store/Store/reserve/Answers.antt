use Rattle.std.proofs.Common.{OnErr, Result, Ok, Err, refl}
use Rattle.sf_value.proofs.SlotLists.{searched, value_missing}
use Rattle.sf_value.proofs.store.Store.reserve.Goals as goal

on_err : {T E X : Type 0} (r : Result T E) → X → OnErr r X
on_err (Ok x) h = tt
on_err (Err e) h = h

pub returns-in_err-reserve-in-Few-clause-absent : goal.returns-in_err-reserve-in-Few-clause-absent
returns-in_err-reserve-in-Few-clause-absent g c =
    let k = c.args.key.now in
    let ss = c.in-Few.slots.items in
    let missing = searched _ k _ ss _ c.in_default.ensures refl c.deref.ensures.value in
    rw c.in-Few.is (on_err c.from_residual-in_err-reserve-in-Few.result (value_missing k ss missing))
