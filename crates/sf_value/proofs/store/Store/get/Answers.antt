use Rattle.std.proofs.Common.{refl, sym, ap, ◌∙◌}
use Rattle.sf_value.specs.Grammar.Pairs.{value_at}
use Rattle.sf_value.specs.Stores.{stored}
use Rattle.sf_value.proofs.SlotLists.{searched, value_missing, value_found}
use Rattle.sf_value.proofs.store.Store.get.Goals as goal

pub returns-in_err-place-in-Few : goal.returns-in_err-place-in-Few
returns-in_err-place-in-Few g c =
    let k = c.args.key.now in
    let ss = c.in-Few.slots.items in
    rw (c.from_residual.ensures, c.in-Few.is)
    (sym (value_missing k ss
    (searched k k _ ss _ c.in_err-place-in-Few.ensures refl c.deref.ensures.value)))

pub returns-in-Few : goal.returns-in-Few
returns-in-Few g c =
    let k = c.args.key.now in
    let ss = c.in-Few.slots.items in
    value_found k ss c.in_ok-place-in-Few.place c.index.result.now
    (searched k k _ ss _ c.in_ok-place-in-Few.ensures refl c.deref.ensures.value)
    c.index.ensures
    ∙ ap (λ s. value_at k (stored s)) (sym c.in-Few.is)

pub returns-in-Many : goal.returns-in-Many
returns-in-Many g c =
    let k = c.args.key.now in
    c.get.ensures.value ∙ ap (λ m. value_at k m.entries) c.deref-in-Many.ensures
    ∙ ap (λ s. value_at k (stored s)) (sym c.in-Many.is)
