use borrow.Follows.Closed.{read_of}
use Rattle.std.proofs.Common.{◌≡◌, ◌<◌, Some, refl, ap, ◌∙◌, inl, slice_get, get_or}
use Rattle.std.proofs.lemmas.Option.{slice_get_read}
use Rattle.std.specs.Box.{with_value}
use Rattle.std.specs.Option.{ghost_name_of, option_map}
use Rattle.indexmap.specs.IndexMap.{with_value_at}
use Rattle.sf_value.specs.declared.store.Store.TheVariants.{Many}
use Rattle.sf_value.proofs.Changes.{few-set, few-value, many-value}
use Rattle.sf_value.proofs.store.Store.value_mut.Goals as goal

pub returns-in-Few : goal.returns-in-Few
returns-in-Few g c =
    let slots = c.in-Few.slots in
    let i = c.args.place in
    let slot = c.in_ok-slot-in-Few.slot.now in
    let within : i < slots.len = (rw c.in-Few.is at c.in_ok-slot-in-Few.ensures.variant).0 refl in
    let read : slot ≡ get_or slots.items i slot =
    rw c.in-Few.is at c.in_ok-slot-in-Few.ensures.value in
    let there : slice_get slots.items i ≡ Some slot =
    slice_get_read slots.items slots.len i slot slots.ok.0 within read in
    rw c.in-Few.is (
      (λ t. inl (c.slot-in-Few-1.given, λ w. few-set slots i slot w there t)),
      record { writes_back = tt; value = few-value slots.items i slot there },
    )

pub returns-in-Many : goal.returns-in-Many
returns-in-Many g c =
    let box = c.in-Many.map in
    let i = c.args.place in
    let here : c.deref_mut.result.now ≡ box.value = rw c.in-Many.is at c.deref_mut.ensures.value in
    rw c.in-Many.is (
      (λ t.
          read_of (ghost_name_of c.get_index_mut.result)
          (λ (w : g.row.V.Denot). Many (with_value box (with_value_at (here t) i w)))
          (Many (with_value box (here t)))),
      record {
        writes_back = tt;
        value = c.get_index_mut.ensures.value ∙ many-value c.deref_mut.result.now.entries i
            ∙ ap (λ m. option_map (λ e. e.1) (slice_get m.entries i)) here;
      },
    )
