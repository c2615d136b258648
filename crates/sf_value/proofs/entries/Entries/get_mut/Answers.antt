use borrow.Follows.Closed.{read_of}
use Rattle.std.proofs.Common.{refl, sym, ◌∙◌}
use Rattle.std.specs.Option.{ghost_name_of}
use Rattle.sf_value.specs.Stores.{stored}
use Rattle.sf_value.proofs.Changes.{searched_all, value_nowhere, value_there, stored_with}
use Rattle.sf_value.proofs.Changes.{entries_with, seed-set}
use Rattle.sf_value.proofs.entries.Entries.get_mut.Goals as goal

pub returns-in_err-place : goal.returns-in_err-place
returns-in_err-place g c =
    let k = c.args.key.now in
    let ps = stored c.self.inside.store in
    rw (c.from_residual.ensures, ← c.self.view_is) (
      refl,
      record {
        writes_back = tt;
        value = sym (value_nowhere k ps (searched_all k ps _ c.in_err-place.ensures));
      },
    )

pub invariant_of-self-lent : goal.invariant_of-self-lent
invariant_of-self-lent g c =
    let k = c.args.key.now in
    let st = c.self.inside.store in
    let i = c.in_ok-place.place in
    let found = searched_all k (stored st) _ c.in_ok-place.ensures in
    λ r. (
      (λ w. (
        entries_with k (stored st) _ w c.self.invariant.0 (stored_with k st i w found),
        seed-set st i w c.self.invariant.1,
      )),
      c.self.invariant,
    )

pub returns : goal.returns
returns g c =
    let k = c.args.key.now in
    let st = c.self.inside.store in
    let i = c.in_ok-place.place in
    let found = searched_all k (stored st) _ c.in_ok-place.ensures in
    rw (← c.self.view_is) (
      (λ t.
          read_of (ghost_name_of c.value_mut.result)
          (λ (w : g.row.V.Denot). stored_with k st i w found t) (stored st)),
      record {
        writes_back = tt;
        value = c.value_mut.ensures.value ∙ value_there k (stored st) i found;
      },
    )
