use borrow.Follows.Closed.{read_of}
use Rattle.std.specs.Option.{ghost_name_of}
use Rattle.sf_value.specs.Stores.{stored}
use Rattle.sf_value.proofs.Changes.{stored-set, entries-set, seed-set}
use Rattle.sf_value.proofs.entries.Entries.at_mut.Goals as goal

pub invariant_of-self-lent : goal.invariant_of-self-lent
invariant_of-self-lent g c =
    let st = c.self.inside.store in
    let i = c.args.index in
    λ r. (
      (λ w. (
        entries-set (stored st) _ i w c.self.invariant.0 (stored-set st i w),
        seed-set st i w c.self.invariant.1,
      )),
      c.self.invariant,
    )

pub returns : goal.returns
returns g c =
    let st = c.self.inside.store in
    let i = c.args.index in
    rw (← c.self.view_is) (
      (λ t.
          read_of (ghost_name_of c.value_mut.result)
          (λ (w : g.row.V.Denot). stored-set st i w t) (stored st)),
      record { writes_back = tt; value = c.value_mut.ensures.value },
    )
