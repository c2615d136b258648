use Rattle.std.proofs.Common.{◌++◌, length, take, drop, refl, sym, ap, ◌∙◌}
use Rattle.sf_value.proofs.sequence.Sequence.as_mut_slice.Goals as goal

pub returns : goal.returns
returns g c =
    let items = c.self.inside.items.items in
    let counted = sym c.as_mut_slice.ensures.len ∙ ap length c.as_mut_slice.ensures.value in
    rw (← c.self.view_is) (
      (refl, λ w. ap (λ n. take n (w ++ drop (length w) items)) counted),
      record { writes_back = tt; value = c.as_mut_slice.ensures.value },
    )
