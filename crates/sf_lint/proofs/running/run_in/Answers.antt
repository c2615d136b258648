use Rattle.std.proofs.Common.{inl}
use Rattle.sf_lint.proofs.running.run_in.Goals as goal

pub returns-in-Ok : goal.returns-in-Ok
returns-in-Ok g c =
    inl (c.in-Ok.input.items, c.in-Ok.ensures, rw (← c.as_slice.ensures.value) c.answer.ensures)
