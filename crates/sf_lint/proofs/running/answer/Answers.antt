use Rattle.std.proofs.Common.{inr}
use Rattle.sf_lint.proofs.running.answer.Goals as goal

pub returns-in-Ok : goal.returns-in-Ok
returns-in-Ok g c =
    inr (
      c.in-Ok.reported.text.items,
      c.in-Ok.reported.refused,
      c.in-Ok.ensures,
      rw (← c.as_slice.ensures.value, ← c.status_of-status.ensures.status) c.answer_made.ensures,
    )
