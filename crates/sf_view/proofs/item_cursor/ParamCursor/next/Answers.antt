use Rattle.std.proofs.Common.{refl}
use Rattle.sf_view.proofs.ItemCursors.{param_remains}
use Rattle.sf_view.proofs.item_cursor.ParamCursor.next.Goals as goal

pub returns-clause-next : goal.returns-clause-next
returns-clause-next c =
    let e = c.in_ok-key.ensures in (
      e.value,
      e.borrowed,
      λ ps ms r. param_remains c.args.self.now _ _ _ _ ps ms e c.in-Some.ensures refl r,
    )
