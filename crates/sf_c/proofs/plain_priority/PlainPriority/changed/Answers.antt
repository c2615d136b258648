use Rattle.std.proofs.Common.{refl}
use Rattle.std.specs.Prelude.{◌&&◌, ◌||◌}
use Rattle.sf_c.specs.declared.plain_priority.PlainPriority.{PlainPriority}
use Rattle.sf_c.proofs.PlainPriorities.{changed_is}
use Rattle.sf_c.proofs.plain_priority.PlainPriority.changed.Goals as goal

pub returns : goal.returns
returns c =
    let p = c.args.self in
    let q : PlainPriority = record {
      urgency = c.or.result;
      incremental = c.or-2.result;
      is_reversed = c.is_some.result && (c.is_none.result || p.is_reversed);
    } in
    changed_is p q c.args.asked c.is_some.result c.is_none.result c.or.ensures c.or-2.ensures refl
    c.is_some.ensures c.is_none.ensures
