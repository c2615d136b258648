use Rattle.std.proofs.Common.{sym, subst}
use Rattle.sf_value.specs.Grammar.BareItems.{SpellsBare}
use Rattle.sf_scan.specs.Leaves.{leaf_bare}
use Rattle.sf_scan.proofs.Taken.{param_read}
use Rattle.sf_parse.proofs.whole_parts.find_param.Goals as goal

pub returns-in-Ok-clause-key : goal.returns-in-Ok-clause-key
returns-in-Ok-clause-key c = (param_read _ _ _ _ _ c.in-Ok.ensures).spelled.4

pub returns-in-Ok-clause-leaf : goal.returns-in-Ok-clause-leaf
returns-in-Ok-clause-leaf c =
    let m = c.in-Ok.ensures in (
      c.args.dialect,
      m.value,
      subst (λ l. SpellsBare c.args.dialect m.value (leaf_bare l)) (sym m.made_of) m.spelled,
    )

pub returns-in-Ok-clause-param : goal.returns-in-Ok-clause-param
returns-in-Ok-clause-param c =
    let r = param_read _ _ _ _ _ c.in-Ok.ensures in
    record { prefix = r.stops.prefix; split = r.stops.split; spelled = r.spelled }
