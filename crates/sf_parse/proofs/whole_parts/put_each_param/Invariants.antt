use Rattle.std.proofs.Common.{length}
use Rattle.sf_parse.specs.Prefixes.{Goes}
use Rattle.sf_parse.specs.Machine.Params.{Opened, params_step}
use Rattle.sf_parse.proofs.whole_parts.put_each_param.Given as goal

abbrev pub invariant-loop-rest : goal.invariant-loop-rest
invariant-loop-rest l =
    Goes (params_step l.context.dialect) (Opened l.initial.params) l.text l.rest (Opened l.params)

abbrev pub decreases-loop-rest : goal.decreases-loop-rest
decreases-loop-rest l = length l.rest
