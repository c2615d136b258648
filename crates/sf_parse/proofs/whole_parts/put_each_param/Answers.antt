use Rattle.std.proofs.Common.{refl, []}
use Rattle.sf_parse.specs.Machine.Params.{params_step}
use Rattle.sf_parse.proofs.Prefixes.{goes_more}
use Rattle.sf_parse.proofs.WholeParts.{param_shorter}
use Rattle.sf_parse.proofs.WholeSteps.{param_goes}
use Rattle.sf_parse.proofs.whole_parts.put_each_param.Goals as goal

pub loop-rest-init : goal.loop-rest-init
loop-rest-init c = record { taken = []; split = refl; leads = refl }

pub loop-rest-preserved : goal.loop-rest-preserved
loop-rest-preserved c =
    let d = c.args.context.now.dialect in
    goes_more (params_step d) _ _ _ _ _ _ c.loop-rest.invariant
    (param_goes d _ _ _ _ _ _ _ c.in-Some.ensures.param
    c.in-Some-strip_byte.ensures c.in_ok-put_leaf.ensures.put)

pub loop-rest-smaller : goal.loop-rest-smaller
loop-rest-smaller c =
    param_shorter _ _ _ _ _ _ c.in-Some.ensures.param c.in-Some-strip_byte.ensures
