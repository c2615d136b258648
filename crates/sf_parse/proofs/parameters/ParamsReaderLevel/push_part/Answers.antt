use Rattle.std.proofs.Common.{refl}
use Rattle.sf_parse.specs.Machine.Bares.{bare_step}
use Rattle.sf_parse.specs.Machine.Params.{InValue, params_step}
use Rattle.sf_parse.proofs.Prefixes.{part_above}
use Rattle.sf_parse.proofs.OpenParts.{value_in_params}
use Rattle.sf_parse.proofs.parameters.ParamsReaderLevel.push_part.Goals as goal

pub returns-in-InValue-clause-goes : goal.returns-in-InValue-clause-goes
returns-in-InValue-clause-goes c =
    let d = c.args.context.now.dialect in
    let ps = c.self.inside.params in
    let k = c.self.inside.key in
    rw (← c.self.view_is, c.in-InValue.is)
    (part_above bare_step (params_step d) (InValue ps k) (value_in_params d ps k) _ _ _ _ _ _ refl
    c.push.ensures.prefix)
