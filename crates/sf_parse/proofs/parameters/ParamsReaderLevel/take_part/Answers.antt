use Rattle.std.proofs.Common.{refl}
use Rattle.sf_value.specs.Grammar.Classes.{is_key_start, is_in_key, is_sp}
use Rattle.sf_parse.specs.Machine.Texts.{word_step}
use Rattle.sf_parse.specs.Machine.Bares.{bare_step}
use Rattle.sf_parse.specs.Machine.Params.{Opened, InParamKey, InValue, params_step}
use Rattle.sf_parse.proofs.Prefixes.{part_above, goes_above, goes_more}
use Rattle.sf_parse.proofs.ByteRuns.{stay_goes, word_goes, word_run_kept}
use Rattle.sf_parse.proofs.OpenParts.{space_in_params, key_in_params, value_in_params}
use Rattle.sf_parse.proofs.parameters.ParamsReaderLevel.take_part.Goals as goal

pub returns-in-Opened-clause-goes : goal.returns-in-Opened-clause-goes
returns-in-Opened-clause-goes c =
    let d = c.args.context.now.dialect in
    let ps = c.self.inside.params in
    rw (← c.self.view_is, c.in-Opened.is)
    (goes_more (params_step d) (Opened ps) (Opened ps) _ _ _ _
    (stay_goes (params_step d) is_sp (Opened ps) _ _ _ (space_in_params d ps)
    c.few_prefix.ensures.whole c.few_prefix.ensures.every) c.in_ok-rest-in-Opened.ensures)

pub invariant_of-self-in-InKey : goal.invariant_of-self-in-InKey
invariant_of-self-in-InKey c =
    let key = rw c.in-InKey.is at c.self.invariant in
    rw c.in-InKey.is
    (word_run_kept is_key_start is_in_key _ _ _ c.in_ok-extend-in-InKey.ensures.bytes
    c.any_prefix.ensures.every key)

pub returns-in-InKey-clause-goes : goal.returns-in-InKey-clause-goes
returns-in-InKey-clause-goes c =
    let d = c.args.context.now.dialect in
    let ps = c.self.inside.params in
    rw (← c.self.view_is, c.in-InKey.is)
    (goes_above (word_step is_in_key) (params_step d) (InParamKey ps) (key_in_params d ps) _ _ _ _
    (word_goes is_in_key _ _ _ _ _ c.any_prefix.ensures.whole
    c.any_prefix.ensures.every c.in_ok-extend-in-InKey.ensures.bytes))

pub returns-in-InValue-clause-goes : goal.returns-in-InValue-clause-goes
returns-in-InValue-clause-goes c =
    let d = c.args.context.now.dialect in
    let ps = c.self.inside.params in
    let k = c.self.inside.key in
    rw (← c.self.view_is, c.in-InValue.is)
    (part_above bare_step (params_step d) (InValue ps k) (value_in_params d ps k) _ _ _ _ _ _ refl
    c.take.ensures.prefix)
