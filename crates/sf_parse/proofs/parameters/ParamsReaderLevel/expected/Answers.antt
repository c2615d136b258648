use Rattle.std.proofs.Common.{refl}
use Rattle.sf_value.specs.Grammar.Pairs.{put}
use Rattle.sf_parse.specs.Machine.Bares.{bare_start, bare_step, bare_finish}
use Rattle.sf_parse.specs.Machine.Params.{Opened, InParamKey, InValue, between_step, params_step}
use Rattle.sf_parse.proofs.Marks.{marks_map, marks_onward, marks_steps}
use Rattle.sf_parse.proofs.parameters.ParamsReaderLevel.expected.Goals as goal

pub returns-in-Between : goal.returns-in-Between
returns-in-Between c =
    rw (← c.self.view_is, c.in-Between.is)
    (marks_steps _ (between_step c.self.inside.params) refl)

pub returns-in-Opened : goal.returns-in-Opened
returns-in-Opened c =
    rw (← c.self.view_is, c.in-Opened.is)
    (marks_steps _ (params_step c.args.dialect (Opened c.self.inside.params)) refl)

pub returns-in-InKey : goal.returns-in-InKey
returns-in-InKey c =
    rw (← c.self.view_is, c.in-InKey.is)
    (marks_steps _ (params_step c.args.dialect (InParamKey c.self.inside.params c.self.inside.key))
    refl)

pub returns-in-Equals : goal.returns-in-Equals
returns-in-Equals c =
    rw (← c.self.view_is, c.in-Equals.is)
    (marks_map (InValue c.self.inside.params c.self.inside.key) _ (bare_start c.args.dialect)
    c.first_bytes.ensures)

pub returns-in-InValue : goal.returns-in-InValue
returns-in-InValue c =
    let r = c.self.inside in
    rw (← c.self.view_is, c.in-InValue.is, c.set_if.ensures, c.may_end.ensures)
    (marks_onward (InValue r.params r.key) _ _ (bare_step r.value) (bare_finish r.value)
    (λ x. between_step (put r.params r.key x)) c.expected.ensures
    (λ x. marks_steps _ (between_step (put r.params r.key x)) refl))
