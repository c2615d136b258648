use Rattle.std.specs.Option.{option_map}
use Rattle.std.proofs.Common.{sym, ap, subst, ◌∙◌, arith}
use Rattle.sf_parse.specs.AllocationFree.{FieldFree}
use Rattle.sf_parse.specs.Machine.Fields.{step}
use Rattle.sf_parse.proofs.Prefixes.{prefix_above, left_within, never}
use Rattle.sf_parse.proofs.FedChunks.{refuses_other, refuses_above}
use Rattle.sf_parse.proofs.WholeTexts.{whole_refused, whole_value, whole_free, begins_free}
use Rattle.sf_parse.proofs.field.read_text.Goals as goal

pub returns-then-is_some-clause-parses : goal.returns-then-is_some-clause-parses
returns-then-is_some-clause-parses g c =
    let d = c.args.context.now.dialect in
    let law = g.met.W.WholeField in
    let prefix = prefix_above (g.W.Level.next d) (step d) g.W.WholeField.state (law.steps d) _ _ _ _
    c.in_ok-rest.ensures.prefix in
    whole_refused d _ _ _ _ _ _ _ _ c.begin-field.ensures prefix
    (c.copied-found.ensures ∙ c.first.ensures.value) (c.may_end-may_end.ensures ∙ law.ends_too _)
    (refuses_above (g.W.Level.next d) (step d) g.W.WholeField.state (law.steps d) _ _ _ _ _ _
    (law.ends_too _) c.refuse.ensures)
    (rw c.is_some.ensures at c.then-is_some.either)

pub returns-then-is_some-clause-allocation_free : goal.returns-then-is_some-clause-allocation_free
returns-then-is_some-clause-allocation_free g c =
    λ w. refuses_other _ _ _ _ _ c.refuse.ensures

pub returns-clause-parses : goal.returns-clause-parses
returns-clause-parses g c =
    let d = c.args.context.now.dialect in
    let law = g.met.W.WholeField in
    let prefix = prefix_above (g.W.Level.next d) (step d) g.W.WholeField.state (law.steps d) _ _ _ _
    c.in_ok-rest.ensures.prefix in
    whole_value d _ _ _ _ _ _ _ c.begin-field.ensures prefix
    (c.copied-found.ensures ∙ c.first.ensures.value) (sym c.is_some.ensures ∙ c.if-is_some.false)
    (sym c.in_ok-value.ensures.value ∙ ap (option_map g.W.WholeField.field) c.in-Some.is)

pub returns-in_err-value-clause-allocation_free : goal.returns-in_err-value-clause-allocation_free
returns-in_err-value-clause-allocation_free g c =
    let d = c.args.context.now.dialect in
    let law = g.met.W.WholeField in
    let prefix = prefix_above (g.W.Level.next d) (step d) g.W.WholeField.state (law.steps d) _ _ _ _
    c.in_ok-rest.ensures.prefix in
    λ w. never (c.in_err-value.ensures.allocation_free
    (whole_free d g.W.WholeField.kind _ _ _ _ _ c.begin-field.ensures w prefix
    (c.copied-found.ensures ∙ c.first.ensures.value)
    (sym c.is_some.ensures ∙ c.if-is_some.false)))

pub returns-in_err-rest-clause-allocation_free : goal.returns-in_err-rest-clause-allocation_free
returns-in_err-rest-clause-allocation_free g c =
    let text = c.args.text.now in
    λ w. never (c.in_err-rest.ensures.allocation_free
    (g.met.W.WholeField.free_too c.args.context.now.dialect _ _
    (subst (λ s. FieldFree s text) (sym c.begin-field.ensures)
    (begins_free g.W.WholeField.kind text w))))

pub overflow_sub-place : goal.overflow_sub-place
overflow_sub-place g c =
    omega (arith, left_within _ _ _ _ _ c.in_ok-rest.ensures.prefix.goes)
