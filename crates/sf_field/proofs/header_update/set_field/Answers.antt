use Rattle.std.proofs.Common.{◌≡◌, length, sym, ap, ◌∙◌, eqb-true}
use Rattle.sf_value.specs.Grammar.Canonical.{canon}
use Rattle.sf_field.proofs.HeaderTexts.{set_none}
use Rattle.sf_field.proofs.header_update.set_field.Goals as goal

pub returns-then-is_empty-clause-set : goal.returns-then-is_empty-clause-set
returns-then-is_empty-clause-set c =
    let empty : length c.in_ok-value.value.bytes ≡ 0 =
    eqb-true _ _ (sym c.is_empty.ensures ∙ c.if-is_empty.true) in
    c.remove.ensures.after
    ∙ sym (set_none c.args.headers.now c.args.name (canon c.args.field.now)
    (ap (λ v. length v.bytes) (sym c.in_ok-value.ensures) ∙ empty))
