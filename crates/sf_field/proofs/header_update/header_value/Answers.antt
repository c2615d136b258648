use Rattle.std.proofs.Common.{refl}
use Rattle.sf_value.specs.declared.dialect.Dialect.TheVariants.{Rfc9651}
use Rattle.sf_value.specs.Grammar.Fields.{kind_of}
use Rattle.sf_field.proofs.HeaderTexts.{spelled_value}
use Rattle.sf_field.proofs.header_update.header_value.Goals as goal

pub unreachable-requires : goal.unreachable-requires
unreachable-requires c =
    let refused = rw c.in-Err-Invalid.field-0-is at c.in-Err-Invalid.ensures.invalid in
    refused.0 refl
    (spelled_value Rfc9651 (kind_of c.args.field.now) c.args.field.now c.in_ok-text.text.items
    c.in_ok-text.ensures.spells)
