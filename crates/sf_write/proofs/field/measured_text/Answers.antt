use Rattle.std.proofs.Common.{rules, ◌≡◌}
use Rattle.sf_value.specs.Grammar.Canonical.{canon}
use Rattle.sf_write.proofs.ValidParts.{canon_of}
use Rattle.sf_write.proofs.field.measured_text.Goals as goal

pub returns-in-Ok-clause-spells : goal.returns-in-Ok-clause-spells
returns-in-Ok-clause-spells c =
    let is_canon : c.into_inner.result.items ≡ canon c.args.field.now = search rules in
    canon_of c.args.field.now c.into_inner.result.items is_canon c.in-Ok.ensures.valid
