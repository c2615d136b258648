use Rattle.std.proofs.Common.{rules, ◌≡◌}
use Rattle.sf_value.specs.Grammar.Canonical.{canon}
use Rattle.sf_write.proofs.ValidParts.{canon_of}
use Rattle.sf_write.proofs.field.to_text.Goals as goal

pub returns-then-has_no_text-clause-spells : goal.returns-then-has_no_text-clause-spells
returns-then-has_no_text-clause-spells c =
    let is_canon : c.new.result.items ≡ canon c.args.field.now = search rules in
    canon_of c.args.field.now c.new.result.items is_canon (search rules)
