use Rattle.std.proofs.Common.{rules, ◌≡◌, IfOk}
use Rattle.std.proofs.lemmas.Result.{IfOk-weaker}
use Rattle.sf_value.specs.Grammar.Canonical.{canon}
use Rattle.sf_write.proofs.ValidParts.{canon_of}
use Rattle.sf_write.proofs.field.gathered_text.Goals as goal

pub returns-in-Ok-clause-spells : goal.returns-in-Ok-clause-spells
returns-in-Ok-clause-spells c =
    let are_canon : IfOk c.into_text.result (λ text. text.items ≡ canon c.args.field.now) =
    search rules in
    IfOk-weaker c.into_text.result _ _
    (λ text e. canon_of c.args.field.now text.items e c.in-Ok.ensures.valid) are_canon
