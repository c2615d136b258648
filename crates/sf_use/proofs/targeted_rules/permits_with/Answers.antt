use Rattle.std.proofs.Common.{◌≡◌, ◌∙◌, ap, true, false, rules, arith}
use Rattle.std.specs.Prelude.{unwrap_or}
use Rattle.std.specs.Str.{bytes_eq}
use Rattle.sf_use.proofs.RulesScanning.{permits_is}
use Rattle.sf_use.proofs.targeted_rules.permits_with.Goals as goal

pub returns-then-eq : goal.returns-then-eq
returns-then-eq c = λ d m s.
    let same : bytes_eq c.args.key.now c.args.member.key.now ≡ true =
    first_of (search rules, grind arith) in
    rw same
    (c.unwrap_or.ensures
    ∙ ap (λ b. unwrap_or b false) (c.as_boolean.ensures d m s)
    ∙ permits_is m)

pub returns : goal.returns
returns c = λ d m s.
    let other : bytes_eq c.args.key.now c.args.member.key.now ≡ false =
    first_of (search rules, grind arith) in
    rw other
