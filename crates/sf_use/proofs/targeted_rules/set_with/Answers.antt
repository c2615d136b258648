use Rattle.std.proofs.Common.{◌≡◌, ◌∙◌, true, false, rules, arith}
use Rattle.std.specs.Str.{bytes_eq}
use Rattle.sf_use.proofs.Scanning.{sets_is}
use Rattle.sf_use.proofs.targeted_rules.set_with.Goals as goal

pub returns-then-eq : goal.returns-then-eq
returns-then-eq c = λ d m s.
    let same : bytes_eq c.args.key.now c.args.member.key.now ≡ true =
    first_of (search rules, grind arith) in
    rw same (c.is_set.ensures d m s ∙ sets_is m)

pub returns : goal.returns
returns c = λ d m s.
    let other : bytes_eq c.args.key.now c.args.member.key.now ≡ false =
    first_of (search rules, grind arith) in
    rw other
