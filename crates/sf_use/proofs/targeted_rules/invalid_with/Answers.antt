use Rattle.std.proofs.Common.{◌≡◌, ◌∙◌, ap, Bool, true, false, ℕ, Option, Some, None, refl, rules}
use Rattle.std.proofs.Common.{arith}
use Rattle.std.specs.Prelude.{is_none, is_some, not}
use Rattle.std.specs.Str.{bytes_eq}
use Rattle.sf_use.specs.Scanning.{seconds_by}
use Rattle.sf_use.proofs.Scanning.{seconds_are}
use Rattle.sf_use.proofs.targeted_rules.invalid_with.Goals as goal

-- the test for None, by what it ensures
none_test : (o : Option ℕ) (b : Bool) → is_some o ≡ not b → b ≡ is_none o
none_test None true e = refl
none_test None false e = absurd cc
none_test (Some n) true e = absurd cc
none_test (Some n) false e = refl

pub returns-then-eq : goal.returns-then-eq
returns-then-eq c = λ d m s.
    let same : bytes_eq c.args.key.now c.args.member.key.now ≡ true =
    first_of (search rules, grind arith) in
    rw same
    (none_test _ _ c.is_none.ensures
    ∙ ap is_none
    (c.seconds_of.ensures ∙ ap seconds_by (c.as_integer.ensures d m s) ∙ seconds_are m))

pub returns : goal.returns
returns c = λ d m s.
    let other : bytes_eq c.args.key.now c.args.member.key.now ≡ false =
    first_of (search rules, grind arith) in
    rw other
