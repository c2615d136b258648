use Rattle.std.proofs.Common.{rules, ◌≡◌, ◌∙◌, ◌+◌, ◌-◌, ◌*◌, true, min, sym, ap, drop, get_or, arith}
use Rattle.std.proofs.lemmas.List.{drop_more}
use Rattle.sf_value.specs.Grammar.Classes.{is_digit}
use Rattle.sf_lint.proofs.Seconds.{more_seconds, seconds-digit}
use Rattle.sf_lint.proofs.ages.delta_seconds.Goals as goal

pub loop-byte-preserved : goal.loop-byte-preserved
loop-byte-preserved c =
    let text = c.args.text.now in
    let i = c.loop-byte.byte-index in
    let s = c.loop-byte.seconds in
    let b = get_or text i 0 in
    let v = drop (i + 1) text in
    let digit : is_digit b ≡ true = search rules in
    let sum : c.min-seconds.result ≡ min (10 * s + (b - 48)) 2147483648 = omega (arith, c.min-seconds.ensures, c.from-digit.ensures) in
    record {
      small = omega (arith, sum);
      rest = ap (λ n. more_seconds n v) sum
          ∙ sym (seconds-digit s b v digit)
          ∙ sym (ap (more_seconds s) (drop_more text i 0 c.loop-byte-test.true))
          ∙ c.loop-byte.invariant.rest;
    }
