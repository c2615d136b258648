use Rattle.std.proofs.Common.{◌≡◌, ◌∷◌, Some, None, ◌∙◌, sym, ap, subst}
use Rattle.sf_value.specs.Digits.{sextet}
use Rattle.sf_value.proofs.DigitValues.{not_letter, read_letter}
use Rattle.sf_view.specs.Decoding.{NoLetter}
use Rattle.sf_view.proofs.bytes.character.Goals as goal

pub returns-in_default-sextet-clause-none : goal.returns-in_default-sextet-clause-none
returns-in_default-sextet-clause-none c =
    let n : sextet c.in-Some.first ≡ None = sym c.in_default-sextet.ensures.value in
    subst NoLetter (sym c.in-Some.ensures.some)
    (λ x h e. not_letter x c.in-Some.first h e n)

pub returns-clause-some : goal.returns-clause-some
returns-clause-some c =
    let n : sextet c.in-Some.first ≡ Some c.in-Some-sextet.value =
    sym c.in-Some-sextet.ensures.value in
    let r = read_letter c.in-Some.first c.in-Some-sextet.value n in
    (r.1, c.in-Some.ensures.some ∙ ap (λ y. y ∷ c.in-Some.rest.now) (sym r.0))
