use Rattle.std.proofs.Common.{◌≡◌, ◌≤◌, ◌-◌, ◌∙◌, ap, refl, arith, length, length-drop}
use Rattle.std.specs.List.{prefix_len}
use Rattle.std.proofs.lemmas.List.Sums.{prefix_len-le-length}
use Rattle.sf_value.specs.Grammar.Classes.{is_ows}
use Rattle.sf_lint.proofs.marking.offset_of.Goals as goal

pub returns-in-Some-clause-value : goal.returns-in-Some-clause-value
returns-in-Some-clause-value c =
    let rest = c.in-Some.rest.now in
    let cut : length c.without_lead.result.now ≡ length rest - prefix_len is_ows rest =
    ap length c.without_lead.ensures ∙ length-drop (prefix_len is_ows rest) rest in
    let short : prefix_len is_ows rest ≤ length rest = prefix_len-le-length is_ows rest in
    let lead : length rest - length c.without_lead.result.now ≡ prefix_len is_ows rest =
    omega (arith, cut, short) in
    rw (lead, c.in-Some.ensures.1, c.in-Some.ensures.2) refl
