use Rattle.std.proofs.Common.{◌≡◌, Some, true, false, sym, subst, ap, ◌∙◌, refl, inl}
use Rattle.std.specs.List.{after_first}
use Rattle.http_header.specs.Token.{lowercase}
use Rattle.sf_tool.specs.Fields.{is_colon, is_header_name}
use Rattle.sf_tool.specs.CommandLine.{kind_named}
use Rattle.sf_lint.proofs.OptionWords.{names, without_name}
use Rattle.sf_lint.proofs.options.custom_field.Goals as goal

pub returns-in-Some-Ok : goal.returns-in-Some-Ok
returns-in-Some-Ok c =
    let word = c.in-Some.ensures.1 in
    let kind : kind_named (after_first is_colon c.args.word.now)
    ≡ Some c.in-Some-kind_named.kind =
    ap kind_named (sym c.in-Some.ensures.2) ∙ sym c.kind_named.ensures ∙ c.in-Some-kind_named.is in
    let made = rw c.in-Some-Ok.field-0-is at c.in-Some-Ok.ensures in
    names c.args.word.now c.in-Some-Ok.name c.in-Some-kind_named.kind c.in-Some.ensures.0
    (subst (λ w. is_header_name w ≡ true) word made.0) kind (made.1 ∙ ap lowercase word)

pub returns-in-None : goal.returns-in-None
returns-in-None c = inl (
  refl,
  without_name c.args.word.now c.in-Some.ensures.0
      (subst (λ w. is_header_name w ≡ false) c.in-Some.ensures.1 c.in-None.ensures),
)
