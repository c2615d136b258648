use Rattle.std.proofs.Common.{refl, ap, ◌∙◌, ◌++◌}
use Rattle.std.proofs.lemmas.Result.{err_from_is_err_and}
use Rattle.sf_value.specs.declared.value.Bare.TheVariants as bare
use Rattle.sf_value.specs.Grammar.Strings.{escaped}
use Rattle.sf_scan.specs.Leaves.{unescaped}
use Rattle.sf_scan.proofs.Escapes.{unescaped_escaped}
use Rattle.sf_scan.proofs.Lists.{front_before}
use Rattle.sf_scan.proofs.Bares.{string_read, string_open, string_escape, no_escape_left}
use Rattle.sf_scan.proofs.bare.string.Goals as goal

pub returns-in_err-left : goal.returns-in_err-left
returns-in_err-left c = λ d. let s = c.in_err-left.ensures in
    let p = err_from_is_err_and c.from_residual.result c.from_residual.ensures.1 in
    rw (p.1, p.2) (string_escape d _ s.past.bytes _ s.past.visible s.past.split s.no_escaped s.place)

pub returns-in_default : goal.returns-in_default
returns-in_default c = λ d. let s = c.in_ok-left.ensures in
    string_open d _ s.past.bytes _ s.past.visible s.past.split s.no_byte
    c.in_default.ensures (no_escape_left _ s.no_escape) refl

pub returns : goal.returns
returns c = λ d. let s = c.in_ok-left.ensures in
    string_read d _ s.past.bytes _ _ s.past.visible
    (s.past.split ∙ ap (λ x. escaped s.past.bytes ++ x) c.in-Some.ensures) refl
    (ap bare.Text (ap unescaped (c.split_at.ensures.front ∙ front_before _ _ _ s.past.split) ∙ unescaped_escaped s.past.bytes))
