use Rattle.std.proofs.Common.{ap, codes, sym, ◌∙◌, Some, refl}
use Rattle.clap.specs.Words.{found_of}
use Rattle.sf_tool.specs.CommandLine.{kind_named}
use Rattle.sf_tool.proofs.CommandLine.{value-some, named-kind, other-kind, no-kind}
use Rattle.sf_tool.proofs.request.kind_of.Goals as goal

pub returns-in-Some-kind_named : goal.returns-in-Some-kind_named
returns-in-Some-kind_named c =
    value-some (found_of c.args.given.now) (codes "kind") c.get_str.result c.in-Some.word
    c.get_str.ensures c.in-Some.is
    ∙ ap Some
    (named-kind c.in-Some.word.now c.in-Some-kind_named.kind
    (sym (ap kind_named c.as_bytes.ensures.value) ∙ sym c.kind_named.ensures
    ∙ c.in-Some-kind_named.is))

pub returns-in-None : goal.returns-in-None
returns-in-None c = (
  refl,
  other-kind (found_of c.args.given.now) c.get_str.result c.in-Some.word c.get_str.ensures
      c.in-Some.is
      (sym (ap kind_named c.as_bytes.ensures.value) ∙ sym c.kind_named.ensures ∙ c.in-None.is),
)

pub returns-in_default : goal.returns-in_default
returns-in_default c =
    (refl, no-kind (found_of c.args.given.now) c.get_str.result c.get_str.ensures c.in_default.is)
