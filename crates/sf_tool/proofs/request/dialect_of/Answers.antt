use Rattle.std.proofs.Common.{ap, codes, ◌∙◌, Some, refl}
use Rattle.clap.specs.Words.{found_of}
use Rattle.sf_tool.proofs.CommandLine.{value-some, other-dialect, no-dialect}
use Rattle.sf_tool.proofs.request.dialect_of.Goals as goal

pub returns-in-rfc8941 : goal.returns-in-rfc8941
returns-in-rfc8941 c =
    value-some (found_of c.args.given.now) (codes "dialect") c.get_str.result c.in-Some.word
    c.get_str.ensures c.in-Some.is
    ∙ ap Some c.in-rfc8941.is

pub returns-in-rfc9651 : goal.returns-in-rfc9651
returns-in-rfc9651 c =
    value-some (found_of c.args.given.now) (codes "dialect") c.get_str.result c.in-Some.word
    c.get_str.ensures c.in-Some.is
    ∙ ap Some c.in-rfc9651.is

pub returns-in_default-word : goal.returns-in_default-word
returns-in_default-word c = (
  refl,
  other-dialect (found_of c.args.given.now) c.get_str.result c.in-Some.word c.get_str.ensures
      c.in-Some.is c.in_default-word.not-rfc8941 c.in_default-word.not-rfc9651,
)

pub returns-in_default : goal.returns-in_default
returns-in_default c = (
  refl,
  no-dialect (found_of c.args.given.now) c.get_str.result c.get_str.ensures
      c.in_default.is,
)
