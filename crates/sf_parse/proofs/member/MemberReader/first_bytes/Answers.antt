use Rattle.std.specs.Option.{option_map}
use Rattle.std.proofs.Common.{refl, ◌==◌, []}
use Rattle.sf_value.specs.Grammar.Words.{allow}
use Rattle.sf_parse.specs.Machine.Bares.{bare_start}
use Rattle.sf_parse.specs.Machine.Items.{InBare}
use Rattle.sf_parse.specs.Machine.Inners.{BetweenItems}
use Rattle.sf_parse.specs.Machine.Members.{InOne, InMany}
use Rattle.sf_parse.proofs.Marks.{marks_either, marks_map, marks_steps}
use Rattle.sf_parse.proofs.member.MemberReader.first_bytes.Goals as goal

pub returns : goal.returns
returns c =
    marks_either _ _ _ (λ b. option_map InMany (allow (b == 40) (BetweenItems [])))
    (marks_map InOne _ _ (marks_map InBare _ (bare_start c.args.dialect) c.first_bytes.ensures))
    (marks_steps _ (λ b. option_map InMany (allow (b == 40) (BetweenItems []))) refl)
