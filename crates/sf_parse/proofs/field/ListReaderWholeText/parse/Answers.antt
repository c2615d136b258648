use Rattle.std.specs.Option.{option_map}
use Rattle.std.proofs.Common.{refl, sym, ap, ◌∙◌, [], ◌∷◌, ◌++◌, subst}
use Rattle.sf_value.specs.declared.value.Kind.TheVariants as kind_is
use Rattle.sf_value.specs.Grammar.Classes.{is_sp}
use Rattle.sf_value.specs.Grammar.Words.{Every}
use Rattle.sf_value.specs.Grammar.Fields.{list_of}
use Rattle.sf_parse.specs.Machine.Bares.{InBoolean}
use Rattle.sf_parse.specs.Machine.Items.{InBare}
use Rattle.sf_parse.specs.Machine.Members.{InOne, member_start, member_step, member_finish}
use Rattle.sf_parse.specs.MemberEnds.{with_member}
use Rattle.sf_parse.specs.declared.boolean.BooleanState.TheVariants.{QuestionMark}
use Rattle.sf_parse.specs.Machine.States.{InList}
use Rattle.sf_parse.specs.FieldSteps.{list_steps}
use Rattle.sf_parse.proofs.Prefixes.{never, every_split}
use Rattle.sf_parse.proofs.SeriesSteps.{end_is}
use Rattle.sf_parse.proofs.WholeTexts.{members_parsed}
use Rattle.sf_parse.proofs.field.ListReaderWholeText.parse.Goals as goal

pub returns-then-are_all-clause-parses : goal.returns-then-are_all-clause-parses
returns-then-are_all-clause-parses c =
    let d = c.args.context.now.dialect in
    let all = c.are_all.ensures c.if-are_all.true in
    members_parsed (member_start d) (member_step d) with_member [] (λ ms m. ms ++ m ∷ []) d
    kind_is.List InList refl (list_steps d) _ _ _ _ _ (InOne (InBare (InBoolean QuestionMark))) _
    c.after_spaces.ensures (c.in-Ok.ensures.goes _) c.in-Ok.ensures.none_open all.1 all.0
    (λ t e. ap (option_map list_of)
    (sym (end_is member_finish [] (λ ms m. ms ++ m ∷ []) with_member (λ s given. refl) t) ∙ e))

pub returns-in-Err-clause-allocation_free : goal.returns-in-Err-clause-allocation_free
returns-in-Err-clause-allocation_free c =
    λ w. never (c.in-Err.ensures.allocation_free (InOne (InBare (InBoolean QuestionMark)))
    (every_split is_sp c.after_spaces.ensures.prefix _
    (subst (Every is_sp) c.after_spaces.ensures.split w)).1)
