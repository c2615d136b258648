use Rattle.std.specs.Option.{option_map}
use Rattle.std.proofs.Common.{ℕ, List, refl, sym, ap, ◌∙◌, [], subst}
use Rattle.sf_value.specs.declared.value.Kind.TheVariants as kind_is
use Rattle.sf_value.specs.Grammar.Classes.{is_sp}
use Rattle.sf_value.specs.Grammar.Words.{Every}
use Rattle.sf_value.specs.Grammar.Fields.{dict_of}
use Rattle.sf_value.specs.declared.value.Member.{Member}
use Rattle.sf_value.specs.Grammar.Pairs.{Pairs, put}
use Rattle.sf_parse.specs.Machine.Entries.{InKey, entry_start, entry_step, entry_finish}
use Rattle.sf_parse.specs.MemberEnds.{with_entry}
use Rattle.sf_parse.specs.Machine.States.{InDict}
use Rattle.sf_parse.specs.FieldSteps.{dict_steps}
use Rattle.sf_parse.proofs.Prefixes.{never, every_split}
use Rattle.sf_parse.proofs.SeriesSteps.{end_is}
use Rattle.sf_parse.proofs.WholeTexts.{members_parsed}
use Rattle.sf_parse.proofs.field.DictReaderWholeText.parse.Goals as goal

pub returns-then-are_all-clause-parses : goal.returns-then-are_all-clause-parses
returns-then-are_all-clause-parses c =
    let d = c.args.context.now.dialect in
    let with : Pairs Member → List ℕ × Member → Pairs Member = λ ps e. put ps e.0 e.1 in
    let all = c.are_all.ensures c.if-are_all.true in
    members_parsed entry_start (entry_step d) with_entry [] with d kind_is.Dict InDict refl
    (dict_steps d) _ _ _ _ _ (InKey []) _ c.after_spaces.ensures (c.in-Ok.ensures.goes _)
    c.in-Ok.ensures.none_open all.1 all.0
    (λ t e. ap (option_map dict_of)
    (sym (end_is entry_finish [] (λ ps p. put ps p.0 p.1) with_entry (λ s given. refl) t) ∙ e))

pub returns-in-Err-clause-allocation_free : goal.returns-in-Err-clause-allocation_free
returns-in-Err-clause-allocation_free c =
    λ w. never (c.in-Err.ensures.allocation_free (InKey [])
    (every_split is_sp c.after_spaces.ensures.prefix _
    (subst (Every is_sp) c.after_spaces.ensures.split w)).1)
