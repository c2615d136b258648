use Rattle.std.proofs.Common.{refl}
use Rattle.sf_value.specs.Grammar.Classes.{is_key_start, is_in_key}
use Rattle.sf_parse.specs.Machine.Texts.{word_step}
use Rattle.sf_parse.specs.Machine.Entries.{InKey, InMemberValue, entry_step}
use Rattle.sf_parse.proofs.Prefixes.{part_above, goes_above}
use Rattle.sf_parse.proofs.ByteRuns.{word_goes, word_run_kept}
use Rattle.sf_parse.proofs.OpenParts.{key_in_entry, member_in_entry, flag_part, flag_kept}
use Rattle.sf_parse.proofs.entry.EntryReaderLevel.take_part.Goals as goal

pub invariant_of-self-in-InKey : goal.invariant_of-self-in-InKey
invariant_of-self-in-InKey c = (
  word_run_kept is_key_start is_in_key _ _ _ c.in_ok-extend-in-InKey.ensures.bytes
      c.any_prefix.ensures.every c.self.invariant.0,
  c.self.invariant.1,
)

pub returns-in-InKey-clause-goes : goal.returns-in-InKey-clause-goes
returns-in-InKey-clause-goes c =
    let d = c.args.context.now.dialect in
    rw (← c.self.view_is, c.in-InKey.is)
    (goes_above (word_step is_in_key) (entry_step d) InKey (key_in_entry d) _ _ _ _
    (word_goes is_in_key _ _ _ _ _ c.any_prefix.ensures.whole c.any_prefix.ensures.every
    c.in_ok-extend-in-InKey.ensures.bytes))

pub returns-in-InMemberValue-clause-goes : goal.returns-in-InMemberValue-clause-goes
returns-in-InMemberValue-clause-goes c =
    let k = c.self.inside.key in
    rw (← c.self.view_is, c.in-InMemberValue.is)
    (part_above _ _ (InMemberValue k) (member_in_entry _ k) _ _ _ _ _ _ refl c.take.ensures.prefix)

pub invariant_of-self-in-InFlag : goal.invariant_of-self-in-InFlag
invariant_of-self-in-InFlag c =
    let fits = rw c.in-InFlag.is at c.self.invariant in (
      fits.0,
      flag_kept c.args.context.now.dialect c.self.inside.key _ _ _ _ fits.1
          c.in_ok-rest-in-InFlag.ensures.prefix.goes,
    )

pub returns-in-InFlag-clause-goes : goal.returns-in-InFlag-clause-goes
returns-in-InFlag-clause-goes c =
    let fits = rw c.in-InFlag.is at c.self.invariant in
    rw (← c.self.view_is, c.in-InFlag.is)
    (flag_part c.args.context.now.dialect _ _ _ _ _ fits.1 c.in_ok-rest-in-InFlag.ensures.prefix.goes)
