use Rattle.std.proofs.Common.{refl}
use Rattle.sf_parse.specs.Machine.Entries.{InMemberValue}
use Rattle.sf_parse.proofs.Prefixes.{part_above}
use Rattle.sf_parse.proofs.OpenParts.{member_in_entry, flag_part, flag_kept}
use Rattle.sf_parse.proofs.entry.EntryReaderLevel.push_part.Goals as goal

pub returns-in-InMemberValue-clause-goes : goal.returns-in-InMemberValue-clause-goes
returns-in-InMemberValue-clause-goes c =
    let k = c.self.inside.key in
    rw (← c.self.view_is, c.in-InMemberValue.is)
    (part_above _ _ (InMemberValue k) (member_in_entry _ k) _ _ _ _ _ _ refl c.push.ensures.prefix)

pub invariant_of-self-in-InFlag : goal.invariant_of-self-in-InFlag
invariant_of-self-in-InFlag c =
    let fits = rw c.in-InFlag.is at c.self.invariant in (
      fits.0,
      flag_kept c.args.context.now.dialect c.self.inside.key _ _ _ _ fits.1
          c.in_ok-took-in-InFlag.ensures.prefix.goes,
    )

pub returns-in-InFlag-clause-goes : goal.returns-in-InFlag-clause-goes
returns-in-InFlag-clause-goes c =
    let fits = rw c.in-InFlag.is at c.self.invariant in
    rw (← c.self.view_is, c.in-InFlag.is)
    (flag_part c.args.context.now.dialect _ _ _ _ _ fits.1 c.in_ok-took-in-InFlag.ensures.prefix.goes)
