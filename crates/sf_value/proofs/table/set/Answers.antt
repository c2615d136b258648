use Rattle.std.proofs.Common.{sym, subst, ◌∙◌}
use Rattle.sf_value.specs.Entries.{AreEntries}
use Rattle.sf_value.proofs.EntryMaps.{settle-push, AreEntries-insert}
use Rattle.sf_value.proofs.table.set.Goals as goal

pub returns-in-Ok-clause-new : goal.returns-in-Ok-clause-new
returns-in-Ok-clause-new g c =
    c.in-Ok.ensures.entries
    ∙ sym (settle-push c.args.map.now.entries c.args.key c.args.value c.requires.distinct)

pub returns-in-Ok-clause-entries : goal.returns-in-Ok-clause-entries
returns-in-Ok-clause-entries g c =
    subst AreEntries (sym c.in-Ok.ensures.entries)
    (AreEntries-insert c.args.map.now.entries c.args.key c.args.value c.requires
    c.as_bytes.ensures.key)
