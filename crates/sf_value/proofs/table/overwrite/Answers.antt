use Rattle.std.proofs.Common.{sym, ◌∙◌}
use Rattle.sf_value.proofs.EntryMaps.{insert_entry-present, settle-push}
use Rattle.sf_value.proofs.table.overwrite.Goals as goal

pub returns-clause-new : goal.returns-clause-new
returns-clause-new g c =
    let k = c.args.key.now in
    let v = c.args.value in
    let ps = c.args.map.now.entries in
    (c.get_mut.follows.holds v).0
    ∙ insert_entry-present k c.in-Some.old.now v ps (sym c.in-Some.ensures.value)
    ∙ sym (settle-push ps k v c.requires.entries.distinct)
