use Rattle.std.proofs.Common.{sym, ap, subst, ◌∙◌}
use Rattle.std.specs.Str.{bytes_eq}
use Rattle.indexmap.specs.IndexMap.{insert_entry}
use Rattle.sf_value.specs.Entries.{AreEntries}
use Rattle.sf_value.proofs.EntryMaps.{settle-push, AreEntries-insert}
use Rattle.sf_value.proofs.table.set_named.Goals as goal

pub returns-in-Ok-insert-clause-new : goal.returns-in-Ok-insert-clause-new
returns-in-Ok-insert-clause-new g c =
    let ps = c.args.map.now.entries in
    let v = c.args.value in
    c.in-Ok-insert.ensures.entries
    ∙ ap (λ k. insert_entry bytes_eq ps k v) (c.from_bytes.ensures ∙ c.in-Ok.ensures.bytes)
    ∙ sym (settle-push ps c.args.key.now v c.requires.entries.distinct)

pub returns-in-Ok-insert-clause-entries : goal.returns-in-Ok-insert-clause-entries
returns-in-Ok-insert-clause-entries g c =
    let ps = c.args.map.now.entries in
    let v = c.args.value in
    subst AreEntries
    (sym (c.in-Ok-insert.ensures.entries
    ∙ ap (λ k. insert_entry bytes_eq ps k v) (c.from_bytes.ensures ∙ c.in-Ok.ensures.bytes)))
    (AreEntries-insert ps c.args.key.now v c.requires.entries c.requires.key)
