use Rattle.std.proofs.Common.{◌≡◌, []}
use Rattle.sf_value.specs.declared.value.Member.{Member}
use Rattle.sf_value.specs.declared.dialect.Dialect.TheVariants.{Rfc9651}
use Rattle.sf_value.specs.Entries.{AreEntries}
use Rattle.sf_value.specs.Grammar.Pairs.{Pairs}
use Rattle.sf_value.specs.Grammar.Valid.{ValidEntries}
use Rattle.sf_value.proofs.EntryMaps.{AreEntries-none}
use Rattle.sf_write.proofs.field.has_no_text.Goals as goal

no_entries : (ps : Pairs Member) → ps ≡ [] → ValidEntries Rfc9651 ps
no_entries ps e = let none : AreEntries {V = Member} [] = AreEntries-none in rw e (tt, none.distinct)

pub returns-in-Dict-clause-valid : goal.returns-in-Dict-clause-valid
returns-in-Dict-clause-valid c =
    λ h. rw c.in-Dict.is (no_entries c.in-Dict.dict.members (c.is_empty-in-Dict.ensures.0 h))
