-- The field with the own hop at its end, and a field that can't have one.
use Rattle.std.specs.Prelude.{◌≡◌, ℕ, Bool, true, false, codes, List as Seq, [], ◌∷◌, ◌++◌, ⊤}
use Rattle.std.specs.Prelude.{Option, Some, None, Result, Ok, Err}
use Rattle.sf_value.specs.declared.dialect.Dialect.{Dialect}
use Rattle.sf_value.specs.declared.value.Field.TheVariants as field
use Rattle.sf_value.specs.declared.value.Kind.TheVariants as kind
use Rattle.sf_value.specs.declared.value.List.{List}
use Rattle.sf_value.specs.Grammar.Lines.{join}
use Rattle.sf_parse.specs.declared.refusal.Refusal.{Refusal}
use Rattle.sf_parse.specs.declared.refusal.Refusal.TheVariants.{OutOfMemory, Syntax, TooLong}
use Rattle.sf_parse.specs.declared.refusal.Refusal.TheVariants.{ReadFault}
use Rattle.sf_parse.specs.Parsers.{IsOnly}
use Rattle.sf_field.specs.Lines.{ParsesLines}
use Rattle.sf_use.specs.declared.cache_status.appended.Appended.{Appended}
use Rattle.sf_use.specs.declared.cache_status.appended.Appended.TheVariants.{Joined, Apart}
use Rattle.sf_use.specs.declared.cache_status.appended.AppendFault.{AppendFault}
use Rattle.sf_use.specs.declared.cache_status.appended.AppendFault.TheVariants.{Conflict}
use Rattle.sf_use.specs.declared.cache_status.appended.AppendFault.TheVariants as fault
use Rattle.sf_use.specs.declared.cache_status.hop.Hop.{Hop}
use Rattle.sf_use.specs.CacheStatus.Members.{entry, is_conflict}

-- the refusal of a text that spells no value
abbrev pub IsSyntaxFault : Refusal → Type 0
IsSyntaxFault (Syntax place found expected may_end) = ⊤
IsSyntaxFault OutOfMemory = ⊥
IsSyntaxFault (TooLong limit) = ⊥
IsSyntaxFault (ReadFault place) = ⊥

-- lines that are well-formed keep their members, and the hop's is the last: the member "closest to
-- the user", while "caches SHOULD preserve the existing field value" (2). Lines that are malformed
-- are ignored as a whole, with each line that is joined to them (RFC 9651 section 4.2), so the
-- hop's member is the only one of a List apart. A hop with hit and fwd is not written: "only one of
-- them should appear on each list member" (2.1)
abbrev pub AppendsIn : Dialect → Seq (Seq ℕ) → Hop → Result Appended AppendFault → Type 0
AppendsIn d lines h (Ok (Joined list)) =
    (l : List)
    × IsOnly d kind.List (join lines) (field.List l)
    × (list.members ≡ l.members ++ entry h ∷ [])
    × (is_conflict h.outcome ≡ false)
AppendsIn d lines h (Ok (Apart own refusal)) =
    ParsesLines d kind.List lines (Err refusal)
    × IsSyntaxFault refusal
    × (own.members ≡ entry h ∷ [])
    × (is_conflict h.outcome ≡ false)
AppendsIn d lines h (Err Conflict) = is_conflict h.outcome ≡ true
AppendsIn d lines h (Err fault.OutOfMemory) = is_conflict h.outcome ≡ false

-- the error messages
abbrev pub append_fault_text : AppendFault → Seq ℕ
append_fault_text Conflict = codes "the hop has both hit and fwd"
append_fault_text fault.OutOfMemory = codes "out of memory"
