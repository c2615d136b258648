-- Parsers that do not allocate for certain further bytes.
use Rattle.std.specs.Prelude.{◌≡◌, ℕ, List, None, Result, Ok, Err, ⊤}
use Rattle.sf_value.specs.declared.value.Field.{Field}
use Rattle.sf_parse.specs.AllocationFree.{FieldFree}
use Rattle.sf_parse.specs.Parsers.{Progress}
use Rattle.sf_parse.specs.declared.refusal.Refusal.{Refusal}
use Rattle.sf_parse.specs.declared.refusal.Refusal.TheVariants.{OutOfMemory, Syntax, TooLong}
use Rattle.sf_parse.specs.declared.refusal.Refusal.TheVariants.{ReadFault}

-- the parser refused nothing, and in its state these bytes and the end after them do not allocate
pub record IsAllocationFree (p : Progress) (more : List ℕ) : Type 0 where
  pub unrefused : p.refusal ≡ None
  pub state : FieldFree p.state more

-- the refusal is not out of memory
abbrev pub IsOther : Refusal → Type 0
IsOther OutOfMemory = ⊥
IsOther (Syntax place found expected may_end) = ⊤
IsOther (TooLong max) = ⊤
IsOther (ReadFault place) = ⊤

-- the parser is still allocation-free, or refused for another reason than a failed allocation
abbrev pub KeepsAllocationFree : Progress → List ℕ → Result (Unit {0}) Refusal → Type 0
KeepsAllocationFree p more (Ok u) = IsAllocationFree p more
KeepsAllocationFree p more (Err e) = IsOther e

-- there is a value, or a refusal for another reason than a failed allocation
abbrev pub NotForMemory : Result Field Refusal → Type 0
NotForMemory (Ok v) = ⊤
NotForMemory (Err e) = IsOther e
