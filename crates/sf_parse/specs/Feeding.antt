-- What a parser took of the prefix of a chunk.
use Rattle.std.specs.Prelude.{◌≡◌, List, ◌++◌, ℕ, Result, Ok, Err}
use Rattle.std.specs.Borrow.{Bor}
use Rattle.sf_parse.specs.declared.refusal.Refusal.{Refusal}
use Rattle.sf_parse.specs.Parsers.{Progress, Feeds}
use Rattle.sf_parse.specs.AllocationFreeParsers.{IsAllocationFree, IsOther}

-- the parser was fed the bytes before the rest of the chunk
abbrev pub FeedsPrefix : Progress → Progress → List ℕ → List ℕ → Type 0
FeedsPrefix old new chunk rest = (taken : List ℕ) × (chunk ≡ taken ++ rest) × Feeds old new (Ok tt) taken

-- the parser is still allocation-free for the rest and for what comes after it, or it refused for
-- another reason than a failed allocation
abbrev pub TakesAllocationFree : Progress → List ℕ → Result (Bor (List ℕ)) Refusal → Type 0
TakesAllocationFree p more (Ok rest) = IsAllocationFree p (rest.now ++ more)
TakesAllocationFree p more (Err e) = IsOther e
