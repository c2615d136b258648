-- Bytes that a value stores in place, without an allocation.
use Rattle.std.specs.Prelude.{ℕ, ◌≤◌, List, length}

-- at most 16 bytes
abbrev pub FitsInPlace : List ℕ → Type 0
FitsInPlace bytes = length bytes ≤ 16
