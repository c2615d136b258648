-- How a buffer is filled.
use Rattle.std.specs.Prelude.{◌≡◌, ℕ, ◌+◌, ◌≤◌, List, ◌++◌, length, take, drop}
use Rattle.sf_c.specs.declared.filling.Filling.{Filling as Filled}

-- bytes that fit are put behind those that were put before, and nothing else changes
pub record Fills (old : Filled) (bytes : List ℕ) (new : Filled) : Type 0 where
  pub same : new.buffer.ghost_name ≡ old.buffer.ghost_name
  pub long : length new.buffer.now ≡ length old.buffer.now
  pub len : old.len + length bytes ≤ length old.buffer.now → new.len ≡ old.len + length bytes
  pub puts : old.len + length bytes ≤ length old.buffer.now
      → new.buffer.now
      ≡ (take old.len old.buffer.now ++ bytes) ++ drop (old.len + length bytes) old.buffer.now
