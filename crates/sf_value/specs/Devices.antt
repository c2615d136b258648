-- What contracts see of a source and of a sink.
use Rattle.std.specs.Prelude.{◌≡◌, ℕ, ◌+◌, ◌-◌, ◌^◌, ◌<◌, ◌≤◌, min, List, length, take, ⊤}
use Rattle.std.specs.Prelude.{Option, None, Some, Result, Ok, Err}
use Rattle.std.specs.Io.KnownBytes.{Consumes, Appends, Keeps, IsAtEnd}
use Rattle.sf_value.specs.declared.device.Reading.{Reading}
use Rattle.sf_value.specs.declared.device.Writing.{Writing}

-- a count, which stays at 2^64 - 1 once it reaches that
abbrev pub capped : ℕ → ℕ
capped n = min n (2 ^ 64 - 1)

-- what a source shows: the bytes that remain, or that it doesn't show them; how many bytes it gave;
-- how many calls returned the end; how many failed
pub record SourceState : Type 0 where
  pub to_come : Option (List ℕ)
  pub given : ℕ
  pub ends : ℕ
  pub failures : ℕ

-- what a sink shows: the bytes taken, or that it doesn't show them, and how many calls failed
pub record SinkState : Type 0 where
  pub taken : Option (List ℕ)
  pub failures : ℕ

-- the reader that a Reading reads from
abbrev pub reader_of : {R : Type 0} → Reading R → R
reader_of r = r.reader

-- the writer that a Writing writes to
abbrev pub writer_of : {W : Type 0} → Writing W → W
writer_of w = w.writer

-- known bytes are unchanged, or are no longer shown
abbrev pub KeepsOrHides : Option (List ℕ) → Option (List ℕ) → Type 0
KeepsOrHides None new = ⊤
KeepsOrHides (Some xs) None = ⊤
KeepsOrHides (Some xs) (Some ys) = ys ≡ xs

-- a count rose by n, unless it is saturated
abbrev pub Counts : ℕ → ℕ → ℕ → Type 0
Counts old new n = new < 2 ^ 64 - 1 → new ≡ old + n

-- one call gave these bytes
pub record GivesOnce (old new : SourceState) (bytes : List ℕ) : Type 0 where
  pub consumed : Consumes old.to_come new.to_come bytes
  pub given : new.given ≡ capped (old.given + length bytes)
  pub ends : new.ends ≡ old.ends
  pub failures : new.failures ≡ old.failures

-- one call returned that no byte remains
pub record EndsOnce (old new : SourceState) : Type 0 where
  pub kept : Keeps old.to_come new.to_come
  pub none : IsAtEnd new.to_come
  pub given : new.given ≡ old.given
  pub ends : new.ends ≡ capped (old.ends + 1)
  pub failures : new.failures ≡ old.failures

-- one call failed, and gave nothing
pub record FailsOnce (old new : SourceState) : Type 0 where
  pub kept : KeepsOrHides old.to_come new.to_come
  pub given : new.given ≡ old.given
  pub ends : new.ends ≡ old.ends
  pub failures : new.failures ≡ capped (old.failures + 1)

-- pull left block: it gave the n bytes at its start, or it failed; n is 0 only at the end of the
-- source or for an empty block, for which nothing is given and the call can't fail
abbrev pub Pulls : {E : Type 0} → SourceState → SourceState → Result ℕ E → List ℕ → Type 0
Pulls old new (Ok n) block =
    (n ≤ length block)
    × (0 < n → GivesOnce old new (take n block))
    × (n ≡ 0 → 0 < length block → EndsOnce old new)
    × (length block ≡ 0 → new ≡ old)
Pulls old new (Err _) block = (0 < length block) × FailsOnce old new

-- one call took these bytes
pub record TakesOnce (old new : SinkState) (bytes : List ℕ) : Type 0 where
  pub taken : Appends old.taken new.taken bytes
  pub failures : new.failures ≡ old.failures

-- one call failed, and took nothing
pub record RefusesOnce (old new : SinkState) : Type 0 where
  pub kept : Keeps old.taken new.taken
  pub failures : new.failures ≡ capped (old.failures + 1)

-- send got bytes, and took the first n, at least one if there are any, or failed; without bytes it
-- can't fail
abbrev pub Sends : {E : Type 0} → SinkState → SinkState → Result ℕ E → List ℕ → Type 0
Sends old new (Ok n) bytes =
    (n ≤ length bytes) × (0 < length bytes → 0 < n) × TakesOnce old new (take n bytes)
Sends old new (Err _) bytes = (0 < length bytes) × RefusesOnce old new

-- calls gave these bytes, none of them failed, and none returned the end
pub record Gives (old new : SourceState) (bytes : List ℕ) : Type 0 where
  pub consumed : Consumes old.to_come new.to_come bytes
  pub given : Counts old.given new.given (length bytes)
  pub ends : new.ends ≡ old.ends
  pub failures : new.failures ≡ old.failures

-- calls gave these bytes, and the last call returned the end
pub record GivesAndEnds (old new : SourceState) (bytes : List ℕ) : Type 0 where
  pub mid : SourceState
  pub gives : Gives old mid bytes
  pub ended : EndsOnce mid new

-- calls gave these bytes, and the last call failed
pub record GivesAndFails (old new : SourceState) (bytes : List ℕ) : Type 0 where
  pub mid : SourceState
  pub gives : Gives old mid bytes
  pub failed : FailsOnce mid new
