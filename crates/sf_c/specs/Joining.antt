-- What joining the lines of a field does, one after another.
use Rattle.std.specs.Prelude.{◌≡◌, ℕ, ◌+◌, ◌<◌, ◌≤◌, ◌↔◌, ◌==◌, if◌then◌else◌}
use Rattle.std.specs.Prelude.{List, [], ◌∷◌, ◌++◌, length, take, drop, Option, Some}
use Rattle.sf_value.specs.Ascii.{comma, space}
use Rattle.sf_value.specs.Devices.{capped}
use Rattle.sf_value.specs.Grammar.Lines.{join}
use Rattle.sf_c.specs.declared.join.Joined.{Joined}
use Rattle.sf_c.specs.declared.status.Status.{Status}
use Rattle.sf_c.specs.declared.status.Status.TheVariants.{Answered, Short, BadCall}

-- what joining may write to
pub record JoinOutput : Type 0 where
  pub buffer : List ℕ
  pub joined : Joined

-- nothing before the first line, and a comma and a space before each other one
abbrev pub separator_of : Joined → List ℕ
separator_of j = if j.begun == 0 then [] else comma ∷ space ∷ []

-- what a line adds to the text
abbrev pub added : Joined → List ℕ → List ℕ
added j line = separator_of j ++ line

-- these lines are joined at the start of the buffer
abbrev pub AreJoined : List (List ℕ) → JoinOutput → Type 0
AreJoined ls r = ((r.joined.begun ≡ 0) ↔ (ls ≡ [])) × (take r.joined.length r.buffer ≡ join ls)

-- the line is appended to the others, and what is after the text is unchanged
pub record PutsOne (old new : JoinOutput) (line : List ℕ) : Type 0 where
  pub joins : (ls : List (List ℕ)) → AreJoined ls old → AreJoined (ls ++ line ∷ []) new
  pub longer : new.joined.length ≡ old.joined.length + length (added old.joined line)
  pub fits : new.joined.length ≤ length old.buffer
  pub begun : new.joined.begun ≡ 1
  pub required : new.joined.required ≡ old.joined.required
  pub prefix : take new.joined.length new.buffer
      ≡ take old.joined.length old.buffer ++ added old.joined line
  pub behind : drop new.joined.length new.buffer ≡ drop new.joined.length old.buffer
  pub kept : length new.buffer ≡ length old.buffer

-- the buffer is too small for the text with this line, and nothing is put into it
pub record RequiresMore (old new : JoinOutput) (line : List ℕ) : Type 0 where
  pub within : old.joined.length ≤ length old.buffer
  pub short : length old.buffer < old.joined.length + length (added old.joined line)
  pub required : new.joined.required ≡ capped (old.joined.length + length (added old.joined line))
  pub buffer : new.buffer ≡ old.buffer
  pub still : new.joined ≡ record old.joined { required = new.joined.required }

-- the line is appended; Short: the buffer is too small for the text with this line; BadCall: the
-- buffer is shorter than the lines so far
abbrev pub PutsLine : JoinOutput → JoinOutput → List ℕ → Option Status → Type 0
PutsLine old new line (Some Answered) = PutsOne old new line
PutsLine old new line (Some Short) = RequiresMore old new line
PutsLine old new line (Some BadCall) = (length old.buffer < old.joined.length) × (new ≡ old)
PutsLine old new line status = ⊥
