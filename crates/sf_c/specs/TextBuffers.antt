-- A text in the caller's buffer.
use Rattle.std.specs.Prelude.{◌≡◌, ℕ, ◌<◌, ◌≤◌, List, length, Option, Some}
use Rattle.sf_c.specs.Normal.{IsAtStart}
use Rattle.sf_c.specs.declared.status.Status.{Status}
use Rattle.sf_c.specs.declared.status.Status.TheVariants.{Answered, Short, OutOfMemory}

-- what a call that returns a text may write to
pub record TextBuffer : Type 0 where
  pub buffer : List ℕ
  pub required : ℕ

-- the text is at the start of a buffer that is long enough; a shorter one is unchanged. The length
-- of the text is stored in both cases
abbrev pub PutsText : TextBuffer → TextBuffer → List ℕ → Option Status → Type 0
PutsText old new text (Some Answered) =
    (new.required ≡ length text)
    × (length text ≤ length old.buffer)
    × IsAtStart text old.buffer new.buffer
PutsText old new text (Some Short) =
    (new.required ≡ length text)
    × (length old.buffer < length text)
    × (new.buffer ≡ old.buffer)
PutsText old new text status = ⊥

-- the text is put into the buffer, or the buffer is too small, or an allocation failed and
-- everything is unchanged
abbrev pub Writes : TextBuffer → TextBuffer → List ℕ → Option Status → Type 0
Writes old new text (Some OutOfMemory) = new ≡ old
Writes old new text status = PutsText old new text status
