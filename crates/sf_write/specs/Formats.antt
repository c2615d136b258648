-- Writing a text to a formatter.
use Rattle.std.specs.Prelude.{◌≡◌, ℕ, List}
use Rattle.std.specs.Fmt.{HasWritten, IsPlainFormatter}
use Rattle.sf_write.specs.declared.formats.Formatting.{Formatting}

-- a chunk was written to the formatter, if it formats plainly, and the formatter is the same as
-- before
pub record WritesChunk {W : Type 0} (took : W → List ℕ → W → Type 0) (old : Formatting W)
    (chunk : List ℕ) (new : Formatting W) : Type 0 where
  pub same_formatter : new.f.ghost_name ≡ old.f.ghost_name
  pub sends : IsPlainFormatter old.f.now → HasWritten took old.f.now chunk new.f.now
