-- A consumer's answer as the meaning of a field.
use Rattle.std.specs.Prelude.{◌≡◌, ℕ, Result, Ok, Err, IsOk}
use Rattle.sf_field.specs.declared.consumer.UseFault.{UseFault}
use Rattle.sf_field.specs.declared.consumer.UseFault.TheVariants.{NotACache, OutOfMemory}

-- the answer is the meaning, and the fault is that of the meaning, which takes precedence over a
-- failed allocation: that is returned only if the meaning is an answer
abbrev pub Gives : {A : Type 0} → Result A ℕ → Result A UseFault → Type 0
Gives meant (Ok answer) = meant ≡ Ok answer
Gives meant (Err (NotACache index)) = meant ≡ Err index
Gives meant (Err OutOfMemory) = IsOk meant
