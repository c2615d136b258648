-- The bytes that may follow, as bits.
use Rattle.std.specs.Prelude.{ℕ, Option, is_some}
use Rattle.sf_scan.specs.Sets.{Marks}

-- bit b is set exactly if the step takes the byte b, and it is below 128
abbrev pub MarksStep : {S : Type 0} → ℕ → (ℕ → Option S) → Type 0
MarksStep bits step = Marks bits (λ b. is_some (step b))
