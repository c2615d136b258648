-- Sets of bytes as the bits of a number.
use Rattle.std.specs.Prelude.{◌≡◌, ℕ, Bool, nat_lt, ◌&&◌, if◌then◌else◌}
use Rattle.std.specs.Int.{bit_at}

-- bit b is set exactly if the byte b passes the test and is below 128, as all bytes of texts are
abbrev pub Marks : ℕ → (ℕ → Bool) → Type 0
Marks bits test = (b : ℕ) → bit_at bits b ≡ (if nat_lt b 128 && test b then 1 else 0)
