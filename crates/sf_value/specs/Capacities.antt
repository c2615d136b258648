-- How much capacity vectors have.
use Rattle.std.specs.Prelude.{ℕ, ◌≡◌, ◌<◌, ◌≤◌, ◌^◌, max}
use Rattle.std.specs.Int.{IsNextPowerOfTwo}

-- whether it is the capacity of a vector to which so many values were added one by one: it has none
-- before the first, then four, and twice as many as before whenever one more is added to a full one
abbrev pub HasGrown : ℕ → ℕ → Type 0
HasGrown len capacity =
    (len ≡ 0 → capacity ≡ 0) × (0 < len → len ≤ 2 ^ 63 → IsNextPowerOfTwo (max len 4) capacity)
