-- Whether a value exceeds the buffers of a call.
use Rattle.std.specs.Prelude.{◌≡◌, ℕ, ◌+◌, ◌^◌, ◌<◌, ◌≤◌, List, length, Option, Some, None}
use Rattle.sf_view.specs.declared.counting.Counts.{Counts}
use Rattle.sf_c.specs.declared.parse.Sizes.{Sizes}
use Rattle.sf_c.specs.declared.status.Status.{Status}
use Rattle.sf_c.specs.declared.status.Status.TheVariants.{Short, TooLong, TooMany}

-- the struct has the numbers of the value, and no offset would be 2^32 or more
abbrev pub SaysCounts : List ℕ → Counts → Sizes → Type 0
SaysCounts t c sizes =
    (sizes.nodes ≡ c.nodes) × (sizes.bytes ≡ c.bytes) × (length t + c.bytes < 2 ^ 32)

-- a value of the text t with so many nodes and bytes fits into buffers of these lengths; or it
-- doesn't, and the sizes are set unless an offset would be 2^32 or more
abbrev pub Exceeds : List ℕ → Counts → ℕ → ℕ → Sizes → Sizes → Option Status → Type 0
Exceeds t c nodes bytes old new None =
    (new ≡ old) × (c.nodes ≤ nodes) × (c.bytes ≤ bytes) × (length t + c.bytes < 2 ^ 32)
Exceeds t c nodes bytes old new (Some TooLong) = (new ≡ old) × (2 ^ 32 ≤ length t + c.bytes)
Exceeds t c nodes bytes old new (Some TooMany) = SaysCounts t c new × (nodes < c.nodes)
Exceeds t c nodes bytes old new (Some Short) =
    SaysCounts t c new × (c.nodes ≤ nodes) × (bytes < c.bytes)
Exceeds t c nodes bytes old new (Some status) = ⊥
