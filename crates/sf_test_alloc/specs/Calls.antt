-- What calls showed, one after another.
use Rattle.std.specs.Prelude.{ℕ, List, ◌∷◌, replicate}
use Rattle.sf_test_alloc.specs.declared.calls.Seen.{Seen}
use Rattle.sf_test_alloc.specs.declared.calls.Seen.TheVariants.{Right, Refused}

-- one call that was right, with ample memory, and then n that were refused
abbrev pub right_then_refused : ℕ → List Seen
right_then_refused n = Right ∷ replicate n Refused
