-- What the last value of a key leaves, if pairs are read one after another.
use Rattle.std.specs.Prelude.{ℕ, if◌then◌else◌, List, [], ◌∷◌, Option, Some}
use Rattle.std.specs.Str.{bytes_eq}
use Rattle.sf_value.specs.Grammar.Pairs.{Pairs}

-- what is known of the key k after a pair: f of its value if it has this key, otherwise y
abbrev pub overwritten : {V Y : Type 0} → (Option V → Y) → List ℕ → Y → List ℕ × V → Y
overwritten f k y p = if bytes_eq k p.0 then f (Some p.1) else y

-- what is known of the key k after several pairs
abbrev pub overwritten_by : {V Y : Type 0} → (Option V → Y) → List ℕ → Y → Pairs V → Y
overwritten_by f k y [] = y
overwritten_by f k y (p ∷ ps) = overwritten_by f k (overwritten f k y p) ps
