-- Lists of pairs of a key and a value, and the effect of repeated keys.
use Rattle.std.specs.Prelude.{ℕ, not, if◌then◌else◌, List, [], ◌∷◌, ◌++◌, Option}
use Rattle.std.specs.List.{IsDistinct, filter}
use Rattle.std.specs.Map.{lookup, keys_of}
use Rattle.std.specs.Str.{bytes_eq}

-- keys with values, in order (3.1.2, 3.2)
abbrev pub Pairs : Type 0 → Type 0
Pairs V = List (List ℕ × V)

-- the value at the key's last place, or v if it has none
abbrev pub latest : {V : Type 0} → List ℕ → V → Pairs V → V
latest k v [] = v
latest k v (p ∷ ps) = latest k (if bytes_eq k p.0 then p.1 else v) ps

-- the pairs of other keys
abbrev pub without : {V : Type 0} → List ℕ → Pairs V → Pairs V
without k ps = filter (λ p. not (bytes_eq k p.0)) ps

-- the distinct keys in the order of their first places, each with the value at its last place
-- (4.2.2, 4.2.3.2: a later value overwrites an earlier one and takes its place)
abbrev pub settle : {V : Type 0} → Pairs V → Pairs V
settle [] = []
settle (p ∷ ps) = (p.0, latest p.0 p.1 ps) ∷ without p.0 (settle ps)

-- one more pair, settled
abbrev pub put : {V : Type 0} → Pairs V → List ℕ → V → Pairs V
put ps k v = settle (ps ++ (k, v) ∷ [])

-- the value of a key, if it has one
abbrev pub value_at : {V : Type 0} → List ℕ → Pairs V → Option V
value_at k ps = lookup (bytes_eq k) ps

-- no key occurs twice
abbrev pub HasDistinctKeys : {V : Type 0} → Pairs V → Type 0
HasDistinctKeys ps = IsDistinct bytes_eq (keys_of ps)
