-- Looking up a key in an ordered map, as Dictionaries and parameters are (RFC 9651 sections 3.1.2
-- and
-- 3.2).
use Rattle.std.specs.Prelude.{ℕ, true, false, List, [], ◌∷◌, Option, Some, None}
use Rattle.sf_rfc.specs.Rfc9651.Words.{same}

-- the value with this key
abbrev pub value_of : {V : Type 0} → List ℕ → List (List ℕ × V) → Option V
value_of key [] = None
value_of key (p ∷ ps) = elim (same p.0 key) [ true ↦ Some p.1 | false ↦ value_of key ps ]
