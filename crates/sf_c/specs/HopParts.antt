-- How the text of a hop is written, part by part.
use Rattle.std.specs.Prelude.{◌≡◌, ℕ, ◌∷◌, ◌++◌, Bool, true, false, List, [], Option, None, Some}
use Rattle.sf_value.specs.Ascii.{semicolon}
use Rattle.sf_value.specs.declared.value.Bare.{Bare}
use Rattle.sf_value.specs.Grammar.Canonical.{canon_value}
use Rattle.sf_use.specs.declared.cache_status.hop.Hop.{Hop}
use Rattle.sf_c.specs.declared.hop_parts.GivenHop.{GivenHop}
use Rattle.sf_c.specs.GivenHops.{GivesHop, hop_text}

-- there is such a value, or there is none
abbrev pub Decides : {X : Type 0} → (X → Type 0) → Bool → Type 0
Decides P true = (x : _) × P x
Decides P false = (x : _) → P x → ⊥

-- a parameter in the canonical text, if it has a value
abbrev pub param_text : List ℕ → Option Bare → List ℕ
param_text key None = []
param_text key (Some x) = semicolon ∷ (key ++ canon_value x)

-- the text of the hop that the struct describes, whose spans are in the bytes
abbrev pub SpellsHop : GivenHop → List ℕ → Type 0
SpellsHop g t = (h : Hop) × GivesHop g.bytes.now g.node.now h × (t ≡ hop_text h)
