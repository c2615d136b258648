-- What scanning one parameter returns.
use Rattle.std.specs.Prelude.{◌≡◌, ℕ, true, false, List, ◌∷◌, Result, Ok, Err}
use Rattle.std.specs.Borrow.{Bor}
use Rattle.sf_value.specs.declared.dialect.Dialect.{Dialect}
use Rattle.sf_value.specs.declared.value.Bare.{Bare}
use Rattle.sf_value.specs.Ascii.{semicolon}
use Rattle.sf_value.specs.Grammar.BareItems.{SpellsBare}
use Rattle.sf_value.specs.Grammar.Parameters.{SpellsParam}
use Rattle.sf_scan.specs.Leaves.{leaf_bare}
use Rattle.sf_scan.specs.Places.{in_param, ends_params}
use Rattle.sf_scan.specs.Stops.{Reads, Refuses}
use Rattle.sf_scan.specs.declared.leaf.Leaf.{Leaf}
use Rattle.sf_scan.specs.declared.leaf.Param.{Param}
use Rattle.sf_scan.specs.declared.place.Stop.{Stop}
use Rattle.sf_scan.specs.declared.place.ParamPlace.{ParamPlace}

-- a parameter after its semicolon, as a language whose value is the pair of its key and its value
abbrev pub SpellsPair : Dialect → List ℕ → List ℕ × Bare → Type 0
SpellsPair d t p = SpellsParam d (semicolon ∷ t) p.0 p.1

-- the pair of a parameter that was read
abbrev pub pair_of : Param → List ℕ × Bare
pair_of p = (p.key.now, leaf_bare p.leaf)

-- the text begins with a parameter with this key, up to the stop, and this was made of its value and
-- of some bytes that spell the value
pub record MakesParam {M : Type 0} (makes : List ℕ → Leaf → M → Type 0) (d : Dialect)
    (text key : List ℕ) (made : M) (stop : Stop ParamPlace) : Type 0 where
  pub leaf : Leaf
  pub reads :
      Reads (SpellsPair d) (in_param d stop.place) text (key, leaf_bare leaf) stop.left.now
  pub ends : ends_params stop.place ≡ true
  pub value : List ℕ
  pub spelled : SpellsBare d value (leaf_bare leaf)
  pub made_of : makes value leaf made

-- the text begins with no parameter: it goes wrong at the stop
pub record RefusesParam (d : Dialect) (text : List ℕ)
    (stop : Stop ParamPlace) : Type 0 where
  pub refuses : Refuses (SpellsPair d) (in_param d stop.place) text stop.left.now
  pub open_still : ends_params stop.place ≡ false

abbrev pub ScansParam : {M : Type 0} → (List ℕ → Leaf → M → Type 0) → Dialect → List ℕ
    → Result (Bor (List ℕ) × M × Stop ParamPlace) (Stop ParamPlace) → Type 0
ScansParam makes d text (Ok r) = MakesParam makes d text r.0.now r.1 r.2
ScansParam makes d text (Err stop) = RefusesParam d text stop
