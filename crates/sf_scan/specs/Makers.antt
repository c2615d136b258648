-- What is made of parameters.
use Rattle.std.specs.Prelude.{⊤, ◌≡◌, ℕ, true, false, List, [], ◌∷◌, ◌++◌, Result, Ok, Err}
use Rattle.std.specs.Prelude.{Option, Some, if◌then◌else◌}
use Rattle.std.specs.Str.{bytes_eq}
use Rattle.sf_value.specs.declared.dialect.Dialect.{Dialect}
use Rattle.sf_value.specs.declared.value.Bare.{Bare}
use Rattle.sf_value.specs.Ascii.{semicolon}
use Rattle.sf_value.specs.Grammar.Pairs.{Pairs}
use Rattle.sf_value.specs.Grammar.Parameters.{SpellsRaw}
use Rattle.sf_scan.specs.Places.{in_params, ends_params}
use Rattle.sf_scan.specs.Stops.{Reads, Refuses}
use Rattle.sf_scan.specs.declared.place.Halt.{Halt}
use Rattle.sf_scan.specs.declared.place.Halt.TheVariants as halt
use Rattle.sf_scan.specs.declared.place.Stop.{Stop}
use Rattle.sf_scan.specs.declared.place.ParamPlace.{ParamPlace}

-- the pairs put one after another into what a maker has
abbrev pub made_of : {M : Type 0} → (M → List ℕ → Bare → M) → M → Pairs Bare → M
made_of with m [] = m
made_of with m (p ∷ raw) = made_of with (with m p.0 p.1) raw

-- the text begins with parameters, up to the stop, and the maker got each of them in order, repeated
-- keys included
pub record MakesParams {M : Type 0} (with : M → List ℕ → Bare → M) (d : Dialect)
    (text : List ℕ) (old new : M) (stop : Stop ParamPlace)
    : Type 0 where
  pub raw : Pairs Bare
  pub reads : Reads (SpellsRaw d) (in_params d stop.place) text raw stop.left.now
  pub made : new ≡ made_of with old raw
  pub ends : ends_params stop.place ≡ true

-- the text begins with no parameters: it goes wrong at the stop, after the semicolon of one. The
-- maker got the whole ones before that
pub record RefusesParams {M : Type 0} (with : M → List ℕ → Bare → M) (d : Dialect)
    (text : List ℕ) (old new : M) (stop : Stop ParamPlace)
    : Type 0 where
  pub refuses : Refuses (SpellsRaw d) (in_params d stop.place) text stop.left.now
  pub before : List ℕ
  pub after : List ℕ
  pub raw : Pairs Bare
  pub split : text ≡ before ++ semicolon ∷ after
  pub spelled : SpellsRaw d before raw
  pub made : new ≡ made_of with old raw
  pub open_still : ends_params stop.place ≡ false

abbrev pub ScansParams : {M F : Type 0} → (M → List ℕ → Bare → M) → Dialect
    → List ℕ → M → M
    → Result (Stop ParamPlace) (Halt ParamPlace F) → Type 0
ScansParams with d text old new (Ok stop) = MakesParams with d text old new stop
ScansParams with d text old new (Err (halt.Refused stop)) =
    RefusesParams with d text old new stop
ScansParams with d text old new (Err (halt.Fault fault)) = ⊤

-- the value of a key after one more parameter
abbrev pub found_or : List ℕ → List ℕ → Bare → Option Bare → Option Bare
found_or wanted key x old = if bytes_eq key wanted then Some x else old
