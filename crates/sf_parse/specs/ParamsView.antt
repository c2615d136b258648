-- The state of the machine for what is read of parameters.
use Rattle.std.specs.Prelude.{◌≡◌, ℕ, List, None, ⊤}
use Rattle.sf_value.specs.declared.value.Bare.{Bare}
use Rattle.sf_value.specs.Grammar.Pairs.{Pairs}
use Rattle.sf_value.specs.Grammar.Tokens.{IsKey}
use Rattle.sf_parse.specs.Machine.Bares.{BareState, bare_step}
use Rattle.sf_parse.specs.Machine.Params.{ParamsState, Between, Opened, InParamKey, EqualsParam}
use Rattle.sf_parse.specs.Machine.Params.{InValue}
use Rattle.sf_parse.specs.declared.parameters.ParamsPhase.{ParamsPhase}
use Rattle.sf_parse.specs.declared.parameters.ParamsPhase.TheVariants as phase

-- the phase says whether a parameter is open, and which part of it
abbrev pub params_of : ParamsPhase → List ℕ → BareState → Pairs Bare → ParamsState
params_of phase.Between k s ps = Between ps
params_of phase.Opened k s ps = Opened ps
params_of phase.InKey k s ps = InParamKey ps k
params_of phase.Equals k s ps = EqualsParam ps k
params_of phase.InValue k s ps = InValue ps k s

-- an open parameter has a key
abbrev pub FitsParams : ParamsPhase → List ℕ → Type 0
FitsParams phase.Between k = ⊤
FitsParams phase.Opened k = ⊤
FitsParams phase.InKey k = IsKey k
FitsParams phase.Equals k = IsKey k
FitsParams phase.InValue k = IsKey k

-- if a value is open, it can't continue with this byte
abbrev pub params_stuck : ParamsState → ℕ → Type 0
params_stuck (Between ps) b = ⊤
params_stuck (Opened ps) b = ⊤
params_stuck (InParamKey ps k) b = ⊤
params_stuck (EqualsParam ps k) b = ⊤
params_stuck (InValue ps k s) b = bare_step s b ≡ None
