-- The machine that reads parameters.
use Rattle.std.specs.Option.{option_and_then, option_map, option_or}
use Rattle.std.specs.Prelude.{◌≡◌, ℕ, true, ◌==◌, List, ◌++◌, Option, Some, None}
use Rattle.sf_value.specs.Ascii.{semicolon, equals}
use Rattle.sf_value.specs.Grammar.Words.{allow}
use Rattle.sf_value.specs.Grammar.Classes.{is_sp, is_key_start, is_in_key}
use Rattle.sf_value.specs.Grammar.Pairs.{Pairs, settle, put, Pairs}
use Rattle.sf_value.specs.Grammar.Tokens.{SpellsWord}
use Rattle.sf_value.specs.Grammar.BareItems.{SpellsBare}
use Rattle.sf_value.specs.Grammar.Parameters.{SpellsRaw}
use Rattle.sf_value.specs.declared.dialect.Dialect.{Dialect}
use Rattle.sf_value.specs.declared.value.Bare.{Bare}
use Rattle.sf_value.specs.declared.value.Bare.TheVariants.{Boolean}
use Rattle.sf_parse.specs.Machine.Language.{Then, Either, After, Past, onward}
use Rattle.sf_parse.specs.Machine.Texts.{ResidualWord, word_start, word_step}
use Rattle.sf_parse.specs.Machine.Bares.{BareState}
use Rattle.sf_parse.specs.Machine.Bares.{ResidualBare, GoodBare, bare_start, bare_step, bare_finish}

pub data ParamsState : Type 0 where
  -- after a bare item or a parameter
  Between : (params : Pairs Bare) → ParamsState
  -- after a semicolon
  Opened : (params : Pairs Bare) → ParamsState
  -- in a key
  InParamKey : (params : Pairs Bare) (key : List ℕ) → ParamsState
  -- after an equals sign
  EqualsParam : (params : Pairs Bare) (key : List ℕ) → ParamsState
  -- in a value
  InValue : (params : Pairs Bare) (key : List ℕ) (state : BareState) → ParamsState

-- further parameters
abbrev pub MoreParams : Dialect → Pairs Bare → List ℕ → Pairs Bare → Type 0
MoreParams d ps u v = (raw : Pairs Bare) × (v ≡ settle (ps ++ raw)) × SpellsRaw d u raw

-- the value x of the key k, and further parameters
abbrev pub PutParams : Dialect → Pairs Bare → List ℕ → Bare → List ℕ → Pairs Bare → Type 0
PutParams d ps k x = MoreParams d (put ps k x)

-- the value of the key k by its text, and further parameters
abbrev pub ValueParams : Dialect → Pairs Bare → List ℕ → List ℕ → Pairs Bare → Type 0
ValueParams d ps k = Then (SpellsBare d) (PutParams d ps k)

-- what is after a key
abbrev pub KeyParams : Dialect → Pairs Bare → List ℕ → List ℕ → Pairs Bare → Type 0
KeyParams d ps k = Either (After equals (ValueParams d ps k)) (PutParams d ps k (Boolean true))

abbrev pub ResidualParams : Dialect → ParamsState → List ℕ → Pairs Bare → Type 0
ResidualParams d (Between ps) = MoreParams d ps
ResidualParams d (Opened ps) = Past is_sp
    (Then (SpellsWord is_key_start is_in_key) (KeyParams d ps))
ResidualParams d (InParamKey ps k) = Then (ResidualWord is_in_key k) (KeyParams d ps)
ResidualParams d (EqualsParam ps k) = ValueParams d ps k
ResidualParams d (InValue ps k s) = Then (ResidualBare s) (PutParams d ps k)

abbrev pub GoodParams : ParamsState → Type 0
GoodParams (Between ps) = settle ps ≡ ps
GoodParams (Opened ps) = settle ps ≡ ps
GoodParams (InParamKey ps k) = settle ps ≡ ps
GoodParams (EqualsParam ps k) = settle ps ≡ ps
GoodParams (InValue ps k s) = (settle ps ≡ ps) × GoodBare s

abbrev pub between_step : Pairs Bare → ℕ → Option ParamsState
between_step ps b = allow (b == semicolon) (Opened ps)

abbrev pub key_step : Pairs Bare → List ℕ → ℕ → Option ParamsState
key_step ps k b = option_or (allow (b == equals) (EqualsParam ps k))
    (between_step (put ps k (Boolean true)) b)

abbrev pub params_step : Dialect → ParamsState → ℕ → Option ParamsState
params_step d (Between ps) b = between_step ps b
params_step d (Opened ps) b = option_or (allow (is_sp b) (Opened ps))
    (option_map (InParamKey ps) (word_start is_key_start b))
params_step d (InParamKey ps k) b = onward (InParamKey ps) (word_step is_in_key k b) (Some k)
    (λ k. key_step ps k b)
params_step d (EqualsParam ps k) b = option_map (InValue ps k) (bare_start d b)
params_step d (InValue ps k s) b = onward (InValue ps k) (bare_step s b) (bare_finish s)
    (λ x. between_step (put ps k x) b)

abbrev pub params_finish : ParamsState → Option (Pairs Bare)
params_finish (Between ps) = Some ps
params_finish (Opened ps) = None
params_finish (InParamKey ps k) = Some (put ps k (Boolean true))
params_finish (EqualsParam ps k) = None
params_finish (InValue ps k s) = option_and_then (λ x. Some (put ps k x)) (bare_finish s)
