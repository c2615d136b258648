-- The machines that read keys, Tokens, Strings and Booleans.
use Rattle.std.specs.Option.{option_or}
use Rattle.std.specs.Prelude.{◌≡◌, ℕ, Bool, true, false, ◌==◌, if◌then◌else◌, List, [], ◌∷◌, ◌++◌}
use Rattle.std.specs.Prelude.{Option, Some, None}
use Rattle.sf_value.specs.Ascii.{quote, digit_zero, digit_one, backslash}
use Rattle.sf_value.specs.Grammar.Words.{Every, allow}
use Rattle.sf_value.specs.Grammar.Classes.{is_visible}
use Rattle.sf_value.specs.Grammar.Strings.{is_escaped, escaped}
use Rattle.sf_parse.specs.declared.boolean.BooleanState.{BooleanState}
use Rattle.sf_parse.specs.declared.boolean.BooleanState.TheVariants.{QuestionMark, WithValue}

abbrev pub ResidualWord : (ℕ → Bool) → List ℕ → List ℕ → List ℕ → Type 0
ResidualWord q bytes u s = Every q u × (s ≡ bytes ++ u)

abbrev pub word_start : (ℕ → Bool) → ℕ → Option (List ℕ)
word_start p b = allow (p b) (b ∷ [])

abbrev pub word_step : (ℕ → Bool) → List ℕ → ℕ → Option (List ℕ)
word_step q bytes b = allow (q b) (bytes ++ b ∷ [])

pub data TextState : Type 0 where
  Inside : (bytes : List ℕ) → TextState
  Escaped : (bytes : List ℕ) → TextState
  Closed : (bytes : List ℕ) → TextState

abbrev pub ResidualText : TextState → List ℕ → List ℕ → Type 0
ResidualText (Inside bytes) u v = (s : List ℕ) × (u ≡ escaped s ++ quote ∷ []) × Every is_visible s
    × (v ≡ bytes ++ s)
ResidualText (Escaped bytes) u v = (c : ℕ) × (s : List ℕ) × (u ≡ c ∷ (escaped s ++ quote ∷ []))
    × (is_escaped c ≡ true) × Every is_visible s × (v ≡ bytes ++ c ∷ s)
ResidualText (Closed bytes) u v = (u ≡ []) × (v ≡ bytes)

abbrev pub text_step : TextState → ℕ → Option TextState
text_step (Inside bytes) b = option_or (allow (b == quote) (Closed bytes))
    (option_or (allow (b == backslash) (Escaped bytes)) (allow (is_visible b) (Inside (bytes
    ++ b ∷ []))))
text_step (Escaped bytes) b = allow (is_escaped b) (Inside (bytes ++ b ∷ []))
text_step (Closed bytes) b = None

abbrev pub text_finish : TextState → Option (List ℕ)
text_finish (Inside bytes) = None
text_finish (Escaped bytes) = None
text_finish (Closed bytes) = Some bytes

abbrev pub ResidualBoolean : BooleanState → List ℕ → Bool → Type 0
ResidualBoolean QuestionMark u b = u ≡ (if b then digit_one else digit_zero) ∷ []
ResidualBoolean (WithValue c) u b = (u ≡ []) × (b ≡ c)

abbrev pub boolean_step : BooleanState → ℕ → Option BooleanState
boolean_step QuestionMark b = option_or (allow (b == digit_zero) (WithValue false))
    (allow (b == digit_one) (WithValue true))
boolean_step (WithValue c) b = None

abbrev pub boolean_finish : BooleanState → Option Bool
boolean_finish QuestionMark = None
boolean_finish (WithValue c) = Some c
