-- The machine that reads bare items.
use Rattle.std.specs.Option.{option_map, option_or}
use Rattle.std.specs.Prelude.{ℕ, ◌==◌, List, [], Option, Some}
use Rattle.sf_value.specs.Ascii.{quote, percent, colon, question_mark, at_sign}
use Rattle.sf_value.specs.Grammar.Words.{allow}
use Rattle.sf_value.specs.Grammar.Classes.{is_token_start, is_in_token}
use Rattle.sf_value.specs.Grammar.Dialects.{is_rfc9651}
use Rattle.sf_value.specs.declared.dialect.Dialect.{Dialect}
use Rattle.sf_value.specs.declared.value.Bare.{Bare}
use Rattle.sf_value.specs.declared.value.Bare.TheVariants.{Text, Token, Blob, Boolean, Date, Shown}
use Rattle.sf_parse.specs.Machine.Language.{MapValues, only}
use Rattle.sf_parse.specs.Machine.Numbers.{NumberState, ResidualNumber, GoodNumber, number_start}
use Rattle.sf_parse.specs.Machine.Numbers.{number_step, number_finish, DateState, Sign}
use Rattle.sf_parse.specs.Machine.Numbers.{ResidualDate}
use Rattle.sf_parse.specs.Machine.Numbers.{GoodDate, date_step, date_finish}
use Rattle.sf_parse.specs.Machine.Texts.{TextState, Inside, ResidualText, text_step, text_finish}
use Rattle.sf_parse.specs.Machine.Texts.{ResidualWord}
use Rattle.sf_parse.specs.Machine.Texts.{word_start, word_step, ResidualBoolean, boolean_step}
use Rattle.sf_parse.specs.Machine.Texts.{boolean_finish}
use Rattle.sf_parse.specs.declared.boolean.BooleanState.{BooleanState}
use Rattle.sf_parse.specs.declared.boolean.BooleanState.TheVariants.{QuestionMark}
use Rattle.sf_parse.specs.Machine.Blobs.{BlobState, Group, H0, ResidualBlob, GoodBlob, blob_step}
use Rattle.sf_parse.specs.Machine.Blobs.{blob_finish}
use Rattle.sf_parse.specs.Machine.Showns.{ShownState, Quote, ResidualShown, GoodShown, shown_step}
use Rattle.sf_parse.specs.Machine.Showns.{shown_finish}

-- what was read of a bare item, by its type
pub data BareState : Type 0 where
  InNumber : (state : NumberState) → BareState
  InText : (state : TextState) → BareState
  InToken : (bytes : List ℕ) → BareState
  InBoolean : (state : BooleanState) → BareState
  InDate : (state : DateState) → BareState
  InBlob : (state : BlobState) → BareState
  InShown : (state : ShownState) → BareState

abbrev pub ResidualBare : BareState → List ℕ → Bare → Type 0
ResidualBare (InNumber s) = ResidualNumber s
ResidualBare (InText s) = MapValues Text (ResidualText s)
ResidualBare (InToken bytes) = MapValues Token (ResidualWord is_in_token bytes)
ResidualBare (InBoolean s) = MapValues Boolean (ResidualBoolean s)
ResidualBare (InDate s) = MapValues Date (ResidualDate s)
ResidualBare (InBlob s) = MapValues Blob (ResidualBlob s)
ResidualBare (InShown s) = MapValues Shown (ResidualShown s)

abbrev pub GoodBare : BareState → Type 0
GoodBare (InNumber s) = GoodNumber s
GoodBare (InText s) = Unit {0}
GoodBare (InToken bytes) = Unit {0}
GoodBare (InBoolean s) = Unit {0}
GoodBare (InDate s) = GoodDate s
GoodBare (InBlob s) = GoodBlob s
GoodBare (InShown s) = GoodShown s

abbrev pub bare_start : Dialect → ℕ → Option BareState
bare_start d b =
    option_or (option_map InNumber (number_start b))
    (option_or (option_map InText (allow (b == quote) (Inside [])))
    (option_or (option_map InToken (word_start is_token_start b))
    (option_or (option_map InBoolean (allow (b == question_mark) QuestionMark))
    (option_or (only (is_rfc9651 d) (option_map InDate (allow (b == at_sign) Sign)))
    (option_or (option_map InBlob (allow (b == colon) (Group [] H0)))
    (only (is_rfc9651 d) (option_map InShown (allow (b == percent) Quote))))))))

abbrev pub bare_step : BareState → ℕ → Option BareState
bare_step (InNumber s) b = option_map InNumber (number_step s b)
bare_step (InText s) b = option_map InText (text_step s b)
bare_step (InToken bytes) b = option_map InToken (word_step is_in_token bytes b)
bare_step (InBoolean s) b = option_map InBoolean (boolean_step s b)
bare_step (InDate s) b = option_map InDate (date_step s b)
bare_step (InBlob s) b = option_map InBlob (blob_step s b)
bare_step (InShown s) b = option_map InShown (shown_step s b)

abbrev pub bare_finish : BareState → Option Bare
bare_finish (InNumber s) = number_finish s
bare_finish (InText s) = option_map Text (text_finish s)
bare_finish (InToken bytes) = option_map Token (Some bytes)
bare_finish (InBoolean s) = option_map Boolean (boolean_finish s)
bare_finish (InDate s) = option_map Date (date_finish s)
bare_finish (InBlob s) = option_map Blob (blob_finish s)
bare_finish (InShown s) = option_map Shown (shown_finish s)
