-- The words that a line can begin with, and their colours.
use Rattle.std.specs.Prelude.{ℕ, Bool, true, ◌&&◌, ◌==◌, if◌then◌else◌, List, ◌++◌, codes, length}
use Rattle.std.specs.Prelude.{Option, Some, None}
use Rattle.sf_lint.specs.declared.colours.Verdict.{Verdict}
use Rattle.sf_lint.specs.declared.colours.Verdict.TheVariants.{Ok, Refused, Ignored, Invalid}
use Rattle.sf_lint.specs.declared.settings.Settings.{Settings}

-- the word for a field or a line
abbrev pub word_of : Verdict → List ℕ
word_of Ok = codes "ok"
word_of Refused = codes "refused"
word_of Ignored = codes "ignored"
word_of Invalid = codes "invalid"

-- the sequence that sets the colour of what follows (ECMA-48 section 8.3.117): green, red and
-- yellow
abbrev pub colour_of : Verdict → List ℕ
colour_of Ok = codes "\u{1b}[32m"
colour_of Refused = codes "\u{1b}[31m"
colour_of Ignored = codes "\u{1b}[33m"
colour_of Invalid = codes "\u{1b}[33m"

-- the word in its colour, and the terminal's default colour after it
abbrev pub in_colour : Verdict → List ℕ
in_colour verdict = colour_of verdict ++ (word_of verdict ++ codes "\u{1b}[0m")

-- the word, in its colour if the settings ask for that
abbrev pub verdict_text : Settings → Verdict → List ℕ
verdict_text settings verdict =
    if settings.colour then in_colour verdict else word_of verdict

-- the variable is not set, or is set to nothing
abbrev pub is_unset : Option (List ℕ) → Bool
is_unset None = true
is_unset (Some value) = length value == 0

-- colours are for terminals, unless the variable NO_COLOR has a value that is not empty
abbrev pub is_coloured : Bool → Option (List ℕ) → Bool
is_coloured is_terminal no_color = is_terminal && is_unset no_color
