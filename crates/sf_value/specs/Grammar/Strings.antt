-- The texts of Strings.
use Rattle.std.specs.Prelude.{◌≡◌, ℕ, Bool, ◌==◌, if◌then◌else◌, ◌||◌, ◌&&◌, not, List, [], ◌∷◌, ◌++◌}
use Rattle.sf_value.specs.Ascii.{quote, backslash}
use Rattle.sf_value.specs.Grammar.Words.{Every}
use Rattle.sf_value.specs.Grammar.Classes.{is_visible}

-- a quote or a backslash
abbrev pub is_escaped : ℕ → Bool
is_escaped b = b == quote || b == backslash

-- what may be unescaped between the quotes
abbrev pub is_unescaped : ℕ → Bool
is_unescaped b = is_visible b && not (is_escaped b)

-- the bytes with a backslash before each quote and each backslash
abbrev pub escaped : List ℕ → List ℕ
escaped [] = []
escaped (b ∷ s) = if is_escaped b then backslash ∷ b ∷ escaped s else b ∷ escaped s

-- a String (3.3.3, 4.2.5): a quote, the escaped bytes, a quote
abbrev pub SpellsString : List ℕ → List ℕ → Type 0
SpellsString t s = (t ≡ quote ∷ (escaped s ++ quote ∷ [])) × Every is_visible s
