-- Keys and Tokens, which are their own texts.
use Rattle.std.specs.Prelude.{◌≡◌, ℕ, Bool, List}
use Rattle.sf_value.specs.Grammar.Words.{IsWord}
use Rattle.sf_value.specs.Grammar.Classes.{is_key_start, is_in_key, is_token_start, is_in_token}

-- a key (3.1.2, 4.2.3.3)
abbrev pub IsKey : List ℕ → Type 0
IsKey = IsWord is_key_start is_in_key

-- a Token (3.3.4, 4.2.6)
abbrev pub IsToken : List ℕ → Type 0
IsToken = IsWord is_token_start is_in_token

-- a word is its own text
abbrev pub SpellsWord : (ℕ → Bool) → (ℕ → Bool) → List ℕ → List ℕ → Type 0
SpellsWord p q t s = (t ≡ s) × IsWord p q s

-- a Token (4.2.6)
abbrev pub SpellsToken : List ℕ → List ℕ → Type 0
SpellsToken = SpellsWord is_token_start is_in_token
