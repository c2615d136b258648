-- The texts of parameters.
use Rattle.std.specs.Prelude.{◌≡◌, ℕ, true, List, [], ◌∷◌, ◌++◌, ◌⊎◌}
use Rattle.sf_value.specs.declared.dialect.Dialect.{Dialect}
use Rattle.sf_value.specs.declared.value.Bare.{Bare}
use Rattle.sf_value.specs.declared.value.Bare.TheVariants.{Boolean}
use Rattle.sf_value.specs.Ascii.{semicolon, equals}
use Rattle.sf_value.specs.Grammar.Words.{Every}
use Rattle.sf_value.specs.Grammar.Classes.{is_sp}
use Rattle.sf_value.specs.Grammar.Pairs.{Pairs, settle}
use Rattle.sf_value.specs.Grammar.Tokens.{IsKey}
use Rattle.sf_value.specs.Grammar.BareItems.{SpellsBare}

-- a parameter's value (4.2.3.2): nothing for Boolean true, or = and the bare item's text
abbrev pub SpellsValue : Dialect → List ℕ → Bare → Type 0
SpellsValue d t x =
    ((x ≡ Boolean true) × (t ≡ []))
    ⊎ ((suffix : List ℕ) × (t ≡ equals ∷ suffix) × SpellsBare d suffix x)

-- a parameter (4.2.3.2): a semicolon, spaces, the key, the value
abbrev pub SpellsParam : Dialect → List ℕ → List ℕ → Bare → Type 0
SpellsParam d t k x =
    (gap value : List ℕ)
    × (t ≡ semicolon ∷ (gap ++ (k ++ value)))
    × Every is_sp gap
    × IsKey k
    × SpellsValue d value x

-- one text for each pair, repeated keys included
abbrev pub SpellsRaw : Dialect → List ℕ → Pairs Bare → Type 0
SpellsRaw d t [] = t ≡ []
SpellsRaw d t (p ∷ raw) =
    (prefix suffix : List ℕ)
    × (t ≡ prefix ++ suffix)
    × SpellsParam d prefix p.0 p.1
    × SpellsRaw d suffix raw

-- parameters (3.1.2, 4.2.3.2): the pairs of the text, settled
abbrev pub SpellsParams : Dialect → List ℕ → Pairs Bare → Type 0
SpellsParams d t ps = (raw : Pairs Bare) × (ps ≡ settle raw) × SpellsRaw d t raw
