-- The laws of the grammar that follow from its machine. Each is the contract of a function in
-- `src/laws.rt`.
use Rattle.std.specs.Option.{option_and_then}
use Rattle.std.specs.Prelude.{◌≡◌, ℕ, ◌↔◌, List, [], ◌∷◌, ◌++◌, length, Some, None, ◌⊎◌}
use Rattle.sf_value.specs.Ascii.{percent, at_sign}
use Rattle.sf_value.specs.declared.dialect.Dialect.{Dialect}
use Rattle.sf_value.specs.declared.dialect.Dialect.TheVariants.{Rfc8941, Rfc9651}
use Rattle.sf_value.specs.declared.value.Field.{Field}
use Rattle.sf_value.specs.declared.value.Kind.{Kind}
use Rattle.sf_value.specs.Grammar.Fields.{SpellsField}
use Rattle.sf_value.specs.Grammar.Valid.{Valid}
use Rattle.sf_value.specs.Grammar.Canonical.{canon}
use Rattle.sf_value.specs.Grammar.Lines.{join, Viable, IsPlace}
use Rattle.sf_parse.specs.Machine.States.{State}
use Rattle.sf_parse.specs.Machine.Language.{run}
use Rattle.sf_parse.specs.Machine.Fields.{Residual, step, finish, begin}

-- a text spells one value of a kind
abbrev pub OneValue : Type 0
OneValue =
    (d : Dialect) (kind : Kind) (t : List ℕ) (v w : Field)
    → SpellsField d kind t v → SpellsField d kind t w → v ≡ w

-- the machine's value is the one that the text spells
abbrev pub IsRead : Type 0
IsRead =
    (d : Dialect) (kind : Kind) (t : List ℕ) (v : Field)
    → SpellsField d kind t v ↔ (option_and_then finish (run (step d) (begin kind) t) ≡ Some v)

-- what completes a state completes the bytes that led there
abbrev pub IsResidual : Type 0
IsResidual =
    (d : Dialect) (kind : Kind) (p : List ℕ) (s : State)
    → run (step d) (begin kind) p ≡ Some s
    → (u : List ℕ) (v : Field) → Residual d s u v ↔ SpellsField d kind (p ++ u) v

-- a prefix is viable exactly if the machine is not stuck on it
abbrev pub IsViable : Type 0
IsViable =
    (d : Dialect) (kind : Kind) (p : List ℕ)
    → Viable d kind p ↔ ((s : State) × (run (step d) (begin kind) p ≡ Some s))

-- the bytes that may come next are those that the step takes
abbrev pub IsNext : Type 0
IsNext =
    (d : Dialect) (kind : Kind) (p : List ℕ) (s : State) (b : ℕ)
    → run (step d) (begin kind) p ≡ Some s
    → Viable d kind (p ++ b ∷ []) ↔ ((t : State) × (step d s b ≡ Some t))

-- the text may end exactly if the state has a value, and has that value
abbrev pub IsEnd : Type 0
IsEnd =
    (d : Dialect) (kind : Kind) (p : List ℕ) (s : State) (v : Field)
    → run (step d) (begin kind) p ≡ Some s
    → SpellsField d kind p v ↔ (finish s ≡ Some v)

-- if the machine takes p and can't take the next byte, the refusal is after p
abbrev pub StopsAt : Type 0
StopsAt =
    (d : Dialect) (kind : Kind) (p q : List ℕ) (b : ℕ) (s : State)
    → run (step d) (begin kind) p ≡ Some s
    → step d s b ≡ None
    → IsPlace d kind (p ++ b ∷ q) (length p)

-- valid values of one kind with the same canonical text are equal
abbrev pub CanonOne : Type 0
CanonOne =
    (d : Dialect) (kind : Kind) (v w : Field)
    → Valid d kind v → Valid d kind w → canon v ≡ canon w → v ≡ w

-- the result depends on the joined chunks alone
abbrev pub AnyChunks : Type 0
AnyChunks =
    (d : Dialect) (s : State) (p q : List ℕ)
    → run (step d) s (p ++ q) ≡ option_and_then (λ t. run (step d) t q) (run (step d) s p)

-- the byte b is at place n
abbrev pub At : List ℕ → ℕ → ℕ → Type 0
At t n b = (p q : List ℕ) × (t ≡ p ++ b ∷ q) × (length p ≡ n)

-- a text that spells a value in RFC 9651 and none in RFC 8941 has @ or % at the place where it is
-- refused in RFC 8941
abbrev pub OnlyNew : Type 0
OnlyNew =
    (kind : Kind) (t : List ℕ) (v : Field)
    → SpellsField Rfc9651 kind t v
    → ((w : Field) → SpellsField Rfc8941 kind t w → ⊥)
    → (n : ℕ) → IsPlace Rfc8941 kind t n → At t n at_sign ⊎ At t n percent

-- lines that are accepted have one value, and its canonical text as the only line is accepted as
-- that value
abbrev pub LinesOne : Type 0
LinesOne =
    (d : Dialect) (kind : Kind) (lines : List (List ℕ)) (v : Field)
    → SpellsField d kind (join lines) v
    → ((w : Field) → SpellsField d kind (join lines) w → w ≡ v)
    × SpellsField d kind (join (canon v ∷ [])) v
