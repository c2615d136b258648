-- The result of passing field lines to a consumer.
use Rattle.std.specs.Prelude.{◌≡◌, ℕ, ◌↔◌, List, [], ◌∷◌, Result, Ok, Err, IsOk, ⊤}
use Rattle.sf_value.specs.declared.dialect.Dialect.{Dialect}
use Rattle.sf_value.specs.declared.dialect.Dialect.TheVariants.{Rfc9651}
use Rattle.sf_value.specs.declared.value.Field.{Field}
use Rattle.sf_value.specs.declared.value.Kind.{Kind}
use Rattle.sf_value.specs.Grammar.Canonical.{canon}
use Rattle.sf_value.specs.Grammar.Fields.{SpellsField}
use Rattle.sf_value.specs.Grammar.Lines.{join}
use Rattle.sf_parse.specs.Parsers.{IsOnly}
use Rattle.sf_parse.specs.AllocationFreeParsers.{IsOther}
use Rattle.sf_field.specs.Lines.{ParsesLines}
use Rattle.sf_field.specs.declared.consumer.UseFault.TheVariants.{NotACache, OutOfMemory}
use Rattle.sf_field.specs.declared.asking.AskFault.{AskFault}
use Rattle.sf_field.specs.declared.asking.AskFault.TheVariants as fault

-- in the dialect, the lines spell a value of the kind, and no other, and this is what it means
abbrev pub MeansIn : {A : Type 0} → Dialect → Kind → (Field → Result A ℕ) → List (List ℕ)
    → Result A ℕ → Type 0
MeansIn d kind meaning lines meant =
    (v : Field) × IsOnly d kind (join lines) v × (meaning v ≡ meant)

-- the same by RFC 9651
abbrev pub Means : {A : Type 0} → Kind → (Field → Result A ℕ) → List (List ℕ) → Result A ℕ → Type 0
Means kind meaning lines meant = MeansIn Rfc9651 kind meaning lines meant

-- the answer is the meaning of the lines in the dialect; the fault is that of the meaning, or their
-- refusal; or an allocation failed for an answer that they have
abbrev pub AsksIn : {A : Type 0} → Dialect → Kind → (Field → Result A ℕ) → List (List ℕ)
    → Result A AskFault → Type 0
AsksIn d kind meaning lines (Ok answer) = MeansIn d kind meaning lines (Ok answer)
AsksIn d kind meaning lines (Err (fault.Field refusal)) = ParsesLines d kind lines (Err refusal)
AsksIn d kind meaning lines (Err (fault.Answer (NotACache index))) =
    MeansIn d kind meaning lines (Err index)
AsksIn d kind meaning lines (Err (fault.Answer OutOfMemory)) =
    (v : Field) × IsOnly d kind (join lines) v × IsOk (meaning v)

-- the same by RFC 9651
abbrev pub Asks : {A : Type 0} → Kind → (Field → Result A ℕ) → List (List ℕ) → Result A AskFault
    → Type 0
Asks kind meaning lines result = AsksIn Rfc9651 kind meaning lines result

-- no allocation failed while the lines were parsed
abbrev pub ParsedOrRefused : {A : Type 0} → Result A AskFault → Type 0
ParsedOrRefused (Ok answer) = ⊤
ParsedOrRefused (Err (fault.Field refusal)) = IsOther refusal
ParsedOrRefused (Err (fault.Answer f)) = ⊤

-- lines that the dialect accepts have in it the meaning of their canonical text as the only line
abbrev pub MeansAsCanonicalIn : {A : Type 0} → Dialect → Kind → (Field → Result A ℕ)
    → List (List ℕ) → Type 0
MeansAsCanonicalIn {A = A} d kind meaning lines =
    (v : Field) → SpellsField d kind (join lines) v → (meant : Result A ℕ)
    → MeansIn d kind meaning lines meant ↔ MeansIn d kind meaning (canon v ∷ []) meant

-- the same by RFC 9651
abbrev pub MeansAsCanonical : {A : Type 0} → Kind → (Field → Result A ℕ) → List (List ℕ) → Type 0
MeansAsCanonical kind meaning lines = MeansAsCanonicalIn Rfc9651 kind meaning lines
