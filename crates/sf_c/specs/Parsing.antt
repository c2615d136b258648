-- Parsing a text, for the calls that need its value.
use Rattle.std.specs.Prelude.{◌≡◌, ℕ, Bool, true, false, List, Result, Ok, Err}
use Rattle.sf_value.specs.declared.dialect.Dialect.{Dialect}
use Rattle.sf_value.specs.declared.value.Field.{Field}
use Rattle.sf_value.specs.declared.value.Kind.{Kind}
use Rattle.sf_parse.specs.Parsers.{IsOnly}
use Rattle.sf_c.specs.declared.refusal.SyntaxRefusal.{SyntaxRefusal}
use Rattle.sf_c.specs.declared.status.Status.{Status}
use Rattle.sf_c.specs.declared.status.Status.TheVariants.{Refused, OutOfMemory}
use Rattle.sf_c.specs.Refusals.{SaysRefusal}

-- the only value that the text spells; or the struct has its refusal; or an allocation failed. The
-- struct is otherwise unchanged
abbrev pub ParsesOrSays : SyntaxRefusal → SyntaxRefusal → List ℕ → Dialect → Kind
    → Result Field Status → Type 0
ParsesOrSays old new t d k (Ok v) = IsOnly d k t v × (new ≡ old)
ParsesOrSays old new t d k (Err Refused) = SaysRefusal d k t new
ParsesOrSays old new t d k (Err OutOfMemory) = new ≡ old
ParsesOrSays old new t d k (Err status) = ⊥

-- the struct has the refusal of the text; or it spells a value, and the struct is unchanged
abbrev pub RefusesOrNot : SyntaxRefusal → SyntaxRefusal → List ℕ → Dialect → Kind → Bool → Type 0
RefusesOrNot old new t d k true = SaysRefusal d k t new
RefusesOrNot old new t d k false = ((v : Field) × IsOnly d k t v) × (new ≡ old)
