-- What checking a text returns.
use Rattle.std.specs.Prelude.{◌≡◌, ℕ, List}
use Rattle.sf_value.specs.declared.dialect.Dialect.{Dialect}
use Rattle.sf_value.specs.declared.value.Field.{Field}
use Rattle.sf_value.specs.declared.value.Kind.{Kind}
use Rattle.sf_parse.specs.Parsers.{IsOnly}
use Rattle.sf_c.specs.declared.refusal.SyntaxRefusal.{SyntaxRefusal}
use Rattle.sf_c.specs.declared.status.Status.{Status}
use Rattle.sf_c.specs.declared.status.Status.TheVariants.{Answered, Refused}
use Rattle.sf_c.specs.Refusals.{SaysRefusal}

-- the text t spells a value, or the struct has its refusal; the struct is otherwise unchanged
abbrev pub Checks : SyntaxRefusal → SyntaxRefusal → List ℕ → Dialect → Kind → Status → Type 0
Checks old new t d k Answered = ((v : Field) × IsOnly d k t v) × (new ≡ old)
Checks old new t d k Refused = SaysRefusal d k t new
Checks old new t d k status = ⊥
