-- What normalising field lines returns.
use Rattle.std.specs.Prelude.{◌≡◌, ℕ, ◌*◌, ◌≤◌, ◌↔◌, List, [], ◌∷◌, length}
use Rattle.sf_value.specs.declared.dialect.Dialect.TheVariants.{Rfc9651}
use Rattle.sf_value.specs.declared.value.Field.{Field}
use Rattle.sf_value.specs.declared.value.Kind.{Kind}
use Rattle.sf_value.specs.Grammar.Canonical.{canon}
use Rattle.sf_value.specs.Grammar.Lines.{join}
use Rattle.sf_value.specs.Grammar.Valid.{Valid}
use Rattle.sf_parse.specs.Parsers.{IsOnly}

-- c is the canonical text of the value that the lines spell
pub record NormalisesTo (kind : Kind) (lines : List (List ℕ)) (c : List ℕ) : Type 0 where
  pub value : Field
  -- the lines spell this value, and no other
  pub spelled : IsOnly Rfc9651 kind (join lines) value
  pub canonical : c ≡ canon value
  -- as the only line the text is accepted as the same value
  pub again : IsOnly Rfc9651 kind (join (c ∷ [])) value
  -- other values of the kind have other canonical texts
  pub equal : (w : Field) → Valid Rfc9651 kind w → (canon w ≡ c) ↔ (w ≡ value)
  pub short : 5 * length c ≤ 8 * length (join lines)
