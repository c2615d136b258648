-- Looking up keys, and the one value of a text.
use Rattle.std.proofs.Common.{◌≡◌, ℕ, Bool, true, false, List}
use Rattle.std.proofs.Common.{[], ◌∷◌, Some, refl, sym}
use Rattle.std.proofs.Common.{ap, ◌∙◌}
use Rattle.std.specs.Prelude.{map}
use Rattle.std.specs.Option.{option_map}
use Rattle.sf_value.specs.declared.dialect.Dialect.{Dialect}
use Rattle.sf_value.specs.declared.value.Field.{Field}
use Rattle.sf_value.specs.declared.value.Kind.{Kind}
use Rattle.sf_value.specs.Grammar.Fields.{SpellsField}
use Rattle.sf_value.specs.Grammar.Lines.{join}
use Rattle.sf_value.specs.Grammar.Pairs.{Pairs, value_at}
use Rattle.sf_parse.specs.Parsers.{IsOnly}
use Rattle.sf_rfc.specs.Rfc9651.Words.{same}
use Rattle.sf_rfc.specs.Rfc9651.Parsing.{parse_field, combine}
use Rattle.sf_rfc.proofs.FieldLines.{combined}
use Rattle.sf_rfc.proofs.ParsingFields.{fields_agree}
use Rattle.sf_rfc.proofs.ParsingMaps.{flipped}
use Rattle.sf_rfc.proofs.ParsingSteps.{some_is}
use Rattle.sf_rfc_use.specs.OrderedMaps.{value_of}

-- the grammar's look-up finds the same
pub found : {V : Type 0} (k : List ℕ) (ps : Pairs V) → value_of k ps ≡ value_at k ps
found k [] = refl
found {V = V} k (p ∷ ps) = by (same p.0 k) refl (found k ps)
  where
    by : (a : Bool) → same p.0 k ≡ a → value_of k ps ≡ value_at k ps
        → value_of k (p ∷ ps) ≡ value_at k (p ∷ ps)
    by true i ih = rw (i, sym (flipped p.0 k) ∙ i, value_of) refl
    by false i ih = rw (i, sym (flipped p.0 k) ∙ i, value_of) ih

-- looking up among mapped values
pub found_mapped : {V W : Type 0} (f : V → W) (k : List ℕ) (ps : Pairs V)
    → value_at k (map (λ p. (p.0, f p.1)) ps) ≡ option_map f (value_of k ps)
found_mapped f k [] = refl
found_mapped {V = V} {W = W} f k (p ∷ ps) = by (same p.0 k) refl (found_mapped f k ps)
  where
    by : (a : Bool) → same p.0 k ≡ a
        → value_at k (map (λ p. (p.0, f p.1)) ps) ≡ option_map f (value_of k ps)
        → value_at k (map (λ p. (p.0, f p.1)) (p ∷ ps)) ≡ option_map f (value_of k (p ∷ ps))
    by true i ih = rw (i, sym (flipped p.0 k) ∙ i, value_of) refl
    by false i ih = rw (i, sym (flipped p.0 k) ∙ i, value_of) ih

-- the value that the steps return for combined lines is the only one that the joined lines spell
pub only_value : (d : Dialect) (kind : Kind) (lines : List (List ℕ)) (v : Field)
    → parse_field d kind (combine lines) ≡ Some v → IsOnly d kind (join lines) v
only_value d kind lines v e =
    let f : parse_field d kind (join lines) ≡ Some v =
    ap (parse_field d kind) (sym (combined lines)) ∙ e in
    record {
      spelled = (fields_agree d kind (join lines) v).0 f;
      only = λ w s. some_is w v (sym ((fields_agree d kind (join lines) w).1 s) ∙ f);
    }

-- the steps return for combined lines the value that the joined lines spell
pub value_combined : (d : Dialect) (kind : Kind) (lines : List (List ℕ)) (v : Field)
    → SpellsField d kind (join lines) v → parse_field d kind (combine lines) ≡ Some v
value_combined d kind lines v s =
    ap (parse_field d kind) (combined lines) ∙ (fields_agree d kind (join lines) v).1 s
