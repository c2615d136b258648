-- Bytes that do not allocate in a state: so do the first ones of them, and in the state that these
-- lead to the others.
use Rattle.std.proofs.Common.{ℕ, List, [], ◌++◌, ap, ◌∙◌, ⊎_elim, inl, inr, arith}
use Rattle.std.proofs.Common.{append_assoc, length-append}
use Rattle.sf_value.specs.InPlace.{FitsInPlace}
use Rattle.sf_value.specs.declared.dialect.Dialect.{Dialect}
use Rattle.sf_value.specs.Grammar.Classes.{is_sp}
use Rattle.sf_parse.specs.Machine.Bares.{BareState, InText, InToken}
use Rattle.sf_parse.specs.Machine.Bares.{InBlob, InShown}
use Rattle.sf_parse.specs.Machine.Items.{InBare}
use Rattle.sf_parse.specs.Machine.Series.{Begin}
use Rattle.sf_parse.specs.Machine.States.{State, BeforeItem, InsideItem, AfterItem, InList, InDict}
use Rattle.sf_parse.specs.Machine.Fields.{step}
use Rattle.sf_parse.specs.AllocationFree.{scalar_byte, short_byte, no_semicolon, text_bytes}
use Rattle.sf_parse.specs.AllocationFree.{BareFree, FieldFree}
use Rattle.sf_parse.specs.Prefixes.{Goes}
use Rattle.sf_parse.specs.StaysFree.{field_keeps}
use Rattle.sf_parse.proofs.Prefixes.{every_split, free_goes}

fits_first : (xs a b : List ℕ) → FitsInPlace (xs ++ (a ++ b)) → FitsInPlace (xs ++ a)
fits_first xs a b h =
    omega (arith, length-append xs (a ++ b), length-append xs a, length-append a b)

bare_first : (s : BareState) (a b : List ℕ) → BareFree s (a ++ b) → BareFree s a
bare_first (InText s) a b h = fits_first (text_bytes s) a b h
bare_first (InToken bytes) a b h = fits_first bytes a b h
bare_first (InBlob s) a b h = absurd h
bare_first (InShown s) a b h = absurd h
bare_first s a b h = tt

pub field_free_first : (s : State) (a b : List ℕ) → FieldFree s (a ++ b) → FieldFree s a
field_free_first BeforeItem a b h = ⊎_elim
    (λ w. inl (every_split scalar_byte a b w).0)
    (λ w. inr (fits_first [] a b w.0, (every_split short_byte a b w.1).0)) h
field_free_first (InsideItem (InBare s)) a b h =
    (bare_first s a b h.0, (every_split no_semicolon a b h.1).0)
field_free_first (AfterItem i) a b h = tt
field_free_first (InList Begin) a b h = (every_split is_sp a b h).0
field_free_first (InDict Begin) a b h = (every_split is_sp a b h).0
field_free_first s a b h = absurd h

-- what is left of a chunk does not allocate
pub field_free_goes : (d : Dialect) (s t : State) (chunk rest : List ℕ) → FieldFree s chunk
    → Goes (step d) s chunk rest t → FieldFree t rest
field_free_goes d s t chunk rest h a = free_goes (step d) FieldFree (field_keeps d) s t chunk rest h a

-- nor does what comes after it
pub field_free_after : (d : Dialect) (s t : State) (chunk rest more : List ℕ)
    → FieldFree s (chunk ++ more) → Goes (step d) s chunk rest t → FieldFree t (rest ++ more)
field_free_after d s t chunk rest more h a =
    field_free_goes d s t (chunk ++ more) (rest ++ more) h (record {
      taken = a.taken;
      split = ap (λ y. y ++ more) a.split ∙ append_assoc a.taken rest more;
      leads = a.leads;
    })
