-- Lines that have one joined text: what is parsed and answered for the text is for all of them.
use Rattle.std.proofs.Common.{◌≡◌, ℕ, ◌^◌, ◌<◌, List, [], ◌∷◌, length, take}
use Rattle.std.proofs.Common.{Some, None, Result, Ok, Err, subst, arith}
use Rattle.sf_value.specs.declared.dialect.Dialect.{Dialect}
use Rattle.sf_value.specs.declared.value.Field.{Field}
use Rattle.sf_value.specs.declared.value.Kind.{Kind}
use Rattle.sf_value.specs.Grammar.Lines.{join, Viable}
use Rattle.sf_parse.specs.declared.refusal.Refusal.{Refusal}
use Rattle.sf_parse.specs.declared.refusal.Refusal.TheVariants.{OutOfMemory, Syntax, TooLong}
use Rattle.sf_parse.specs.declared.refusal.Refusal.TheVariants.{ReadFault}
use Rattle.sf_parse.specs.Parsers.{IsOnly, Parses}
use Rattle.sf_field.specs.declared.asking.AskFault.{AskFault}
use Rattle.sf_field.specs.declared.asking.AskFault.TheVariants as fault
use Rattle.sf_field.specs.declared.consumer.UseFault.TheVariants as use_fault
use Rattle.sf_field.specs.Asking.{AsksIn, MeansIn}
use Rattle.sf_field.specs.Lines.{IsCounted, ParsesLines}

-- the joined text of lines, of fewer than 2^63 bytes: a result for it is one for the lines
pub parsed_lines : (d : Dialect) (kind : Kind) (ls : List (List ℕ)) (r : Result Field Refusal)
    → length (join ls) < 2 ^ 63 → Parses d kind (join ls) r → ParsesLines d kind ls r
parsed_lines d kind ls (Ok v) small h = (h, omega (arith, small))
parsed_lines d kind ls (Err OutOfMemory) small h = (tt, tt)
parsed_lines d kind ls (Err (Syntax place None expected may_end)) small h =
    (h, omega (arith, small))
parsed_lines d kind ls (Err (Syntax place (Some b) expected may_end)) small h =
    (h, omega (arith, small, h.is_place.within))
parsed_lines d kind ls (Err (TooLong limit)) small h = absurd h
parsed_lines d kind ls (Err (ReadFault place)) small h = absurd h

-- lines with one joined text are parsed alike
pub parsed_alike : (d : Dialect) (kind : Kind) (these those : List (List ℕ))
    (r : Result Field Refusal) → join these ≡ join those → ParsesLines d kind these r
    → ParsesLines d kind those r
parsed_alike d kind these those r e = by r
  where
    Reads : Result Field Refusal → List ℕ → Type 0
    Reads r t = Parses d kind t r × IsCounted (length t) r

    by : (r : Result Field Refusal) → ParsesLines d kind these r → ParsesLines d kind those r
    by (Ok v) h = subst (Reads (Ok v)) e h
    by (Err OutOfMemory) h = h
    by (Err (Syntax place None expected may_end)) h =
        subst (Reads (Err (Syntax place None expected may_end))) e h
    by (Err (Syntax place (Some b) expected may_end)) h =
        subst (Reads (Err (Syntax place (Some b) expected may_end))) e h
    by (Err (TooLong limit)) h = (
      h.0,
      subst (λ t. limit < length t) e h.1,
      subst (λ t. Viable d kind (take limit t)) e h.2,
    )
    by (Err (ReadFault place)) h = h

-- lines with one joined text have one meaning
pub means_alike : {A : Type 0} (d : Dialect) (kind : Kind) (meaning : Field → Result A ℕ)
    (these those : List (List ℕ)) (meant : Result A ℕ) → join these ≡ join those
    → MeansIn d kind meaning these meant → MeansIn d kind meaning those meant
means_alike d kind meaning these those meant e (v, only, is) =
    (v, subst (λ t. IsOnly d kind t v) e only, is)

-- and one answer
pub asks_alike : {A : Type 0} (d : Dialect) (kind : Kind) (meaning : Field → Result A ℕ)
    (these those : List (List ℕ)) (r : Result A AskFault) → join these ≡ join those
    → AsksIn d kind meaning these r → AsksIn d kind meaning those r
asks_alike d kind meaning these those (Ok answer) e h =
    means_alike d kind meaning these those (Ok answer) e h
asks_alike d kind meaning these those (Err (fault.Field refusal)) e h =
    parsed_alike d kind these those (Err refusal) e h
asks_alike d kind meaning these those (Err (fault.Answer (use_fault.NotACache index))) e h =
    means_alike d kind meaning these those (Err index) e h
asks_alike d kind meaning these those (Err (fault.Answer use_fault.OutOfMemory)) e h =
    (h.0, subst (λ t. IsOnly d kind t h.0) e h.1, h.2)
