-- The answers of the parser of whole texts are those of the RFC's steps.
use Rattle.std.proofs.Common.{◌≡◌, ℕ, List, Option, Some, None, Ok, Err, refl}
use Rattle.sf_value.specs.declared.dialect.Dialect.{Dialect}
use Rattle.sf_value.specs.declared.value.Field.{Field}
use Rattle.sf_value.specs.declared.value.Kind.{Kind}
use Rattle.sf_value.specs.Grammar.Fields.{SpellsField}
use Rattle.sf_parse.specs.declared.refusal.Refusal.TheVariants.{OutOfMemory, Syntax, TooLong}
use Rattle.sf_parse.specs.declared.refusal.Refusal.TheVariants.{ReadFault}
use Rattle.sf_rfc.specs.Rfc9651.Parsing.{parse_field}
use Rattle.sf_rfc.specs.ParsingLaws.{AnswersAgree, EndsAgree}
use Rattle.sf_rfc.proofs.ParsingFields.{fields_agree}

-- where no value is spelled, the steps fail
fails : (d : Dialect) (kind : Kind) (t : List ℕ) → ((v : Field) → SpellsField d kind t v → ⊥)
    → parse_field d kind t ≡ None
fails d kind t unspelled = go (parse_field d kind t) refl
  where
    go : (o : Option Field) → parse_field d kind t ≡ o → o ≡ None
    go None e = refl
    go (Some v) e = absurd (unspelled v ((fields_agree d kind t v).0 e))

pub answers_agree : AnswersAgree
answers_agree d kind t (Ok v) h = (fields_agree d kind t v).1 h.spelled
answers_agree d kind t (Err OutOfMemory) h = h
answers_agree d kind t (Err (Syntax place None expected may_end)) h = fails d kind t h.1.unspelled
answers_agree d kind t (Err (Syntax place (Some b) expected may_end)) h =
    fails d kind t h.unspelled
answers_agree d kind t (Err (TooLong limit)) h = h
answers_agree d kind t (Err (ReadFault place)) h = h

pub ends_agree : EndsAgree
ends_agree d kind t (Ok v) h = (fields_agree d kind t v).1 h.spelled
ends_agree d kind t (Err OutOfMemory) h = h
ends_agree d kind t (Err (Syntax place None expected may_end)) h = fails d kind t h.2.unspelled
ends_agree d kind t (Err (Syntax place (Some b) expected may_end)) h = absurd h
ends_agree d kind t (Err (TooLong limit)) h = h
ends_agree d kind t (Err (ReadFault place)) h = h
