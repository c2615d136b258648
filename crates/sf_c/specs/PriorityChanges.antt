-- A Priority field that is forwarded with another priority (RFC 9218 section 4).
use Rattle.std.specs.Prelude.{◌≡◌, ℕ, true, false, List, Option, Some}
use Rattle.sf_value.specs.declared.dialect.Dialect.TheVariants.{Rfc9651}
use Rattle.sf_value.specs.declared.value.Dict.{Dict as Dictionary}
use Rattle.sf_value.specs.declared.value.Field.TheVariants as field
use Rattle.sf_value.specs.declared.value.Kind.TheVariants as kind
use Rattle.sf_value.specs.Grammar.Canonical.{canon}
use Rattle.sf_parse.specs.Parsers.{IsOnly}
use Rattle.sf_use.specs.PriorityUpdate.{updated}
use Rattle.sf_c.specs.declared.priority.PriorityFlags.{PriorityFlags}
use Rattle.sf_c.specs.declared.status.Status.{Status}
use Rattle.sf_c.specs.declared.status.Status.TheVariants.{Answered, Refused, Short, OutOfMemory}
use Rattle.sf_c.specs.declared.status.Status.TheVariants.{Invalid}
use Rattle.sf_c.specs.Normal.{TextOutput}
use Rattle.sf_c.specs.Priorities.{has_unset_value, params_of_flags}
use Rattle.sf_c.specs.Refusals.{SaysRefusal}
use Rattle.sf_c.specs.TextBuffers.{PutsText, TextBuffer}

-- the buffer of a call that may refuse a text
abbrev pub text_buffer : TextOutput → TextBuffer
text_buffer o = record { buffer = o.buffer; required = o.required }

-- the text spells a Dictionary, and its canonical text with what the struct sets, which spells that
-- Dictionary and no other, is put into a buffer that is long enough; or the struct has the refusal.
-- Everything else is unchanged
abbrev pub ChangesBy : TextOutput → TextOutput → List ℕ → PriorityFlags → Option Status → Type 0
ChangesBy old new t p (Some Answered) =
    (d : Dictionary)
    × IsOnly Rfc9651 kind.Dict t (field.Dict d)
    × IsOnly Rfc9651 kind.Dict (canon (field.Dict (updated (params_of_flags p) d)))
    (field.Dict (updated (params_of_flags p) d))
    × PutsText (text_buffer old) (text_buffer new)
    (canon (field.Dict (updated (params_of_flags p) d))) (Some Answered)
    × (new.refusal ≡ old.refusal)
ChangesBy old new t p (Some Short) =
    (d : Dictionary)
    × IsOnly Rfc9651 kind.Dict t (field.Dict d)
    × PutsText (text_buffer old) (text_buffer new)
    (canon (field.Dict (updated (params_of_flags p) d))) (Some Short)
    × (new.refusal ≡ old.refusal)
ChangesBy old new t p (Some Refused) =
    SaysRefusal Rfc9651 kind.Dict t new.refusal
    × (new.buffer ≡ old.buffer)
    × (new.required ≡ old.required)
ChangesBy old new t p (Some OutOfMemory) = new ≡ old
ChangesBy old new t p status = ⊥

-- the same for a struct whose values are all set; Invalid if and only if one is not
abbrev pub ChangesPriority : TextOutput → TextOutput → List ℕ → PriorityFlags → Option Status
    → Type 0
ChangesPriority old new t p (Some Invalid) = (has_unset_value p ≡ true) × (new ≡ old)
ChangesPriority old new t p status = (has_unset_value p ≡ false) × ChangesBy old new t p status
