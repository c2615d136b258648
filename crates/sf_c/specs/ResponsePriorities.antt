-- The priority of a response as a struct (RFC 9218 section 8).
use Rattle.std.specs.Prelude.{◌≡◌, ℕ, ◌==◌, ◌&&◌, ◌||◌, nat_lt, not, Bool, true, false, List}
use Rattle.std.specs.Prelude.{is_some, unwrap_or, Option, Some}
use Rattle.sf_value.specs.declared.dialect.Dialect.{Dialect}
use Rattle.sf_value.specs.declared.value.Field.{Field}
use Rattle.sf_value.specs.declared.value.Field.TheVariants as field
use Rattle.sf_value.specs.declared.value.Kind.TheVariants.{Dict}
use Rattle.sf_value.specs.Grammar.Canonical.{canon}
use Rattle.sf_parse.specs.Parsers.{IsOnly}
use Rattle.sf_use.specs.declared.response_priority.ResponsePriority.{ResponsePriority}
use Rattle.sf_use.specs.Ranges.{least_urgent}
use Rattle.sf_use.specs.ResponsePriority.{response_dict, response_of_field}
use Rattle.sf_c.specs.declared.response_priority.ResponsePriorityFlags.{ResponsePriorityFlags}
use Rattle.sf_c.specs.declared.refusal.SyntaxRefusal.{SyntaxRefusal}
use Rattle.sf_c.specs.declared.status.Status.{Status}
use Rattle.sf_c.specs.declared.status.Status.TheVariants.{Answered, Refused, OutOfMemory, Invalid}
use Rattle.sf_c.specs.Priorities.{flag_at, urgency_at}
use Rattle.sf_c.specs.Refusals.{SaysRefusal, flag_number}
use Rattle.sf_c.specs.TextBuffers.{PutsText, TextBuffer}

-- the struct has what the response sets, and 0 for what it does not set
abbrev pub SaysResponse : ResponsePriorityFlags → ResponsePriority → Type 0
SaysResponse p r =
    (p.urgency ≡ unwrap_or r.urgency 0)
    × (p.incremental ≡ flag_number (unwrap_or r.incremental false))
    × (p.has_urgency ≡ flag_number (is_some r.urgency))
    × (p.has_incremental ≡ flag_number (is_some r.incremental))

-- what a struct sets; an urgency that is none is not set
abbrev pub response_of_flags : ResponsePriorityFlags → ResponsePriority
response_of_flags p = record {
  urgency = urgency_at p.has_urgency p.urgency;
  incremental = flag_at p.has_incremental p.incremental;
}

-- what reading a priority may write to
pub record ResponseOutput : Type 0 where
  pub priority : ResponsePriorityFlags
  pub refusal : SyntaxRefusal

-- in the dialect d the text spells a Dictionary, and the struct has what it sets; or the other
-- struct has the refusal. Everything else is unchanged
abbrev pub AnswersPriority : ResponseOutput → ResponseOutput → List ℕ → Dialect → Status → Type 0
AnswersPriority old new t d Answered =
    (v : Field)
    × IsOnly d Dict t v
    × SaysResponse new.priority (response_of_field v)
    × (new.refusal ≡ old.refusal)
AnswersPriority old new t d Refused =
    SaysRefusal d Dict t new.refusal × (new.priority ≡ old.priority)
AnswersPriority old new t d OutOfMemory = new ≡ old
AnswersPriority old new t d status = ⊥

-- a value that is not set, or an urgency that is none: it would not be in the text
abbrev pub has_unset_value : ResponsePriorityFlags → Bool
has_unset_value p =
    nat_lt least_urgent p.urgency
    || ((p.has_urgency == 0) && not (p.urgency == 0))
    || ((p.has_incremental == 0) && not (p.incremental == 0))

-- the text of the Dictionary that sets what the struct sets is put into a buffer that is long
-- enough; Invalid if and only if a value of the struct would not be in it
abbrev pub WritesResponse : TextBuffer → TextBuffer → ResponsePriorityFlags → Option Status
    → Type 0
WritesResponse old new p (Some Invalid) = (has_unset_value p ≡ true) × (new ≡ old)
WritesResponse old new p status =
    (has_unset_value p ≡ false)
    × PutsText old new (canon (field.Dict (response_dict (response_of_flags p)))) status
