-- A priority as a struct.
use Rattle.std.specs.Prelude.{◌≡◌, ℕ, pos, ◌==◌, ◌&&◌, ◌||◌, nat_le, nat_lt, not, true, false}
use Rattle.std.specs.Prelude.{if◌then◌else◌, List, [], ◌∷◌, ◌++◌}
use Rattle.std.specs.Prelude.{is_some, codes, Bool, Option, Some, None}
use Rattle.sf_value.specs.declared.dialect.Dialect.{Dialect}
use Rattle.sf_value.specs.declared.value.Bare.TheVariants.{Boolean, Integer}
use Rattle.sf_value.specs.declared.value.Dict.{Dict as Dictionary}
use Rattle.sf_value.specs.declared.value.Field.{Field}
use Rattle.sf_value.specs.declared.value.Field.TheVariants as field
use Rattle.sf_value.specs.declared.value.Kind.TheVariants.{Dict}
use Rattle.sf_value.specs.declared.value.Member.{Member}
use Rattle.sf_value.specs.Grammar.Canonical.{canon}
use Rattle.sf_value.specs.Grammar.Pairs.{Pairs}
use Rattle.sf_parse.specs.Parsers.{IsOnly}
use Rattle.sf_use.specs.declared.priority.Asked.{Asked}
use Rattle.sf_use.specs.Priority.{params_of_field, priority_with_defaults, bare_member}
use Rattle.sf_use.specs.Ranges.{least_urgent, usual_urgency}
use Rattle.sf_c.specs.declared.priority.PriorityFlags.{PriorityFlags}
use Rattle.sf_c.specs.declared.refusal.SyntaxRefusal.{SyntaxRefusal}
use Rattle.sf_c.specs.declared.status.Status.{Status}
use Rattle.sf_c.specs.declared.status.Status.TheVariants.{Answered, Refused, OutOfMemory, Invalid}
use Rattle.sf_c.specs.Refusals.{SaysRefusal, flag_number}
use Rattle.sf_c.specs.TextBuffers.{PutsText, TextBuffer}

-- the struct has these parameters, and the defaults for absent ones (RFC 9218 sections 4.1 and 4.2)
abbrev pub SaysAsked : PriorityFlags → Asked → Type 0
SaysAsked p a =
    (p.urgency ≡ (priority_with_defaults a).urgency)
    × (p.incremental ≡ flag_number (priority_with_defaults a).incremental)
    × (p.has_urgency ≡ flag_number (is_some a.urgency))
    × (p.has_incremental ≡ flag_number (is_some a.incremental))

-- the urgency, if it is set and in range
abbrev pub urgency_at : ℕ → ℕ → Option ℕ
urgency_at says n = if says == 0 then None else (if nat_le n least_urgent then Some n else None)

-- the flag, if it is set; any number but 0 is true
abbrev pub flag_at : ℕ → ℕ → Option Bool
flag_at says n = if says == 0 then None else Some (not (n == 0))

-- the parameters that a struct sets
abbrev pub params_of_flags : PriorityFlags → Asked
params_of_flags p = record {
  urgency = urgency_at p.has_urgency p.urgency;
  incremental = flag_at p.has_incremental p.incremental;
}

-- what reading a priority may write to
pub record PriorityOutput : Type 0 where
  pub priority : PriorityFlags
  pub refusal : SyntaxRefusal

-- in the dialect d the text spells a Dictionary, and the struct has its parameters; or the other
-- struct has the refusal. Everything else is unchanged
abbrev pub AsksFor : PriorityOutput → PriorityOutput → List ℕ → Dialect → Status → Type 0
AsksFor old new t d Answered =
    (v : Field)
    × IsOnly d Dict t v
    × SaysAsked new.priority (params_of_field v)
    × (new.refusal ≡ old.refusal)
AsksFor old new t d Refused =
    SaysRefusal d Dict t new.refusal × (new.priority ≡ old.priority)
AsksFor old new t d OutOfMemory = new ≡ old
AsksFor old new t d status = ⊥

-- the member u with this urgency (RFC 9218 section 4.1), if there is one
abbrev pub urgency_member : Option ℕ → Pairs Member
urgency_member None = []
urgency_member (Some n) = (codes "u", bare_member (Integer (pos n))) ∷ []

-- the member i with this flag (section 4.2), if there is one
abbrev pub incremental_member : Option Bool → Pairs Member
incremental_member None = []
incremental_member (Some b) = (codes "i", bare_member (Boolean b)) ∷ []

-- the Dictionary that sets these parameters and nothing else, also to the defaults
abbrev pub dict_of_params : Asked → Dictionary
dict_of_params a = record { members = urgency_member a.urgency ++ incremental_member a.incremental }

-- a value that is not set, but for the default that reading a field writes, or an urgency that is
-- none: it would not be in the text
abbrev pub has_unset_value : PriorityFlags → Bool
has_unset_value p =
    nat_lt least_urgent p.urgency
    || ((p.has_urgency == 0) && (not (p.urgency == 0) && not (p.urgency == usual_urgency)))
    || ((p.has_incremental == 0) && not (p.incremental == 0))

-- the text of the Dictionary that sets what the struct sets is put into a buffer that is long
-- enough; Invalid if and only if a value of the struct would not be in it
abbrev pub WritesPriority : TextBuffer → TextBuffer → PriorityFlags → Option Status → Type 0
WritesPriority old new p (Some Invalid) = (has_unset_value p ≡ true) × (new ≡ old)
WritesPriority old new p status =
    (has_unset_value p ≡ false)
    × PutsText old new (canon (field.Dict (dict_of_params (params_of_flags p)))) status
