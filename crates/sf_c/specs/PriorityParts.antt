-- How a Priority field with another priority is written, member by member.
use Rattle.std.specs.Prelude.{◌≡◌, ℕ, pos, ◌∷◌, Bool, true, false, if◌then◌else◌, List, [], codes}
use Rattle.std.specs.Prelude.{Option, None, Some}
use Rattle.std.specs.Str.{bytes_eq}
use Rattle.sf_value.specs.Ascii.{comma, space}
use Rattle.sf_value.specs.declared.dialect.Dialect.TheVariants.{Rfc9651}
use Rattle.sf_value.specs.declared.value.Bare.TheVariants.{Integer, Boolean}
use Rattle.sf_value.specs.declared.value.Dict.{Dict as Dictionary}
use Rattle.sf_value.specs.declared.value.Field.TheVariants as field
use Rattle.sf_value.specs.declared.value.Member.{Member}
use Rattle.sf_value.specs.Grammar.Canonical.{canon, canon_commas, canon_entry, canon_series}
use Rattle.sf_value.specs.Grammar.Pairs.{Pairs, HasDistinctKeys}
use Rattle.sf_view.specs.View.{DescribesEntries}
use Rattle.sf_use.specs.Priority.{bare_member}
use Rattle.sf_use.specs.PriorityUpdate.{updated}
use Rattle.sf_c.specs.declared.priority_parts.ChangedPriority.{ChangedPriority}

-- the members u and i of a priority
abbrev pub urgency_member : ℕ → Member
urgency_member n = bare_member (Integer (pos n))

abbrev pub incremental_member : Bool → Member
incremental_member b = bare_member (Boolean b)

-- a member takes the place of the one with its key, or goes last
abbrev pub inserted_at : Pairs Member → List ℕ → Member → Pairs Member
inserted_at [] k m = (k, m) ∷ []
inserted_at (p ∷ ps) k m =
    if bytes_eq k p.0 then (p.0, m) ∷ ps else p ∷ inserted_at ps k m

-- what is set is put at its key
abbrev pub with_u : Option ℕ → Pairs Member → Pairs Member
with_u None ps = ps
with_u (Some n) ps = inserted_at ps (codes "u") (urgency_member n)

abbrev pub with_i : Option Bool → Pairs Member → Pairs Member
with_i None ps = ps
with_i (Some b) ps = inserted_at ps (codes "i") (incremental_member b)

abbrev pub inserted : Option ℕ → Option Bool → Pairs Member → Pairs Member
inserted u i ps = with_i i (with_u u ps)

-- a member with what is set at its key
abbrev pub set_u : Option ℕ → List ℕ × Member → List ℕ × Member
set_u None p = p
set_u (Some n) p = (p.0, urgency_member n)

abbrev pub set_i : Option Bool → List ℕ × Member → List ℕ × Member
set_i None p = p
set_i (Some b) p = (p.0, incremental_member b)

abbrev pub changed : Option ℕ → Option Bool → List ℕ × Member → List ℕ × Member
changed u i p =
    if bytes_eq (codes "u") p.0 then set_u u p
    else (if bytes_eq (codes "i") p.0 then set_i i p else p)

-- what is set, if a member has its key
abbrev pub only_if : {X : Type 0} → Bool → Option X → Option X
only_if true x = x
only_if false x = None

-- a member, or what is set at its key
abbrev pub replaced : Option ℕ → Option Bool → List ℕ × Member → List ℕ × Member
replaced None i p = set_i i p
replaced (Some n) i p = (p.0, urgency_member n)

-- what is still to be put, unless a member took it
abbrev pub unless : {X : Type 0} → Bool → Option X → Option X
unless true x = None
unless false x = x

-- members, of which the first is the first of all, or not
abbrev pub series_text : Bool → Pairs Member → List ℕ
series_text true ps = canon_series canon_entry ps
series_text false ps = canon_commas canon_entry ps

-- what is before a member
abbrev pub separator : Bool → List ℕ
separator true = []
separator false = comma ∷ space ∷ []

-- the canonical text of the Dictionary that the nodes describe, with what is set
abbrev pub SpellsChange : ChangedPriority → List ℕ → Type 0
SpellsChange c t =
    (d : Dictionary)
    × DescribesEntries Rfc9651 c.view.text.now c.view.nodes.now d.members
    × HasDistinctKeys d.members
    × (t ≡ canon (field.Dict (updated c.asked d)))
