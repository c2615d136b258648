-- A Cache-Status field with the own hop at its end (RFC 9211 section 2).
use Rattle.std.specs.Prelude.{◌≡◌, ℕ, false, List as Seq, [], ◌∷◌, ◌++◌, Some}
use Rattle.sf_value.specs.declared.dialect.Dialect.{Dialect}
use Rattle.sf_value.specs.declared.dialect.Dialect.TheVariants.{Rfc9651}
use Rattle.sf_value.specs.declared.value.Field.TheVariants as field
use Rattle.sf_value.specs.declared.value.Kind.TheVariants as kind
use Rattle.sf_value.specs.declared.value.List.{List}
use Rattle.sf_value.specs.declared.value.Field.{Field}
use Rattle.sf_value.specs.Grammar.Canonical.{canon}
use Rattle.sf_value.specs.Grammar.Fields.{list_of}
use Rattle.sf_parse.specs.Parsers.{IsOnly}
use Rattle.sf_use.specs.declared.cache_status.hop.Hop.{Hop}
use Rattle.sf_use.specs.CacheStatus.Members.{entry, is_conflict}
use Rattle.sf_c.specs.declared.hops.HopNode.{HopNode}
use Rattle.sf_c.specs.declared.status.Status.{Status}
use Rattle.sf_c.specs.declared.status.Status.TheVariants.{Answered, Refused, Short, OutOfMemory}
use Rattle.sf_c.specs.declared.status.Status.TheVariants.{Invalid}
use Rattle.sf_c.specs.GivenHops.{GivesHop}
use Rattle.sf_c.specs.Normal.{TextOutput}
use Rattle.sf_c.specs.PriorityChanges.{text_buffer}
use Rattle.sf_c.specs.Refusals.{SaysRefusal}
use Rattle.sf_c.specs.TextBuffers.{PutsText}

-- the hop that a struct describes, which does not have both hit and fwd: "only one of them should
-- appear on each list member" (2.1)
abbrev pub GivesOwn : Seq ℕ → HopNode → Hop → Type 0
GivesOwn bytes n h = GivesHop bytes n h × (is_conflict h.outcome ≡ false)

-- the List with the hop's member as its last one: that of the cache "closest to the user" (2)
abbrev pub with_own : List → Hop → Field
with_own l h = list_of (l.members ++ entry h ∷ [])

-- in the dialect d the text spells a List, and the canonical text of it with the hop at its end,
-- which spells that and no other value, is put into a buffer that is long enough; or the text
-- spells none, and the struct has the refusal; or the struct of the hop gives none. Everything else
-- is unchanged
abbrev pub AppendsHop : TextOutput → TextOutput → Seq ℕ → Seq ℕ → HopNode → Dialect → Status
    → Type 0
AppendsHop old new t bytes n d Answered =
    (l : List) × (h : Hop)
    × IsOnly d kind.List t (field.List l)
    × GivesOwn bytes n h
    × IsOnly Rfc9651 kind.List (canon (with_own l h)) (with_own l h)
    × PutsText (text_buffer old) (text_buffer new) (canon (with_own l h)) (Some Answered)
    × (new.refusal ≡ old.refusal)
AppendsHop old new t bytes n d Short =
    (l : List) × (h : Hop)
    × IsOnly d kind.List t (field.List l)
    × GivesOwn bytes n h
    × PutsText (text_buffer old) (text_buffer new) (canon (with_own l h)) (Some Short)
    × (new.refusal ≡ old.refusal)
AppendsHop old new t bytes n d Refused =
    ((h : Hop) × GivesOwn bytes n h)
    × SaysRefusal d kind.List t new.refusal
    × (new.buffer ≡ old.buffer)
    × (new.required ≡ old.required)
AppendsHop old new t bytes n d Invalid = ((h : Hop) → GivesOwn bytes n h → ⊥) × (new ≡ old)
AppendsHop old new t bytes n d OutOfMemory = ((h : Hop) × GivesOwn bytes n h) × (new ≡ old)
AppendsHop old new t bytes n d status = ⊥
