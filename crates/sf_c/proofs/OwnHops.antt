-- A hop without both hit and fwd, at the end of a List.
use Rattle.std.proofs.Common.{◌≡◌, ℕ, false, List as Seq, Some, Result, Ok, Err, MatchResult}
use Rattle.std.proofs.Common.{refl, ap}
use Rattle.sf_value.specs.declared.dialect.Dialect.{Dialect}
use Rattle.sf_value.specs.declared.dialect.Dialect.TheVariants.{Rfc9651}
use Rattle.sf_value.specs.declared.value.Field.TheVariants as field
use Rattle.sf_value.specs.declared.value.Kind.TheVariants as kind
use Rattle.sf_value.specs.declared.value.List.{List}
use Rattle.sf_value.specs.Grammar.Canonical.{canon}
use Rattle.sf_value.specs.Grammar.Valid.{Valid}
use Rattle.sf_parse.specs.Parsers.{IsOnly}
use Rattle.sf_use.specs.declared.cache_status.hop.Hop.{Hop}
use Rattle.sf_use.specs.declared.cache_status.hop.Outcome.{Outcome}
use Rattle.sf_use.specs.declared.cache_status.hop.Outcome.TheVariants.{Conflict}
use Rattle.sf_use.specs.CacheStatus.Members.{is_conflict}
use Rattle.sf_c.specs.declared.hops.HopNode.{HopNode}
use Rattle.sf_c.specs.declared.status.Status.{Status}
use Rattle.sf_c.specs.declared.refusal.SyntaxRefusal.{SyntaxRefusal}
use Rattle.sf_c.specs.declared.status.Status.TheVariants.{Answered, Refused, Short, OutOfMemory}
use Rattle.sf_c.specs.declared.status.Status.TheVariants.{Invalid}
use Rattle.sf_c.specs.Appending.{AppendsHop, GivesOwn, with_own}
use Rattle.sf_c.specs.GivenHops.{GivesHop, GivesNone, GivesOutcome}
use Rattle.sf_c.specs.Normal.{TextOutput}
use Rattle.sf_c.specs.PriorityChanges.{text_buffer}
use Rattle.sf_c.specs.Parsing.{ParsesOrSays}
use Rattle.sf_c.specs.TextBuffers.{PutsText}
use Rattle.sf_c.proofs.NodeTexts.{canon_only}

no_conflict : (bytes : Seq ℕ) (n : HopNode) (o : Outcome) → (n.outcome ≡ 3 → ⊥)
    → GivesOutcome bytes n o → is_conflict o ≡ false
no_conflict bytes n (Conflict p) never g = absurd (never g.0)
no_conflict bytes n o never g = refl

-- the hop of a struct that does not say both
pub own_hop : (bytes : Seq ℕ) (n : HopNode) (r : Result Hop Status) → (n.outcome ≡ 3 → ⊥)
    → MatchResult r (λ h. GivesHop bytes n h) (GivesNone (GivesHop bytes n))
    → MatchResult r (λ h. GivesOwn bytes n h) (GivesNone (GivesOwn bytes n))
own_hop bytes n (Ok h) never g = (g, no_conflict bytes n h.outcome never g.1)
own_hop bytes n (Err Invalid) never g = λ h o. g h o.0
own_hop bytes n (Err OutOfMemory) never g =
    (g.0, (g.1, no_conflict bytes n g.0.outcome never g.1.1))
own_hop bytes n (Err s) never g = absurd g

-- a struct that says both gives none
pub no_own : (bytes : Seq ℕ) (n : HopNode) → n.outcome ≡ 3 → (h : Hop) → GivesOwn bytes n h → ⊥
no_own bytes n both h g = by h.outcome g.0.1 g.1
  where
    by : (o : Outcome) → GivesOutcome bytes n o → is_conflict o ≡ false → ⊥
    by (Conflict p) g e = absurd cc
    by o g e = absurd cc

pub appends_hop : (old new : TextOutput) (t bytes : Seq ℕ) (n : HopNode) (d : Dialect) (l : List)
    (h : Hop) (s : Status) → IsOnly d kind.List t (field.List l) → GivesOwn bytes n h
    → Valid Rfc9651 kind.List (with_own l h)
    → PutsText (text_buffer old) (text_buffer new) (canon (with_own l h)) (Some s)
    → new.refusal ≡ old.refusal → AppendsHop old new t bytes n d s
appends_hop old new t bytes n d l h Answered only own valid w e =
    (l, h, only, own, canon_only Rfc9651 kind.List (with_own l h) valid, w, e)
appends_hop old new t bytes n d l h Short only own valid w e = (l, h, only, own, w, e)
appends_hop old new t bytes n d l h s only own valid w e = absurd w

-- the output with another refusal
abbrev refused_by : TextOutput → SyntaxRefusal → TextOutput
refused_by o r = record { buffer = o.buffer; required = o.required; refusal = r }

-- nothing is appended if the text spells no List, or an allocation failed for it
pub appends_none : (old : TextOutput) (r : SyntaxRefusal) (t bytes : Seq ℕ) (n : HopNode)
    (d : Dialect) (h : Hop) (s : Status) → GivesOwn bytes n h
    → ParsesOrSays old.refusal r t d kind.List (Err s)
    → AppendsHop old (refused_by old r) t bytes n d s
appends_none old r t bytes n d h Refused own says = ((h, own), says, refl, refl)
appends_none old r t bytes n d h OutOfMemory own same = ((h, own), ap (refused_by old) same)
appends_none old r t bytes n d h s own says = absurd says
