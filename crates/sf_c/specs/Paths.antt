-- What reading the text of a Cache-Status field returns (RFC 9211 section 2).
use Rattle.std.specs.Prelude.{◌≡◌, ℕ, ◌+◌, ◌*◌, ◌<◌, ◌≤◌, ◌⊎◌, List as Seq, length, map}
use Rattle.std.specs.Prelude.{is_some, unwrap_or}
use Rattle.std.specs.Prelude.{IsOk, Option, Some, Result, Ok, Err, ⊤}
use Rattle.sf_value.specs.declared.dialect.Dialect.{Dialect}
use Rattle.sf_value.specs.declared.value.Field.{Field}
use Rattle.sf_value.specs.declared.value.Kind.TheVariants.{List}
use Rattle.sf_parse.specs.Parsers.{IsOnly}
use Rattle.sf_use.specs.declared.cache_status.hop.Hop.{Hop}
use Rattle.sf_use.specs.CacheStatus.Hops.{hops}
use Rattle.sf_use.specs.CacheStatus.Served.{served}
use Rattle.sf_c.specs.declared.cache_status.Path.{Path}
use Rattle.sf_c.specs.declared.hops.HopNode.{HopNode}
use Rattle.sf_c.specs.declared.refusal.SyntaxRefusal.{SyntaxRefusal}
use Rattle.sf_c.specs.declared.status.Status.{Status}
use Rattle.sf_c.specs.declared.status.Status.TheVariants.{Answered, Refused, Short, OutOfMemory}
use Rattle.sf_c.specs.declared.status.Status.TheVariants.{NotACache}
use Rattle.sf_c.specs.Hops.{hops_size, hop_content, HopsAtStart}
use Rattle.sf_c.specs.Refusals.{SaysRefusal, flag_number}

-- the struct says how many hops and bytes there are, and which hop the response came from
abbrev pub SaysPath : Path → Seq Hop → Type 0
SaysPath p hs =
    (p.hops ≡ length hs)
    × (p.bytes ≡ hops_size (map hop_content hs))
    × (p.served ≡ unwrap_or (served hs) 0)
    × (p.is_served ≡ flag_number (is_some (served hs)))

-- what reading a path may write to
pub record PathOutput : Type 0 where
  pub hops : Seq HopNode
  pub bytes : Seq ℕ
  pub path : Path
  pub refusal : SyntaxRefusal

-- the buffers are as long as they were: only what they hold may change
abbrev pub KeepsLengths : PathOutput → PathOutput → Type 0
KeepsLengths old new =
    (length new.hops ≡ length old.hops) × (length new.bytes ≡ length old.bytes)

-- one of the buffers is too small for the path
abbrev pub IsTooSmall : PathOutput → Path → Type 0
IsTooSmall r p = (length r.hops < p.hops) ⊎ (length r.bytes < p.bytes)

-- in the dialect d the text spells a List, and the starts of the buffers describe its hops; or a
-- buffer is too small; or a member names no cache, the first such at this place; or the struct has
-- the refusal; or an allocation failed. The buffers' other contents are unspecified; all else is
-- unchanged
abbrev pub ReportsPath : PathOutput → PathOutput → Seq ℕ → Dialect → Status → Type 0
ReportsPath old new t d Answered =
    (v : Field) × (hs : Seq Hop)
    × IsOnly d List t v
    × (hops v ≡ Ok hs)
    × SaysPath new.path hs
    × (new.path.nameless ≡ old.path.nameless)
    × HopsAtStart (map hop_content hs) new.hops new.bytes
    × KeepsLengths old new
    × (new.refusal ≡ old.refusal)
ReportsPath old new t d Short =
    (v : Field) × (hs : Seq Hop)
    × IsOnly d List t v
    × (hops v ≡ Ok hs)
    × SaysPath new.path hs
    × (new.path.nameless ≡ old.path.nameless)
    × IsTooSmall old new.path
    × KeepsLengths old new
    × (new.refusal ≡ old.refusal)
ReportsPath old new t d NotACache =
    (v : Field)
    × IsOnly d List t v
    × (hops v ≡ Err new.path.nameless)
    × (new.path ≡ record old.path { nameless = new.path.nameless })
    × KeepsLengths old new
    × (new.refusal ≡ old.refusal)
ReportsPath old new t d Refused =
    SaysRefusal d List t new.refusal × KeepsLengths old new × (new.path ≡ old.path)
ReportsPath old new t d OutOfMemory =
    KeepsLengths old new × (new.path ≡ old.path) × (new.refusal ≡ old.refusal)
ReportsPath old new t d status = ⊥

-- the caches that a List names; or the place of its first member that names none, whatever memory
-- there is: an allocation fails only if each member names a cache
abbrev pub NamesCaches : Path → Path → Field → Result (Seq Hop) Status → Type 0
NamesCaches old new v (Ok hs) = (hops v ≡ Ok hs) × (new ≡ old)
NamesCaches old new v (Err NotACache) =
    (hops v ≡ Err new.nameless) × (new ≡ record old { nameless = new.nameless })
NamesCaches old new v (Err OutOfMemory) = IsOk (hops v) × (new ≡ old)
NamesCaches old new v (Err status) = ⊥

-- of a text t hops are at most four fifths of its length, rounded to the nearest number, and bytes
-- at most eight fifths
abbrev pub IsShort : Seq ℕ → Path → Type 0
IsShort t p = (10 * p.hops ≤ 8 * length t + 5) × (5 * p.bytes ≤ 8 * length t)

-- the sizes in the struct, if the status says that they are there, are that few
abbrev pub SaysFew : Seq ℕ → Path → Option Status → Type 0
SaysFew t p (Some Answered) = IsShort t p
SaysFew t p (Some Short) = IsShort t p
SaysFew t p status = ⊤
