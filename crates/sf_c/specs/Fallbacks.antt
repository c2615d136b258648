-- What a cache decides by if no field of its target list does (RFC 9213 section 2.2), as a struct:
-- the directives of Cache-Control, and Expires and Date.
use Rattle.std.specs.Prelude.{◌≡◌, ◌≢◌, ℕ, ◌==◌, ◌⊎◌, if◌then◌else◌, List as Seq, [], ◌∷◌, ◌++◌}
use Rattle.std.specs.Prelude.{Option, Some, None, unwrap_or}
use Rattle.sf_use.specs.CacheControl.{AreNoCacheControl, HaveCacheRules, refused_rules}
use Rattle.sf_use.specs.Expires.{IsLifetimeOfLines, IsTime, seconds_until, sole_line}
use Rattle.sf_c.specs.declared.decide.Response.{Response}
use Rattle.sf_c.specs.declared.fallback.Fallback.{Fallback}
use Rattle.sf_c.specs.declared.fallback.FallbackField.{FallbackField}
use Rattle.sf_c.specs.declared.fallback.FallbackField.TheVariants.{CacheControl, Expires, Date}
use Rattle.sf_c.specs.declared.fallback.Time.{Time}
use Rattle.sf_c.specs.declared.status.Status.{Status}
use Rattle.sf_c.specs.declared.status.Status.TheVariants.{Answered, Refused, Empty, BadCall}
use Rattle.sf_c.specs.Rules.{rules_by}

-- the field of a number
abbrev pub fallback_field_at : ℕ → Option FallbackField
fallback_field_at n =
    if n == 71 then Some CacheControl
    else (if n == 72 then Some Expires else (if n == 73 then Some Date else None))

-- the struct has the directives of these lines; or it is refused, since one of them is no list of
-- directives, and has those of no-store: a directive that forbids to store may be lost
abbrev pub HasDirectives : Seq (Seq ℕ) → Fallback → Type 0
HasDirectives lines f =
    ((f.is_refused ≡ 0) × HaveCacheRules lines (rules_by f.rules))
    ⊎ ((f.is_refused ≢ 0) × AreNoCacheControl lines × (rules_by f.rules ≡ refused_rules))

-- the time that the struct of a field says
abbrev pub time_by : Time → Option ℕ
time_by t = if t.lines == 1 then Some t.seconds else None

-- the struct of a field has the time of these lines: that of the only line. Several lines have no
-- time, also if they would spell a date when they are joined
abbrev pub HasTime : Seq (Seq ℕ) → Time → Type 0
HasTime [] t = t.lines ≡ 0
HasTime (line ∷ []) t = (t.lines ≢ 0) × IsTime line (time_by t)
HasTime (line ∷ more ∷ lines) t = (t.lines ≢ 0) × (time_by t ≡ None)

-- one more line of a field, after those before
abbrev pub TakesLine : {A : Type 0} → (Seq (Seq ℕ) → A → Type 0) → A → A → Seq ℕ → Type 0
TakesLine Has old new line =
    (lines : Seq (Seq ℕ)) → Has lines old → Has (lines ++ line ∷ []) new

-- Refused if a line is no list of directives, this one or one before
abbrev pub ReportsRefused : Fallback → Option Status → Type 0
ReportsRefused f (Some Answered) = f.is_refused ≡ 0
ReportsRefused f (Some Refused) = f.is_refused ≢ 0
ReportsRefused f status = ⊥

-- the struct has one more line of a field, and its other fields are unchanged; or there is no such
-- field
abbrev pub AddsLine : Fallback → Fallback → Seq ℕ → Option FallbackField → Option Status → Type 0
AddsLine old new line (Some CacheControl) status =
    TakesLine HasDirectives old new line
    × ReportsRefused new status
    × (new.expires ≡ old.expires)
    × (new.date ≡ old.date)
AddsLine old new line (Some Expires) status =
    TakesLine HasTime old.expires new.expires line
    × (new ≡ record old { expires = new.expires })
    × (status ≡ Some Answered)
AddsLine old new line (Some Date) status =
    TakesLine HasTime old.date new.date line
    × (new ≡ record old { date = new.date })
    × (status ≡ Some Answered)
AddsLine old new line None status = (status ≡ Some BadCall) × (new ≡ old)

-- the lifetime that Expires sets, less Date or the time at which the response was received; None
-- without a line of Expires
abbrev pub lifetime_by : Fallback → ℕ → Option ℕ
lifetime_by f received =
    if f.expires.lines == 0 then None
    else Some (seconds_until (time_by f.expires) (unwrap_or (time_by f.date) received))

-- it is the lifetime of the lines of which the struct has the times (RFC 9111 sections 4.2.1 and
-- 5.3)
abbrev pub IsLifetimeOfFields : Fallback → ℕ → Type 0
IsLifetimeOfFields f received =
    (expires dates : Seq (Seq ℕ)) → HasTime expires f.expires → HasTime dates f.date
    → IsLifetimeOfLines expires (sole_line dates) received (lifetime_by f received)

-- the lifetime is that of the response; without one everything is unchanged
abbrev pub SetsLifetime : Response → Response → Option ℕ → Option Status → Type 0
SetsLifetime old new (Some seconds) status =
    (status ≡ Some Answered) × (new ≡ record old { lifetime = seconds; has_lifetime = 1 })
SetsLifetime old new None status = (status ≡ Some Empty) × (new ≡ old)
