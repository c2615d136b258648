-- The lifetime that Expires sets (RFC 9111 sections 4.2.1 and 5.3), with dates as RFC 9110 section
-- 5.6.7 has them.
use Rattle.std.specs.Prelude.{◌≡◌, ℕ, ◌-◌, List, [], ◌∷◌, Option, Some, None, unwrap_or, codes}
use Rattle.httpdate.specs.Date.{IsDateText, unix_secs}
use Rattle.httpdate.specs.declared.date.HttpDate.{HttpDate}
use Rattle.sf_field.specs.Headers.{Headers, lines_under}

-- the seconds since 1970 that an HTTP-date shows; None for another text
abbrev pub IsTime : List ℕ → Option ℕ → Type 0
IsTime text (Some seconds) = (d : HttpDate) × IsDateText text d × (seconds ≡ unix_secs d)
IsTime text None = (d : HttpDate) → ¬ (IsDateText text d)

-- when the response was made: "the value of the Date response header field (using the time the
-- message was received if it is not present)" (4.2.1), or if it is no HTTP-date
abbrev pub IsMade : Option (List ℕ) → ℕ → ℕ → Type 0
IsMade None received made = made ≡ received
IsMade (Some date) received made =
    (time : Option ℕ) × IsTime date time × (made ≡ unwrap_or time received)

-- "invalid date formats, especially the value 0, as representing a time in the past" (5.3)
abbrev pub seconds_until : Option ℕ → ℕ → ℕ
seconds_until None made = 0
seconds_until (Some time) made = time - made

-- "its value minus the value of the Date response header field" (4.2.1), 0 if it is in the past
abbrev pub IsExpiresLifetime : List ℕ → Option (List ℕ) → ℕ → ℕ → Type 0
IsExpiresLifetime expires date received seconds =
    (time : Option ℕ)
    × (made : ℕ)
    × IsTime expires time
    × IsMade date received made
    × (seconds ≡ seconds_until time made)

-- the line of a field that has one. Several are not combined, since the field is no list (RFC 9110
-- section 5.3)
abbrev pub sole_line : List (List ℕ) → Option (List ℕ)
sole_line [] = None
sole_line (line ∷ []) = Some line
sole_line (line ∷ more ∷ lines) = None

-- the lifetime that the lines of Expires set; None without a line. "When there is more than one
-- value present .. (e.g., two Expires header field lines ..), either the first occurrence should be
-- used or the response should be considered stale" (4.2.1): stale is our choice
abbrev pub IsLifetimeOfLines : List (List ℕ) → Option (List ℕ) → ℕ → Option ℕ → Type 0
IsLifetimeOfLines [] date received lifetime = lifetime ≡ None
IsLifetimeOfLines (line ∷ []) date received None = ⊥
IsLifetimeOfLines (line ∷ []) date received (Some seconds) =
    IsExpiresLifetime line date received seconds
IsLifetimeOfLines (line ∷ more ∷ lines) date received lifetime = lifetime ≡ Some 0

-- the same of a response; a Date of several lines counts as absent
abbrev pub IsExpiresOf : Headers → ℕ → Option ℕ → Type 0
IsExpiresOf headers received lifetime =
    IsLifetimeOfLines (lines_under headers (codes "expires"))
    (sole_line (lines_under headers (codes "date"))) received lifetime
