-- The numbers of the statuses.
use Rattle.std.specs.Prelude.{ℕ, ◌==◌, if◌then◌else◌, Option, Some, None}
use Rattle.sf_c.specs.declared.status.Status.{Status}
use Rattle.sf_c.specs.declared.status.Status.TheVariants.{Answered, Refused, SecondRefused, Short}
use Rattle.sf_c.specs.declared.status.Status.TheVariants.{OutOfMemory, Empty, BadCall}
use Rattle.sf_c.specs.declared.status.Status.TheVariants.{NotACache, Invalid, Absent, TooLong}
use Rattle.sf_c.specs.declared.status.Status.TheVariants.{TooMany}

-- the status of a number
abbrev pub status_at : ℕ → Option Status
status_at n =
    if n == 0 then Some Answered
    else (if n == 1 then Some Refused
    else (if n == 2 then Some SecondRefused
    else (if n == 3 then Some Short
    else (if n == 4 then Some OutOfMemory
    else (if n == 5 then Some Empty
    else (if n == 6 then Some BadCall
    else (if n == 7 then Some NotACache
    else (if n == 8 then Some Invalid
    else (if n == 9 then Some Absent
    else (if n == 10 then Some TooLong
    else (if n == 11 then Some TooMany else None)))))))))))
