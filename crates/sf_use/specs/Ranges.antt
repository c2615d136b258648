-- The ranges of urgencies and of status codes.
use Rattle.std.specs.Prelude.{ℕ, ◌≤◌, nat_le, Bool, ◌&&◌}

-- the least urgent urgency, and the default (RFC 9218 section 4.1)
abbrev pub least_urgent : ℕ
least_urgent = 7

abbrev pub usual_urgency : ℕ
usual_urgency = 3

-- an urgency is a number from 0, the most urgent, on
abbrev pub IsUrgency : ℕ → Type 0
IsUrgency n = n ≤ least_urgent

-- the numbers of three digits (RFC 9110 section 15)
abbrev pub least_status : ℕ
least_status = 100

abbrev pub greatest_status : ℕ
greatest_status = 999

-- a status code has three digits
abbrev pub IsHopStatus : ℕ → Type 0
IsHopStatus n = (least_status ≤ n) × (n ≤ greatest_status)

-- "Values outside the range 100..599 are invalid" (RFC 9110 section 15)
abbrev pub greatest_valid_status : ℕ
greatest_valid_status = 599

-- whether a number is a valid status code
abbrev pub is_valid_status : ℕ → Bool
is_valid_status n = nat_le least_status n && nat_le n greatest_valid_status

-- whether a number is a status code
abbrev pub is_hop_status : ℕ → Bool
is_hop_status n = nat_le least_status n && nat_le n greatest_status
