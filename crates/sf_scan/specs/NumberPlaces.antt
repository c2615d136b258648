-- The places in Integers, Decimals and Dates, by the bytes that may come there.
use Rattle.std.specs.Prelude.{ℕ, Bool, false, ◌==◌, ◌&&◌, ◌||◌, nat_lt, nat_le}
use Rattle.sf_value.specs.Ascii.{minus, point, at_sign}
use Rattle.sf_value.specs.Grammar.Classes.{is_digit}
use Rattle.sf_value.specs.Grammar.Dialects.{is_rfc9651}
use Rattle.sf_value.specs.declared.dialect.Dialect.{Dialect}
use Rattle.sf_scan.specs.declared.number_place.NumberPlace.{NumberPlace}
use Rattle.sf_scan.specs.declared.number_place.NumberPlace.TheVariants as place

-- the first bytes of Integers and of Decimals
abbrev pub is_signed_start : ℕ → Bool
is_signed_start b = is_digit b || b == minus

-- and of Dates, by RFC 9651
abbrev pub is_number_start : Dialect → ℕ → Bool
is_number_start d b = is_signed_start b || (b == at_sign && is_rfc9651 d)

-- a point comes after 1 to 12 digits
abbrev pub is_point_after : ℕ → ℕ → Bool
is_point_after n b = nat_le 1 n && (nat_le n 12 && b == point)

-- the bytes that may come at a place in a number: an Integer has at most 15 digits
abbrev pub in_number : NumberPlace → ℕ → Bool
in_number (place.Whole n) b = (nat_lt n 15 && is_digit b) || is_point_after n b
in_number (place.Fraction n) b = nat_lt n 3 && is_digit b
in_number place.At b = is_signed_start b
in_number (place.DateDigits n) b = nat_lt n 15 && is_digit b

-- whether the number may end there
abbrev pub ends_number : NumberPlace → Bool
ends_number (place.Whole n) = nat_le 1 n
ends_number (place.Fraction n) = nat_le 1 n
ends_number place.At = false
ends_number (place.DateDigits n) = nat_le 1 n
