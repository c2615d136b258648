-- Well-formed UTF-8, by the places of the scanner, and its bytes by their two digits.
use Rattle.std.specs.Option.{option_or}
use Rattle.std.specs.Prelude.{ℕ, Bool, true, ◌==◌, nat_lt, nat_le, ◌||◌, if◌then◌else◌, List, []}
use Rattle.std.specs.Prelude.{◌∷◌, Option, None}
use Rattle.sf_value.specs.Grammar.Utf8.{Utf8, Start, Within, within}
use Rattle.sf_value.specs.Grammar.Words.{allow}
use Rattle.sf_scan.specs.declared.char_place.CharPlace.{CharPlace}
use Rattle.sf_scan.specs.declared.char_place.CharPlace.TheVariants as chars
use Rattle.sf_scan.specs.declared.char_place.LowDigits.{LowDigits}
use Rattle.sf_scan.specs.declared.char_place.LowDigits.TheVariants as low

-- the state of the grammar
abbrev pub utf8_of : CharPlace → Utf8
utf8_of chars.Start = Start
utf8_of chars.Last = Within 0 128 191
utf8_of chars.LastTwo = Within 1 128 191
utf8_of chars.LastThree = Within 2 128 191
utf8_of chars.AfterE0 = Within 1 160 191
utf8_of chars.AfterEd = Within 1 128 159
utf8_of chars.AfterF0 = Within 2 144 191
utf8_of chars.AfterF4 = Within 2 128 143

-- the first bytes of characters, from and to, and the place after them
abbrev pub first_places : List (ℕ × ℕ × CharPlace)
first_places =
    (0, 127, chars.Start)
    ∷ (194, 223, chars.Last)
    ∷ (224, 224, chars.AfterE0)
    ∷ (225, 236, chars.LastTwo)
    ∷ (237, 237, chars.AfterEd)
    ∷ (238, 239, chars.LastTwo)
    ∷ (240, 240, chars.AfterF0)
    ∷ (241, 243, chars.LastThree)
    ∷ (244, 244, chars.AfterF4)
    ∷ []

-- the place in the first row whose range has the byte
abbrev pub find_place : List (ℕ × ℕ × CharPlace) → ℕ → Option CharPlace
find_place [] b = None
find_place (r ∷ rs) b = option_or (allow (within r.0 r.1 b) r.2) (find_place rs b)

-- the place after one more byte
abbrev pub char_step : CharPlace → ℕ → Option CharPlace
char_step chars.Start b = find_place first_places b
char_step chars.Last b = allow (within 128 191 b) chars.Start
char_step chars.LastTwo b = allow (within 128 191 b) chars.Last
char_step chars.LastThree b = allow (within 128 191 b) chars.LastTwo
char_step chars.AfterE0 b = allow (within 160 191 b) chars.Last
char_step chars.AfterEd b = allow (within 128 159 b) chars.Last
char_step chars.AfterF0 b = allow (within 144 191 b) chars.LastTwo
char_step chars.AfterF4 b = allow (within 128 143 b) chars.LastTwo

-- whether a byte may come whose first hexadecimal digit has this value
abbrev pub can_begin : CharPlace → ℕ → Bool
can_begin chars.Start h = nat_lt h 8 || nat_le 12 h
can_begin chars.Last h = within 8 11 h
can_begin chars.LastTwo h = within 8 11 h
can_begin chars.LastThree h = within 8 11 h
can_begin chars.AfterE0 h = within 10 11 h
can_begin chars.AfterEd h = within 8 9 h
can_begin chars.AfterF0 h = within 9 11 h
can_begin chars.AfterF4 h = h == 8

-- which digits may come as its second, if it may come
abbrev pub low_digits : CharPlace → ℕ → LowDigits
low_digits chars.Start h =
    if h == 12 then low.FromTwo else (if h == 15 then low.UpToFour else low.Any)
low_digits c h = low.Any

-- whether a digit of this value is one of them
abbrev pub is_low : LowDigits → ℕ → Bool
is_low low.Any d = true
is_low low.FromTwo d = nat_le 2 d
is_low low.UpToFour d = nat_le d 4
