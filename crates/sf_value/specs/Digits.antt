-- The values of digits; None for a byte that is not one.
use Rattle.std.specs.Prelude.{ℕ, ◌+◌, ◌-◌, ◌==◌, nat_le, ◌&&◌, if◌then◌else◌, Option, Some, None}
use Rattle.sf_value.specs.Ascii.{plus, slash, digit_zero, lower_a, lower_f, upper_a, upper_z}
use Rattle.sf_value.specs.Grammar.Classes.{is_digit, is_lower}
use Rattle.sf_value.specs.Grammar.Utf8.{within}

-- the value of a lower-case hexadecimal digit
abbrev pub unhex : ℕ → Option ℕ
unhex b = if is_digit b then Some (b - digit_zero) else
    (if within lower_a lower_f b then Some (b - 87) else None)

-- the value of a character of base64 (RFC 4648 section 4)
abbrev pub sextet : ℕ → Option ℕ
sextet b = if nat_le upper_a b && nat_le b upper_z then Some (b - upper_a) else
    (if is_lower b then Some (b - 71) else
    (if is_digit b then Some (b + 4) else
    (if b == plus then Some 62 else (if b == slash then Some 63 else None))))
