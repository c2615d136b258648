-- The byte classes (section 3 and its ABNF; tchar is that of RFC 9110 section 5.6.2).
use Rattle.std.specs.Prelude.{ℕ, Bool, false, List, [], ◌∷◌, ◌==◌, nat_le, nat_lt, ◌&&◌, ◌||◌}
use Rattle.std.specs.Prelude.{codes}
use Rattle.sf_value.specs.Ascii.{tab, space, asterisk, slash, digit_zero, digit_nine, colon}
use Rattle.sf_value.specs.Ascii.{upper_a, upper_z, lower_a, lower_z, tilde}

-- one of a list
abbrev pub is_one_of : List ℕ → ℕ → Bool
is_one_of [] b = false
is_one_of (c ∷ cs) b = b == c || is_one_of cs b

-- SP
abbrev pub is_sp : ℕ → Bool
is_sp b = b == space

-- OWS: SP or HTAB
abbrev pub is_ows : ℕ → Bool
is_ows b = b == space || b == tab

-- DIGIT: 0 to 9
abbrev pub is_digit : ℕ → Bool
is_digit b = nat_le digit_zero b && nat_le b digit_nine

-- lcalpha: a to z
abbrev pub is_lower : ℕ → Bool
is_lower b = nat_le lower_a b && nat_le b lower_z

-- ALPHA: a to z and A to Z
abbrev pub is_alpha : ℕ → Bool
is_alpha b = is_lower b || (nat_le upper_a b && nat_le b upper_z)

-- the first byte of a key (3.1.2): lcalpha or *
abbrev pub is_key_start : ℕ → Bool
is_key_start b = is_lower b || b == asterisk

-- a further byte of a key (3.1.2)
abbrev pub is_in_key : ℕ → Bool
is_in_key b = is_lower b || is_digit b || is_one_of (codes "_-.*") b

-- tchar (RFC 9110 section 5.6.2)
abbrev pub is_tchar : ℕ → Bool
is_tchar b = is_alpha b || is_digit b || is_one_of (codes "!#$%&'*+-.^_`|~") b

-- the first byte of a Token (3.3.4): ALPHA or *
abbrev pub is_token_start : ℕ → Bool
is_token_start b = is_alpha b || b == asterisk

-- a further byte of a Token (3.3.4): tchar, : or /
abbrev pub is_in_token : ℕ → Bool
is_in_token b = is_tchar b || b == colon || b == slash

-- 0x20 to 0x7E, the bytes of a String (3.3.3)
abbrev pub is_visible : ℕ → Bool
is_visible b = nat_le space b && nat_le b tilde

-- a byte: below 256
abbrev pub is_byte : ℕ → Bool
is_byte b = nat_lt b 256
