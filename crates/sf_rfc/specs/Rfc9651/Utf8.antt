-- UTF-8 by the ABNF of RFC 3629 section 4. A rule returns the octets that it leaves, or None.
use Rattle.std.specs.Option.{option_or}
use Rattle.std.specs.Prelude.{ℕ, zero, suc, Bool, true, false, List, [], ◌∷◌, length, Option, Some}
use Rattle.std.specs.Prelude.{None}
use Rattle.sf_rfc.specs.Rfc9651.Words.{and_then, only_if}
use Rattle.sf_rfc.specs.Rfc9651.Alphabets.{in_range}

abbrev pub Rule : Type 0
Rule = List ℕ → Option (List ℕ)

-- an octet %xLOW-HIGH
abbrev pub octet : ℕ → ℕ → Rule
octet low high [] = None
octet low high (c ∷ t) = only_if (in_range low high c) t

-- one rule after another
abbrev pub then : Rule → Rule → Rule
then p q t = and_then (p t) q

-- one rule, or another if that fails
abbrev pub either : Rule → Rule → Rule
either p q t = option_or (p t) (q t)

-- UTF8-tail = %x80-BF
abbrev pub utf8_tail : Rule
utf8_tail = octet 128 191

-- UTF8-1 = %x00-7F
abbrev pub utf8_1 : Rule
utf8_1 = octet 0 127

-- UTF8-2 = %xC2-DF UTF8-tail
abbrev pub utf8_2 : Rule
utf8_2 = then (octet 194 223) utf8_tail

-- UTF8-3 = %xE0 %xA0-BF UTF8-tail / %xE1-EC 2( UTF8-tail ) /
--          %xED %x80-9F UTF8-tail / %xEE-EF 2( UTF8-tail )
abbrev pub utf8_3 : Rule
utf8_3 = either (then (octet 224 224) (then (octet 160 191) utf8_tail))
    (either (then (octet 225 236) (then utf8_tail utf8_tail))
    (either (then (octet 237 237) (then (octet 128 159) utf8_tail))
    (then (octet 238 239) (then utf8_tail utf8_tail))))

-- UTF8-4 = %xF0 %x90-BF 2( UTF8-tail ) / %xF1-F3 3( UTF8-tail ) /
--          %xF4 %x80-8F 2( UTF8-tail )
abbrev pub utf8_4 : Rule
utf8_4 = either (then (octet 240 240) (then (octet 144 191) (then utf8_tail utf8_tail)))
    (either (then (octet 241 243) (then utf8_tail (then utf8_tail utf8_tail)))
    (then (octet 244 244) (then (octet 128 143) (then utf8_tail utf8_tail))))

-- UTF8-char = UTF8-1 / UTF8-2 / UTF8-3 / UTF8-4
abbrev pub utf8_char : Rule
utf8_char = either utf8_1 (either utf8_2 (either utf8_3 utf8_4))

-- UTF8-octets = *( UTF8-char ), up to the end, in at most this many characters
abbrev pub utf8_octets : ℕ → List ℕ → Bool
utf8_octets n [] = true
utf8_octets zero (c ∷ t) = false
utf8_octets (suc n) (c ∷ t) = elim (utf8_char (c ∷ t)) [
  | None ↦ false
  | Some u ↦ utf8_octets n u
]

-- whether the octets are UTF8-octets
abbrev pub is_utf8 : List ℕ → Bool
is_utf8 t = utf8_octets (length t) t
