-- What is claimed of UTF-8 (RFC 3629): decoding is the inverse of encoding.
use Rattle.std.specs.Prelude.{◌≡◌, ℕ, true, ◌↔◌, List, Some, is_some}
use Rattle.std.specs.List.{list_all}
use Rattle.sf_rfc.specs.Rfc9651.Utf8.{is_utf8}
use Rattle.sf_rfc.specs.Rfc9651.Utf8Coding.{is_scalar, utf8_encode, utf8_decode}

-- encoding succeeds for the Unicode scalar values, and for nothing else
abbrev pub ScalarsEncode : Type 0
ScalarsEncode = (cs : List ℕ) → is_some (utf8_encode cs) ≡ list_all is_scalar cs

-- characters are encoded as these octets exactly if the octets are decoded as these characters
abbrev pub DecodingInverts : Type 0
DecodingInverts = (cs s : List ℕ) → (utf8_encode cs ≡ Some s) ↔ (utf8_decode s ≡ Some cs)

-- decoding (section 3) succeeds for the octets that keep to the ABNF (section 4), and for nothing
-- else
abbrev pub AbnfDecodes : Type 0
AbnfDecodes = (s : List ℕ) → is_some (utf8_decode s) ≡ is_utf8 s
