-- The ABNF of RFC 9651 (appendix C): its rules under their names, with _ for -, each with the
-- section of its type. The rules of RFC 8941 (section 3) match the same texts, except as noted.
use Rattle.std.specs.Prelude.{codes}
use Rattle.sf_value.specs.declared.dialect.Dialect.{Dialect}
use Rattle.sf_value.specs.declared.dialect.Dialect.TheVariants.{Rfc8941, Rfc9651}
use Rattle.sf_rfc.specs.Rfc9651.AbnfNotation.{Rule, text, range, then, either, one_of, repeated}
use Rattle.sf_rfc.specs.Rfc9651.AbnfNotation.{many, some, optional}
use Rattle.sf_rfc.specs.Rfc9651.AbnfNotation.{ALPHA, DIGIT, DQUOTE, SP, OWS, tchar}

-- sf-integer = ["-"] 1*15DIGIT (3.3.1)
abbrev pub sf_integer : Rule
sf_integer = then (optional (text (codes "-"))) (repeated 1 15 DIGIT)

-- sf-decimal = ["-"] 1*12DIGIT "." 1*3DIGIT (3.3.2)
abbrev pub sf_decimal : Rule
sf_decimal =
    then (optional (text (codes "-"))) (then (repeated 1 12 DIGIT)
    (then (text (codes ".")) (repeated 1 3 DIGIT)))

-- unescaped = %x20-21 / %x23-24 / %x26-5B / %x5D-7E; in RFC 8941 with "%" (%x25)
abbrev pub unescaped : Rule
unescaped =
    either (range 0x20 0x21) (either (range 0x23 0x24) (either (range 0x26 0x5b) (range 0x5d 0x7e)))

-- bs-escaped = "\" ( DQUOTE / "\" )
abbrev pub bs_escaped : Rule
bs_escaped = then (text (codes "\\")) (either DQUOTE (text (codes "\\")))

-- sf-string = DQUOTE *( unescaped / "%" / bs-escaped ) DQUOTE (3.3.3)
abbrev pub sf_string : Rule
sf_string =
    then DQUOTE (then (many (either unescaped (either (text (codes "%")) bs_escaped))) DQUOTE)

-- sf-token = ( ALPHA / "*" ) *( tchar / ":" / "/" ) (3.3.4)
abbrev pub sf_token : Rule
sf_token =
    then (either ALPHA (text (codes "*")))
    (many (either tchar (either (text (codes ":")) (text (codes "/")))))

-- base64 = *( ALPHA / DIGIT / "+" / "/" ) *"="; RFC 8941 matches more texts: "=" may be anywhere
abbrev pub base64 : Rule
base64 =
    then (many (either ALPHA (either DIGIT (either (text (codes "+")) (text (codes "/"))))))
    (many (text (codes "=")))

-- sf-binary = ":" base64 ":" (3.3.5)
abbrev pub sf_binary : Rule
sf_binary = then (text (codes ":")) (then base64 (text (codes ":")))

-- sf-boolean = "?" ( "0" / "1" ) (3.3.6)
abbrev pub sf_boolean : Rule
sf_boolean = then (text (codes "?")) (either (text (codes "0")) (text (codes "1")))

-- sf-date = "@" sf-integer (3.3.7); not in RFC 8941
abbrev pub sf_date : Rule
sf_date = then (text (codes "@")) sf_integer

-- lc-hexdig = DIGIT / %x61-66
abbrev pub lc_hexdig : Rule
lc_hexdig = either DIGIT (range 0x61 0x66)

-- pct-encoded = "%" lc-hexdig lc-hexdig
abbrev pub pct_encoded : Rule
pct_encoded = then (text (codes "%")) (then lc_hexdig lc_hexdig)

-- sf-displaystring = "%" DQUOTE *( unescaped / "\" / pct-encoded ) DQUOTE (3.3.8); not in RFC 8941
abbrev pub sf_displaystring : Rule
sf_displaystring =
    then (text (codes "%")) (then DQUOTE
    (then (many (either unescaped (either (text (codes "\\")) pct_encoded))) DQUOTE))

-- bare-item = sf-integer / sf-decimal / sf-string / sf-token / sf-binary / sf-boolean
--             / sf-date / sf-displaystring (3.3); RFC 8941 ends with sf-boolean
abbrev pub bare_item : Dialect → Rule
bare_item Rfc8941 =
    either sf_integer (either sf_decimal (either sf_string (either sf_token
    (either sf_binary sf_boolean))))
bare_item Rfc9651 =
    either sf_integer (either sf_decimal (either sf_string (either sf_token
    (either sf_binary (either sf_boolean (either sf_date sf_displaystring))))))

-- lcalpha = %x61-7A (3.1.2)
abbrev pub lcalpha : Rule
lcalpha = range 0x61 0x7a

-- key = ( lcalpha / "*" ) *( lcalpha / DIGIT / "_" / "-" / "." / "*" ) (3.1.2)
abbrev pub key : Rule
key =
    then (either lcalpha (text (codes "*")))
    (many (either lcalpha (either DIGIT (one_of (codes "_-.*")))))

-- parameter = param-key [ "=" param-value ], with param-key = key, param-value = bare-item (3.1.2)
abbrev pub parameter : Dialect → Rule
parameter d = then key (optional (then (text (codes "=")) (bare_item d)))

-- parameters = *( ";" *SP parameter ) (3.1.2)
abbrev pub parameters : Dialect → Rule
parameters d = many (then (text (codes ";")) (then (many SP) (parameter d)))

-- sf-item = bare-item parameters (3.3)
abbrev pub sf_item : Dialect → Rule
sf_item d = then (bare_item d) (parameters d)

-- inner-list = "(" *SP [ sf-item *( 1*SP sf-item ) *SP ] ")" parameters (3.1.1)
abbrev pub inner_list : Dialect → Rule
inner_list d =
    then (text (codes "(")) (then (many SP)
    (then (optional (then (sf_item d) (then (many (then (some SP) (sf_item d))) (many SP))))
    (then (text (codes ")")) (parameters d))))

-- list-member = sf-item / inner-list (3.1)
abbrev pub list_member : Dialect → Rule
list_member d = either (sf_item d) (inner_list d)

-- P *( OWS "," OWS P )
abbrev pub with_commas : Rule → Rule
with_commas P = then P (many (then OWS (then (text (codes ",")) (then OWS P))))

-- sf-list = list-member *( OWS "," OWS list-member ) (3.1)
abbrev pub sf_list : Dialect → Rule
sf_list d = with_commas (list_member d)

-- member-value = sf-item / inner-list (3.2)
abbrev pub member_value : Dialect → Rule
member_value d = either (sf_item d) (inner_list d)

-- dict-member = member-key ( parameters / ( "=" member-value ) ), with member-key = key (3.2)
abbrev pub dict_member : Dialect → Rule
dict_member d = then key (either (parameters d) (then (text (codes "=")) (member_value d)))

-- sf-dictionary = dict-member *( OWS "," OWS dict-member ) (3.2)
abbrev pub sf_dictionary : Dialect → Rule
sf_dictionary d = with_commas (dict_member d)
