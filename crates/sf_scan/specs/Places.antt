-- The places of the grammar where reading may stop, by the bytes that may come there.
use Rattle.std.specs.Prelude.{ℕ, List, Bool, true, false, ◌==◌, ◌||◌, ◌&&◌, [], ◌∷◌}
use Rattle.sf_value.specs.Ascii.{quote, question_mark, colon, percent, digit_zero, digit_one}
use Rattle.sf_value.specs.Ascii.{tab, space, close_bracket, comma, semicolon, equals}
use Rattle.sf_value.specs.Grammar.Classes.{is_token_start, is_in_token, is_visible}
use Rattle.sf_value.specs.Grammar.Classes.{is_one_of, is_sp, is_key_start, is_in_key}
use Rattle.sf_value.specs.Grammar.Strings.{is_escaped}
use Rattle.sf_value.specs.declared.dialect.Dialect.{Dialect}
use Rattle.sf_value.specs.Grammar.Dialects.{is_rfc9651}
use Rattle.sf_scan.specs.Blobs.{in_blob}
use Rattle.sf_scan.specs.DisplayStrings.{in_shown}
use Rattle.sf_scan.specs.NumberPlaces.{is_number_start, in_number, ends_number}
use Rattle.sf_scan.specs.declared.place.BarePlace.{BarePlace}
use Rattle.sf_scan.specs.declared.place.BarePlace.TheVariants as place
use Rattle.sf_scan.specs.declared.place.ParamPlace.{ParamPlace}
use Rattle.sf_scan.specs.declared.place.ParamPlace.TheVariants as param

-- the bytes that may follow a bare item without being part of it
abbrev pub follow : List ℕ
follow = tab ∷ space ∷ close_bracket ∷ comma ∷ semicolon ∷ []

abbrev pub is_follow : ℕ → Bool
is_follow = is_one_of follow

-- the first bytes of Byte Sequences and, by RFC 9651, of Display Strings
abbrev pub is_coded_start : Dialect → ℕ → Bool
is_coded_start d b = b == colon || (b == percent && is_rfc9651 d)

-- the first bytes of bare items
abbrev pub is_bare_start : Dialect → ℕ → Bool
is_bare_start d b =
    (is_token_start b || (b == quote || b == question_mark))
    || (is_number_start d b || is_coded_start d b)

-- the bytes that may come at a place in a bare item
abbrev pub in_bare : Dialect → BarePlace → ℕ → Bool
in_bare d place.Start b = is_bare_start d b
in_bare d place.QuestionMark b = b == digit_zero || b == digit_one
in_bare d place.InToken b = is_in_token b
in_bare d place.InString b = is_visible b
in_bare d place.Backslash b = is_escaped b
in_bare d (place.Blob p) b = in_blob p b
in_bare d (place.Shown p) b = in_shown p b
in_bare d (place.Number p) b = in_number p b
in_bare d place.Complete b = false

-- whether the bare item may end there
abbrev pub ends_bare : BarePlace → Bool
ends_bare place.Start = false
ends_bare place.QuestionMark = false
ends_bare place.InToken = true
ends_bare place.InString = false
ends_bare place.Backslash = false
ends_bare (place.Blob p) = false
ends_bare (place.Shown p) = false
ends_bare (place.Number p) = ends_number p
ends_bare place.Complete = true

-- the bytes that may come at a place in a parameter, as part of it
abbrev pub in_param : Dialect → ParamPlace → ℕ → Bool
in_param d param.Before b = false
in_param d param.Semicolon b = is_sp b || is_key_start b
in_param d param.InKey b = is_in_key b || b == equals
in_param d (param.InValue p) b = in_bare d p b

-- whether the parameters may end there
abbrev pub ends_params : ParamPlace → Bool
ends_params param.Before = true
ends_params param.Semicolon = false
ends_params param.InKey = true
ends_params (param.InValue p) = ends_bare p

-- the bytes that may come there: another parameter may follow one that may end
abbrev pub in_params : Dialect → ParamPlace → ℕ → Bool
in_params d p b = in_param d p b || (ends_params p && b == semicolon)

-- the bytes that may follow an Item, an Inner List or parameters without being part of them
abbrev pub is_after : ℕ → Bool
is_after b = is_one_of (tab ∷ space ∷ close_bracket ∷ comma ∷ []) b
