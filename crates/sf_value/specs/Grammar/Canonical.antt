-- The canonical texts (4.1). They don't depend on the dialect, or on how texts spell values.
use Rattle.std.specs.Prelude.{ℕ, ◌+◌, ◌/◌, ◌%◌, ℤ, pos, negsuc, nat_abs, Bool, true, false, ◌==◌}
use Rattle.std.specs.Prelude.{if◌then◌else◌, List as Seq, [], ◌∷◌, ◌++◌, replicate, decimal}
use Rattle.std.specs.Fmt.{signed_decimal}
use Rattle.sf_value.specs.declared.value.Bare.{Bare}
use Rattle.sf_value.specs.declared.value.Bare.TheVariants.{Integer, Decimal, Text, Token}
use Rattle.sf_value.specs.declared.value.Bare.TheVariants.{Blob, Boolean, Date, Shown}
use Rattle.sf_value.specs.declared.value.Item.{Item}
use Rattle.sf_value.specs.declared.value.Inner.{Inner}
use Rattle.sf_value.specs.declared.value.Member.{Member}
use Rattle.sf_value.specs.declared.value.Member.TheVariants as member
use Rattle.sf_value.specs.declared.value.Field.{Field}
use Rattle.sf_value.specs.declared.value.Field.TheVariants as field
use Rattle.sf_value.specs.Ascii.{space, quote, percent, open_bracket, close_bracket, comma, point}
use Rattle.sf_value.specs.Ascii.{digit_zero, digit_one, colon, semicolon, equals, question_mark}
use Rattle.sf_value.specs.Ascii.{at_sign}
use Rattle.sf_value.specs.Grammar.Pairs.{Pairs}
use Rattle.sf_value.specs.Grammar.Numbers.{sign}
use Rattle.sf_value.specs.Grammar.Strings.{escaped}
use Rattle.sf_value.specs.Grammar.ByteSequences.{unpadded, needed}
use Rattle.sf_value.specs.Grammar.DisplayStrings.{hex, is_unencoded}

-- whether the number has a -
abbrev pub is_negative : ℤ → Bool
is_negative (pos n) = false
is_negative (negsuc n) = true

-- the digits after the point: at least one, and no zero at the end that can be left out
abbrev pub fraction : ℕ → Seq ℕ
fraction f =
    if f % 100 == 0 then (digit_zero + f / 100) ∷ []
    else (if f % 10 == 0 then (digit_zero + f / 100) ∷ (digit_zero + f / 10 % 10) ∷ []
    else (digit_zero + f / 100) ∷ (digit_zero + f / 10 % 10) ∷ (digit_zero + f % 10) ∷ [])

-- a Decimal (4.1.5)
abbrev pub canon_decimal : ℤ → Seq ℕ
canon_decimal m =
    sign (is_negative m) ++ (decimal (nat_abs m / 1000) ++ point ∷ fraction (nat_abs m % 1000))

-- base64 with padding and zero pad bits, and the colon (4.1.8)
abbrev pub canon_base64 : Seq ℕ → Seq ℕ
canon_base64 s = unpadded 0 s ++ (replicate (needed s) equals ++ colon ∷ [])

-- the bytes of a Display String, and the quote (4.1.11)
abbrev pub canon_shown : Seq ℕ → Seq ℕ
canon_shown [] = quote ∷ []
canon_shown (c ∷ s) =
    if is_unencoded c then c ∷ canon_shown s else percent ∷ hex (c / 16) ∷ hex (c % 16) ∷
    canon_shown s

-- a bare item (4.1.3.1, 4.1.4 to 4.1.11)
abbrev pub canon_bare : Bare → Seq ℕ
canon_bare (Integer n) = signed_decimal n
canon_bare (Decimal m) = canon_decimal m
canon_bare (Text s) = quote ∷ (escaped s ++ quote ∷ [])
canon_bare (Token s) = s
canon_bare (Blob s) = colon ∷ canon_base64 s
canon_bare (Boolean b) = question_mark ∷ (if b then digit_one else digit_zero) ∷ []
canon_bare (Date n) = at_sign ∷ signed_decimal n
canon_bare (Shown s) = percent ∷ quote ∷ canon_shown s

-- a parameter's value: nothing for Boolean true (4.1.1.2)
abbrev pub canon_value : Bare → Seq ℕ
canon_value (Boolean true) = []
canon_value x = equals ∷ canon_bare x

-- parameters (4.1.1.2)
abbrev pub canon_params : Pairs Bare → Seq ℕ
canon_params [] = []
canon_params (p ∷ ps) = semicolon ∷ (p.0 ++ (canon_value p.1 ++ canon_params ps))

-- an Item (4.1.3)
abbrev pub canon_item : Item → Seq ℕ
canon_item i = canon_bare i.bare ++ canon_params i.params

-- the Items with a space before each
abbrev pub canon_more : Seq Item → Seq ℕ
canon_more [] = []
canon_more (i ∷ is) = space ∷ (canon_item i ++ canon_more is)

-- the Items of an Inner List
abbrev pub canon_items : Seq Item → Seq ℕ
canon_items [] = []
canon_items (i ∷ is) = canon_item i ++ canon_more is

-- an Inner List (4.1.1.1)
abbrev pub canon_inner : Inner → Seq ℕ
canon_inner l = open_bracket ∷ (canon_items l.items ++ close_bracket ∷ canon_params l.params)

-- a member (4.1.1)
abbrev pub canon_member : Member → Seq ℕ
canon_member (member.Item i) = canon_item i
canon_member (member.Inner l) = canon_inner l

-- an Item after its key: for Boolean true its parameters alone (4.1.2)
abbrev pub canon_flag : Bare → Pairs Bare → Seq ℕ
canon_flag (Boolean true) ps = canon_params ps
canon_flag x ps = equals ∷ (canon_bare x ++ canon_params ps)

-- a member after its key (4.1.2)
abbrev pub canon_behind : Member → Seq ℕ
canon_behind (member.Item i) = canon_flag i.bare i.params
canon_behind (member.Inner l) = equals ∷ canon_inner l

-- a member of a Dictionary (4.1.2)
abbrev pub canon_entry : Seq ℕ × Member → Seq ℕ
canon_entry p = p.0 ++ canon_behind p.1

-- members, each after a comma and a space
abbrev pub canon_commas : {X : Type 0} → (X → Seq ℕ) → Seq X → Seq ℕ
canon_commas f [] = []
canon_commas f (x ∷ xs) = comma ∷ space ∷ (f x ++ canon_commas f xs)

-- members with a comma and a space between two (4.1.1, 4.1.2)
abbrev pub canon_series : {X : Type 0} → (X → Seq ℕ) → Seq X → Seq ℕ
canon_series f [] = []
canon_series f (x ∷ xs) = f x ++ canon_commas f xs

-- a field (4.1); without members the text is empty
abbrev pub canon : Field → Seq ℕ
canon (field.Item i) = canon_item i
canon (field.List l) = canon_series canon_member l.members
canon (field.Dict m) = canon_series canon_entry m.members
