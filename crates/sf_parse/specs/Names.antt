-- The names of the bytes that a refusal expects. A class is named if all its bytes are expected;
-- each byte that remains is named itself.
use Rattle.std.specs.Prelude.{ℕ, zero, suc, ◌+◌, ◌-◌, ◌%◌, ◌^◌, ◌==◌, ◌&&◌, ◌||◌, not, nat_lt, Bool}
use Rattle.std.specs.Prelude.{if◌then◌else◌, List, [], ◌∷◌, ◌++◌, codes, slice_index_or}
use Rattle.std.specs.Prelude.{bit_and, ◌≡◌, ◌<◌, ◌⊎◌, ◌↔◌, true}
use Rattle.sf_value.specs.Ascii.{tab, space, quote, backquote}
use Rattle.sf_value.specs.Grammar.Classes.{is_digit, is_lower, is_alpha, is_in_key}
use Rattle.sf_value.specs.Grammar.Classes.{is_in_token, is_visible, is_one_of}
use Rattle.sf_parse.specs.ByteSets.{hex_byte, is_in}
use Rattle.sf_parse.specs.declared.names.Name.{Name}
use Rattle.sf_parse.specs.declared.names.Name.TheVariants.{Printable, Token, Base64, Key, Letter}
use Rattle.sf_parse.specs.declared.names.Name.TheVariants.{Lower, Upper, LowerHex, Digit, Byte, End}
use Rattle.sf_parse.specs.declared.names.Names.{Names}

-- the set of the bytes below n that pass the test, a bit for each
abbrev pub set_below : ℕ → (ℕ → Bool) → ℕ
set_below zero test = 0
set_below (suc n) test = if test n then 2 ^ n + set_below n test else set_below n test

-- the bytes of a name
abbrev pub set_of : Name → ℕ
set_of Printable = set_below 128 is_visible
set_of Token = set_below 128 is_in_token
set_of Base64 = set_below 128 (λ b. is_alpha b || is_digit b || is_one_of (codes "+/") b)
set_of Key = set_below 128 is_in_key
set_of Letter = set_below 128 is_alpha
set_of Lower = set_below 128 is_lower
set_of Upper = set_below 128 (λ b. is_alpha b && not (is_lower b))
set_of LowerHex = set_below 128 (λ b. is_digit b || is_one_of (codes "abcdef") b)
set_of Digit = set_below 128 is_digit
set_of (Byte b) = if nat_lt b 128 then 2 ^ b else 0
set_of End = 0

-- the classes, in the order in which a message names them
abbrev pub classes : List Name
classes =
    Printable ∷ Token ∷ Base64 ∷ Key ∷ Letter ∷ Lower ∷ Upper ∷ LowerHex ∷ Digit ∷ []

-- the names in order: the 9 classes, the bytes from 33 to 127, and those from 0 to 32
abbrev pub name_at : ℕ → Name
name_at n = slice_index_or classes n (Byte ((n - 9 + 33) % 128))

-- of k names, from the nth on, those that fit: a name fits if the set has all its bytes, and
-- removes them from the set
unfoldable pub fitting : ℕ → ℕ → ℕ → List Name
fitting set n zero = []
fitting set n (suc k) =
    if bit_and set (set_of (name_at n)) == set_of (name_at n)
    then name_at n ∷ fitting (set - set_of (name_at n)) (suc n) k
    else fitting set (suc n) k

-- the end, if the text may end
abbrev pub end_name : Bool → List Name
end_name may_end = if may_end then End ∷ [] else []

-- the names of a set of bytes below 128, and of the end
abbrev pub names_of : ℕ → Bool → List Name
names_of set may_end = fitting set 0 137 ++ end_name may_end

-- one of the names is for the byte
abbrev pub IsNamed : ℕ → List Name → Type 0
IsNamed b [] = ⊥
IsNamed b (name ∷ names) = (is_in (set_of name) b ≡ true) ⊎ IsNamed b names

-- the bytes below 128 of the names of a set are exactly those of the set
abbrev pub NamesAreTheSet : Type 0
NamesAreTheSet =
    (set : ℕ) (may_end : Bool) (b : ℕ) → b < 128
    → (is_in set b ≡ true) ↔ IsNamed b (names_of set may_end)

-- the names that remain of an iteration
abbrev pub names_left : Names → List Name
names_left names = fitting names.set names.place (137 - names.place) ++ end_name names.may_end

-- a byte: as a word, between backquotes, or in hexadecimal
abbrev pub byte_text : ℕ → List ℕ
byte_text b =
    if b == space then codes "a space"
    else if b == tab then codes "a tab"
    else if b == quote then codes "a quote"
    else if b == backquote then codes "a backquote"
    else if is_visible b then backquote ∷ b ∷ backquote ∷ []
    else codes "0x" ++ hex_byte b

-- the text of a name
abbrev pub name_text : Name → List ℕ
name_text Printable = codes "a printable character"
name_text Token = codes "a token character"
name_text Base64 = codes "a base64 character"
name_text Key = codes "a key character"
name_text Letter = codes "a letter"
name_text Lower = codes "a lower-case letter"
name_text Upper = codes "an upper-case letter"
name_text LowerHex = codes "a lower-case hexadecimal digit"
name_text Digit = codes "a digit"
name_text (Byte b) = byte_text b
name_text End = codes "the end"

-- what is before another name, by those after it
abbrev pub joint : List Name → List ℕ
joint [] = codes " or "
joint (next ∷ names) = codes ", "

-- the names after the first, each after its joint
abbrev pub and_more : List Name → List ℕ
and_more [] = []
and_more (name ∷ names) = joint names ++ (name_text name ++ and_more names)

-- names with commas between them, and "or" before the last
abbrev pub listed : List Name → List ℕ
listed [] = codes "nothing"
listed (name ∷ names) = name_text name ++ and_more names
