-- The faults of bytes, and their error messages.
use Rattle.std.specs.Prelude.{◌≡◌, ℕ, suc, Bool, not, List, [], ◌∷◌, Option, Some, None}
use Rattle.std.specs.Prelude.{if◌then◌else◌, ◌++◌, codes, decimal, ⊤}
use Rattle.std.specs.List.{position}
use Rattle.std.specs.Option.{option_map}
use Rattle.sf_value.specs.declared.fault.TextFault.{TextFault}
use Rattle.sf_value.specs.declared.fault.TextFault.TheVariants.{Empty, BadByte, OutOfMemory}
use Rattle.sf_value.specs.Grammar.Words.{Every, IsWord}
use Rattle.sf_value.specs.Grammar.Classes.{is_key_start, is_in_key, is_token_start, is_in_token}
use Rattle.sf_value.specs.Grammar.Classes.{is_visible}

-- the first place whose byte fails the test
abbrev pub bad_place : (ℕ → Bool) → List ℕ → Option ℕ
bad_place p bs = position (λ b. not (p b)) bs

-- the first place whose byte is not allowed in a word there
abbrev pub bad_word_place : (ℕ → Bool) → (ℕ → Bool) → List ℕ → Option ℕ
bad_word_place p q [] = None
bad_word_place p q (b ∷ bs) =
    if p b then option_map (λ i. suc i) (bad_place q bs) else Some 0

-- why bytes are not a word: there are none, the first bad one, or they are a word and an allocation
-- failed
abbrev pub IsWordFault : (ℕ → Bool) → (ℕ → Bool) → List ℕ → TextFault → Type 0
IsWordFault p q bs Empty = bs ≡ []
IsWordFault p q bs (BadByte place) = bad_word_place p q bs ≡ Some place
IsWordFault p q bs OutOfMemory = IsWord p q bs

abbrev pub IsKeyFault : List ℕ → TextFault → Type 0
IsKeyFault = IsWordFault is_key_start is_in_key

abbrev pub IsTokenFault : List ℕ → TextFault → Type 0
IsTokenFault = IsWordFault is_token_start is_in_token

-- why bytes are not a String, which may be empty
abbrev pub IsStringFault : List ℕ → TextFault → Type 0
IsStringFault bs Empty = ⊥
IsStringFault bs (BadByte place) = bad_place is_visible bs ≡ Some place
IsStringFault bs OutOfMemory = Every is_visible bs

-- the fault is not out of memory
abbrev pub IsOfBytes : TextFault → Type 0
IsOfBytes Empty = ⊤
IsOfBytes (BadByte place) = ⊤
IsOfBytes OutOfMemory = ⊥

-- the error message of a fault
abbrev pub text_fault_text : TextFault → List ℕ
text_fault_text Empty = codes "no byte"
text_fault_text (BadByte place) = codes "a bad byte at " ++ decimal place
text_fault_text OutOfMemory = codes "out of memory"
