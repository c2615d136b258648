-- The error messages of refusals.
use Rattle.std.specs.Prelude.{ℕ, List, [], ◌∷◌, ◌++◌, Some, None, codes, decimal, if◌then◌else◌}
use Rattle.sf_value.specs.Grammar.Classes.{is_visible}
use Rattle.sf_parse.specs.ByteSets.{hex_byte}
use Rattle.sf_parse.specs.Names.{names_of, listed}
use Rattle.sf_parse.specs.declared.refusal.Refusal.{Refusal}
use Rattle.sf_parse.specs.declared.refusal.Refusal.TheVariants.{OutOfMemory, Syntax, TooLong}
use Rattle.sf_parse.specs.declared.refusal.Refusal.TheVariants.{ReadFault}

-- the byte that was found: its two digits, and itself if it is printable
abbrev pub found_text : ℕ → List ℕ
found_text b =
    codes "0x" ++ (hex_byte b ++ (if is_visible b then codes " '" ++ b ∷ codes "'" else []))

-- the error message of a refusal
abbrev pub refusal_text : Refusal → List ℕ
refusal_text OutOfMemory = codes "out of memory"
refusal_text (Syntax place (Some b) expected may_end) =
    codes "byte " ++ (found_text b ++ (codes " at place " ++ (decimal place
    ++ (codes ", expected " ++ listed (names_of expected may_end)))))
refusal_text (Syntax place None expected may_end) =
    codes "the text ended at place " ++ (decimal place
    ++ (codes ", expected " ++ listed (names_of expected may_end)))
refusal_text (TooLong max) = codes "more than " ++ decimal max ++ codes " bytes"
refusal_text (ReadFault place) = codes "a read failed after " ++ decimal place ++ codes " bytes"
