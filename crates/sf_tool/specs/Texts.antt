-- The lines for refusals.
use Rattle.std.specs.Prelude.{ℕ, Bool, true, false, ◌==◌, if◌then◌else◌, List, [], ◌∷◌, ◌++◌}
use Rattle.std.specs.Prelude.{Option, Some, None, codes, decimal}
use Rattle.sf_parse.specs.ByteSets.{hex_byte, runs_of}

-- one byte, or the first and the last of several
abbrev pub run_text : ℕ × ℕ → List ℕ
run_text run =
    if run.0 == run.1 then hex_byte run.0 else hex_byte run.0 ++ 45 ∷ hex_byte run.1

-- each run after a space
abbrev pub set_text : List (ℕ × ℕ) → List ℕ
set_text [] = []
set_text (run ∷ runs) = (32 ∷ run_text run) ++ set_text runs

abbrev pub found_text : Option ℕ → List ℕ
found_text None = codes " ended"
found_text (Some b) = codes " found 0x" ++ hex_byte b

abbrev pub end_text : Bool → List ℕ
end_text true = codes " end\n"
end_text false = codes "\n"

-- the line of a refusal: its place, the byte found there or that the text ended, the bytes that are
-- expected, and whether the text could have ended
abbrev pub refusal_line : ℕ → Option ℕ → ℕ → Bool → List ℕ
refusal_line place found expected may_end =
    codes "refused at " ++ (decimal place ++ (found_text found
    ++ (codes " expected" ++ (set_text (runs_of expected) ++ end_text may_end))))

-- the line for an input that is longer than this limit
abbrev pub too_long_line : ℕ → List ℕ
too_long_line limit = codes "refused too long " ++ (decimal limit ++ codes "\n")
