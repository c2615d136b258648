-- Lists of bytes.
use Rattle.std.proofs.Common.{ℕ, suc, ◌<◌, List, [], ◌∷◌, arith}
use Rattle.std.specs.Prelude.{slice_index}
use Rattle.std.proofs.lemmas.Bool.Decides.{nat_tests}
use Rattle.sf_value.specs.Grammar.Words.{Every}
use Rattle.sf_value.specs.Grammar.Classes.{is_byte}

-- numbers that fit a byte are bytes
pub every_byte : (s : List ℕ) → ((k : ℕ) → slice_index s k < 256) → Every is_byte s
every_byte [] h = tt
every_byte (b ∷ s) h =
    let here : b < 256 = h 0 in
    (grind (arith, nat_tests), every_byte s (λ k. h (suc k)))
