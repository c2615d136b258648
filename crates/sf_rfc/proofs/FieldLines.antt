-- Combining field lines.
use Rattle.std.proofs.Common.{◌≡◌, ℕ, List, [], ◌∷◌, ◌++◌, refl, ap, append-nil}
use Rattle.sf_value.specs.Grammar.Lines.{join}
use Rattle.sf_rfc.specs.Rfc9651.Parsing.{combine}

pub combined : (lines : List (List ℕ)) → combine lines ≡ join lines
combined [] = refl
combined (l ∷ []) = append-nil l
combined (l ∷ m ∷ ls) = ap (λ t. l ++ 44 ∷ 32 ∷ t) (combined (m ∷ ls))
