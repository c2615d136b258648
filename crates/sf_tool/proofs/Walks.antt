-- The next of a list that is walked through.
use Rattle.std.proofs.Common.{◌≡◌, ℕ, ◌+◌, ◌<◌, List, ◌∷◌, length, drop, get_or, ◌∙◌}
use Rattle.std.proofs.Common.{add-one, drop-cons, ap, refl}

-- what is left at a place is the element there and what is left after it
pub next_left : {X Y : Type 0} (f : List X → Y) (xs : List X) (i : ℕ) (x : X) → i < length xs
    → x ≡ get_or xs i x → f (drop i xs) ≡ f (x ∷ drop (i + 1) xs)
next_left f xs i x h e = ap f (drop-cons xs i x h) ∙ rw (add-one, ← e) refl
