-- The canonical texts a chunk at a time.
use Rattle.std.proofs.Common.{◌≡◌, ℕ, ◌+◌, ◌<◌, true, false, List, ◌∷◌, ◌++◌, length, drop}
use Rattle.std.proofs.Common.{get_or, refl, ap, ◌∙◌, add-one, drop-cons}
use Rattle.std.specs.Prelude.{IsTrue}
use Rattle.sf_value.specs.declared.value.Bare.{Bare}
use Rattle.sf_value.specs.declared.value.Bare.TheVariants.{Boolean}
use Rattle.sf_value.specs.declared.value.Item.{Item}
use Rattle.sf_value.specs.Grammar.Pairs.{Pairs}
use Rattle.sf_value.specs.Grammar.Canonical.{canon_bare, canon_value, canon_params, canon_flag}
use Rattle.sf_value.specs.Grammar.Canonical.{canon_item, canon_more, canon_commas}

-- any value but Boolean true is written
pub value_written : (x : Bare) → (x ≡ Boolean true → IsTrue false)
    → canon_value x ≡ 61 ∷ canon_bare x
value_written (Boolean true) h = let never : IsTrue false = h refl in absurd cc
value_written x h = refl

-- after a key of a Dictionary an Item is as a parameter's value does, with its parameters
pub flag_is : (x : Bare) (ps : Pairs Bare) → canon_flag x ps ≡ canon_value x ++ canon_params ps
flag_is (Boolean true) ps = refl
flag_is x ps = refl

-- the next of the Items after the first
pub next_item : (items : List Item) (i : ℕ) (x : Item) → i < length items → x ≡ get_or items i x
    → canon_more (drop i items) ≡ 32 ∷ (canon_item x ++ canon_more (drop (i + 1) items))
next_item items i x h e = ap canon_more (drop-cons items i x h) ∙ rw (add-one, ← e)

-- the next of what is after a comma
pub next_comma : {X : Type 0} (f : X → List ℕ) (xs : List X) (i : ℕ) (x : X) → i < length xs
    → x ≡ get_or xs i x
    → canon_commas f (drop i xs) ≡ 44 ∷ 32 ∷ (f x ++ canon_commas f (drop (i + 1) xs))
next_comma f xs i x h e = ap (canon_commas f) (drop-cons xs i x h) ∙ rw (add-one, ← e)
