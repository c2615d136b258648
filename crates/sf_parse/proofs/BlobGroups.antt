-- Whole groups of base64, which are taken at once.
use Rattle.std.proofs.Common.{◌≡◌, ℕ, ◌-◌, ◌≤◌, List, [], ◌∷◌, ◌++◌, length, take, drop}
use Rattle.std.proofs.Common.{get_or, Some, refl, sym, ap, ◌∙◌, subst, arith}
use Rattle.std.proofs.lemmas.List.{take_rest}
use Rattle.sf_parse.specs.Prefixes.{Goes}
use Rattle.sf_parse.specs.Machine.Language.{run}
use Rattle.sf_parse.specs.Machine.Blobs.{H0, Group, blob_step}
use Rattle.sf_parse.proofs.Prefixes.{goes_more}

-- the first four bytes, and the rest as a slice is seen
four : (xs : List ℕ) → 4 ≤ length xs
    → xs ≡ get_or xs 0 0 ∷ get_or xs 1 0 ∷ get_or xs 2 0 ∷ get_or xs 3 0 ∷ drop 4 xs
four (a ∷ b ∷ c ∷ d ∷ xs) h = refl
four xs h = absurd (omega arith)

-- one group more
pub group_on : (first bytes more out chunk xs : List ℕ)
    → Goes blob_step (Group first H0) chunk xs (Group bytes H0) → 4 ≤ length xs
    → ((bs : List ℕ) → run blob_step (Group bs H0)
    (get_or xs 0 0 ∷ get_or xs 1 0 ∷ get_or xs 2 0 ∷ get_or xs 3 0 ∷ [])
    ≡ Some (Group (bs ++ out) H0))
    → more ≡ bytes ++ out
    → Goes blob_step (Group first H0) chunk (take (length xs - 4) (drop 4 xs)) (Group more H0)
group_on first bytes more out chunk xs w h r e =
    subst (λ y. Goes blob_step (Group first H0) chunk y (Group more H0)) (sym (take_rest xs 4))
    (goes_more blob_step (Group first H0) (Group bytes H0) (Group more H0) chunk xs (drop 4 xs) w
    (record {
      taken = get_or xs 0 0 ∷ get_or xs 1 0 ∷ get_or xs 2 0 ∷ get_or xs 3 0 ∷ [];
      split = four xs h;
      leads = r bytes ∙ ap (λ y. Some (Group y H0)) (sym e);
    }))
