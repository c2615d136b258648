-- Each place of joined lines is at a spot.
use Rattle.std.proofs.Common.{◌≡◌, ℕ, zero, suc, ◌-◌, ◌<◌, ◌≤◌, ◌⊎◌, inl, inr}
use Rattle.std.proofs.Common.{List, [], ◌∷◌, ◌++◌, length, min, Option, None, Some, refl, ap}
use Rattle.std.proofs.Common.{arith, rules, ◌∙◌}
use Rattle.std.specs.Prelude.{nat_lt, slice_get, MatchOption}
use Rattle.std.proofs.lemmas.Bool.{cases_Bool}
use Rattle.std.proofs.lemmas.Option.{slice_get_past}
use Rattle.sf_value.specs.Ascii.{comma, space}
use Rattle.sf_value.specs.Grammar.Lines.{join}
use Rattle.sf_parse.specs.Spots.{LinePlace, place_in, IsSpot, PlacesAreSpots}

get_left : (xs ys : List ℕ) (i : ℕ) → i < length xs → slice_get (xs ++ ys) i ≡ slice_get xs i
get_left [] ys i h = absurd (let n : ⊥ = omega arith in n)
get_left (x ∷ xs) ys zero h = refl
get_left (x ∷ xs) ys (suc i) h = get_left xs ys i (omega arith)

get_right : (xs ys : List ℕ) (i : ℕ) → length xs ≤ i
    → slice_get (xs ++ ys) i ≡ slice_get ys (i - length xs)
get_right [] ys i h = let e : i ≡ i - 0 = omega arith in ap (λ n. slice_get ys n) e
get_right (x ∷ xs) ys zero h = absurd (let n : ⊥ = omega arith in n)
get_right (x ∷ xs) ys (suc i) h =
    let e : i - length xs ≡ suc i - suc (length xs) = omega arith in
    get_right xs ys i (omega arith) ∙ ap (λ n. slice_get ys n) e

-- after a line, the comma and the space come what comes of the other lines
get_next : (l : List ℕ) (rest : List ℕ) (place : ℕ) → 2 ≤ place - length l
    → slice_get (l ++ comma ∷ space ∷ rest) place ≡ slice_get rest (place - length l - 2)
get_next l rest place h =
    let at : length l ≤ place = omega arith in
    let two : place - length l ≡ suc (suc (place - length l - 2)) = omega arith in
    get_right l (comma ∷ space ∷ rest) place at
    ∙ ap (λ n. slice_get (comma ∷ space ∷ rest) n) two

-- right after a line, and one further
get_between : (l : List ℕ) (rest : List ℕ) (place : ℕ) → length l ≤ place → place - length l < 2
    → (slice_get (l ++ comma ∷ space ∷ rest) place ≡ Some comma)
    ⊎ (slice_get (l ++ comma ∷ space ∷ rest) place ≡ Some space)
get_between l rest place h k = by (place - length l) refl
  where
    by : (i : ℕ) → place - length l ≡ i
        → (slice_get (l ++ comma ∷ space ∷ rest) place ≡ Some comma)
        ⊎ (slice_get (l ++ comma ∷ space ∷ rest) place ≡ Some space)
    by zero e = inl (get_right l (comma ∷ space ∷ rest) place h
        ∙ ap (λ n. slice_get (comma ∷ space ∷ rest) n) e)
    by (suc zero) e = inr (get_right l (comma ∷ space ∷ rest) place h
        ∙ ap (λ n. slice_get (comma ∷ space ∷ rest) n) e)
    by (suc (suc i)) e = absurd (let n : ⊥ = omega arith in n)

-- a spot in the other lines, with one line more before them
after_one : (n : ℕ) (l m : List ℕ) (ls : List (List ℕ)) (place : ℕ) → 2 ≤ place - length l
    → (o : Option LinePlace)
    → MatchOption o (m ∷ ls ≡ []) (IsSpot (suc n) (m ∷ ls) (place - length l - 2))
    → MatchOption o (l ∷ m ∷ ls ≡ []) (IsSpot n (l ∷ m ∷ ls) place)
after_one n l m ls place h None k = absurd (let e : m ∷ ls ≡ [] = k in cc)
after_one n l m ls place h (Some p) k =
    let one : IsSpot (suc n) (m ∷ ls) (place - length l - 2) p = k in
    let same = get_next l (join (m ∷ ls)) place h in
    record {
      before = l ∷ one.before;
      behind = one.behind;
      line = ap (λ xs. l ∷ xs) one.line;
      number = (let e = one.number in omega arith);
      within = one.within;
      byte = λ w. same ∙ one.byte w;
      end = λ e. rw same (one.end e);
    }

pub spot : (n : ℕ) (lines : List (List ℕ)) (place : ℕ)
    → MatchOption (place_in n lines place) (lines ≡ []) (IsSpot n lines place)
spot n [] place = refl
spot n (l ∷ []) place = record {
  before = [];
  behind = [];
  line = refl;
  number = omega arith;
  within = omega arith;
  byte = λ w. (let e : min place (length l) ≡ place = omega arith in rw e refl);
  end = λ e. slice_get_past l place (omega arith);
}
spot n (l ∷ m ∷ ls) place =
    elim (cases_Bool (nat_lt (place - length l) 2)) [
      | inl t ↦ (
          let near : place - length l < 2 = search (rules, t) in
          rw t (record {
            before = [];
            behind = m ∷ ls;
            line = refl;
            number = omega arith;
            within = omega arith;
            byte = λ w. (
                let e : min place (length l) ≡ place = omega arith in
                let h : place < length l = omega arith in
                rw e (get_left l (comma ∷ space ∷ join (m ∷ ls)) place h)
                );
            end = λ e. get_between l (join (m ∷ ls)) place (omega arith) near;
          })
          )
      | inr f ↦ (
          let far : 2 ≤ place - length l = search (rules, f) in
          rw f (after_one n l m ls place far _ (spot (suc n) (m ∷ ls) (place - length l - 2)))
          )
    ]

pub places_are_spots : PlacesAreSpots
places_are_spots = spot 1
