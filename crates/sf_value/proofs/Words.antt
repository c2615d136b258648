-- What the search for a bad byte tells of the whole text, and texts one byte longer.
use Rattle.std.specs.Option.{option_map, option_or}
use Rattle.std.proofs.Common.{◌≡◌, ℕ, suc, ◌+◌, ◌≤◌, Bool, true, false, not, List, [], ◌∷◌}
use Rattle.std.proofs.Common.{◌++◌, length-append}
use Rattle.std.proofs.Common.{Option, None, Some, refl, ◌≢◌, length, arith, ◌⊎◌, inl, inr}
use Rattle.std.proofs.lemmas.Bool.Decides.{nat_tests}
use Rattle.std.specs.List.{position_or_len}
use Rattle.sf_value.specs.Grammar.Words.{Every, IsWord, allow}
use Rattle.sf_value.specs.Faults.{bad_place, bad_word_place}

-- a search that stops nowhere before the end
every_from_length : (p : ℕ → Bool) (bs : List ℕ) → length bs ≤ position_or_len (λ b. not (p b)) bs
    → Every p bs
every_from_length p [] h = tt
every_from_length p (b ∷ bs) h = by (p b) refl (every_from_length p bs)
  where
    by : (r : Bool) → p b ≡ r
        → (length bs ≤ position_or_len (λ c. not (p c)) bs → Every p bs)
        → Every p (b ∷ bs)
    by true e rest =
        let more : suc (length bs) ≤ 1 + position_or_len (λ c. not (p c)) bs = rw e at h in
        (e, rest (omega arith))
    by false e rest =
        let more : suc (length bs) ≤ 0 = rw e at h in
        absurd (omega arith)

pub every_from_place : (p : ℕ → Bool) (bs : List ℕ) → bad_place p bs ≡ None → Every p bs
every_from_place p bs h = every_from_length p bs (grind (arith, nat_tests))

-- the search goes on after bytes that pass
position_after : (p : ℕ → Bool) (run rest : List ℕ) → Every p run
    → position_or_len (λ b. not (p b)) (run ++ rest)
    ≡ length run + position_or_len (λ b. not (p b)) rest
position_after p [] rest h = omega arith
position_after p (b ∷ run) rest h =
    let more = position_after p run rest h.1 in
    rw h.0 (omega (arith, more))

pub bad_after_run : (p : ℕ → Bool) (run rest : List ℕ) → Every p run
    → bad_place p (run ++ rest) ≡ option_map (λ i. length run + i) (bad_place p rest)
bad_after_run p run rest h =
    let place = position_after p run rest h in
    let long = length-append run rest in
    grind (arith, nat_tests)

pub word_from_place : (p q : ℕ → Bool) (bs : List ℕ) → bad_word_place p q bs ≡ None
    → length bs ≢ 0 → IsWord p q bs
word_from_place p q [] h e = absurd (e refl)
word_from_place p q (b ∷ bs) h e = by (p b) refl (bad_place q bs) refl
  where
    by : (r : Bool) → p b ≡ r → (o : Option ℕ) → bad_place q bs ≡ o → IsWord p q (b ∷ bs)
    by true s None f = (s, every_from_place q bs f)
    by true s (Some i) f =
        let found : Some (suc i) ≡ None = rw (s, f) at h in
        absurd cc
    by false s o f =
        let found : Some 0 ≡ None = rw s at h in
        absurd cc

pub every_push : (p : ℕ → Bool) (bs : List ℕ) (b : ℕ) → Every p bs → p b ≡ true
    → Every p (bs ++ b ∷ [])
every_push p [] b h e = (e, tt)
every_push p (c ∷ bs) b h e = (h.0, every_push p bs b h.1 e)

pub word_push : (p q : ℕ → Bool) (bs : List ℕ) (b : ℕ) → IsWord p q bs → q b ≡ true
    → IsWord p q (bs ++ b ∷ [])
word_push p q [] b h e = absurd h
word_push p q (c ∷ bs) b h e = (h.0, every_push q bs b h.1 e)

-- what each byte passes if it passes another test
pub every_map : (p q : ℕ → Bool) → ((b : ℕ) → p b ≡ true → q b ≡ true) → (bs : List ℕ) → Every p bs
    → Every q bs
every_map p q f [] h = tt
every_map p q f (b ∷ bs) h = (f b h.0, every_map p q f bs h.1)

-- what a test, and a choice, gave
pub allow_cases : {S : Type 0} (c : Bool) (s t : S) → allow c s ≡ Some t → (c ≡ true) × (t ≡ s)
allow_cases true s t e = (refl, cc)
allow_cases false s t e = absurd cc

pub option_or_cases : {S : Type 0} (a b : Option S) (s : S) → option_or a b ≡ Some s
    → (a ≡ Some s) ⊎ ((a ≡ None) × (b ≡ Some s))
option_or_cases (Some x) b s e = inl e
option_or_cases None b s e = inr (refl, e)
