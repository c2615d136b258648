-- Splits of one text, and runs of bytes in them.
use Rattle.std.proofs.Common.{◌≡◌, ℕ, Bool, true, false, List, [], ◌∷◌, ◌++◌, refl, sym, ap}
use Rattle.std.proofs.Common.{not, ◌∙◌, ◌==◌, eqb-true, ◌⊎◌, inl, inr, length, take, ◌-◌, length-append, arith}
use Rattle.std.proofs.Math.Seq.{take-append_seam}
use Rattle.sf_value.specs.Grammar.Words.{Every}
use Rattle.sf_value.specs.Grammar.Classes.{is_one_of}
use Rattle.sf_scan.specs.Places.{follow, is_follow}
use Rattle.sf_value.specs.Runs.{Lacks}

-- the parts of equal lists
pub heads : (x y : ℕ) (s t : List ℕ) → x ∷ s ≡ y ∷ t → x ≡ y
heads x y s t e = cc

pub tails : (x y : ℕ) (s t : List ℕ) → x ∷ s ≡ y ∷ t → s ≡ t
tails x y s t e = cc

pub cons_nil : (x : ℕ) (s : List ℕ) → x ∷ s ≡ [] → ⊥
cons_nil x s e = cc

-- of two first parts of one text, the second goes on where the first ends
pub record Longer (a u b v : List ℕ) : Type 0 where
  pub more : List ℕ
  pub part : b ≡ a ++ more
  pub rest : u ≡ more ++ v

-- or it ends before it, at the byte c
pub record Shorter (a u b v : List ℕ) : Type 0 where
  pub byte : ℕ
  pub more : List ℕ
  pub part : a ≡ b ++ byte ∷ more
  pub rest : v ≡ byte ∷ (more ++ u)

pub two_parts : (a u b v : List ℕ) → a ++ u ≡ b ++ v → Longer a u b v ⊎ Shorter a u b v
two_parts [] u b v e = inl (record { more = b; part = refl; rest = e })
two_parts (x ∷ a) u [] v e = inr (record { byte = x; more = a; part = refl; rest = sym e })
two_parts (x ∷ a) u (y ∷ b) v e =
    let tail : a ++ u ≡ b ++ v = cc in
    let same : x ≡ y = cc in
    elim (two_parts a u b v tail) [
      | inl l ↦ inl (record { more = l.more; part = (let p = l.part in cc); rest = l.rest })
      | inr s ↦ inr (record {
        byte = s.byte;
        more = s.more;
        part = (let p = s.part in cc);
        rest = s.rest;
      })
    ]

-- each byte passes, one within the list too
pub every_at : (q : ℕ → Bool) (run : List ℕ) (c : ℕ) (u : List ℕ) → Every q ((run ++ c ∷ []) ++ u)
    → q c ≡ true
every_at q [] c u h = h.0
every_at q (b ∷ run) c u h = every_at q run c u h.1

-- the longest run of bytes that pass a test is one
pub record SameSplit (a u b v : List ℕ) : Type 0 where
  pub part : a ≡ b
  pub rest : u ≡ v

pub run_once : (p : ℕ → Bool) (a u b v : List ℕ) → Every p a → Lacks p u → Every p b → Lacks p v
    → a ++ u ≡ b ++ v → SameSplit a u b v
run_once p [] u [] v h k i j e = record { part = refl; rest = e }
run_once p [] [] (y ∷ b) v h k i j e = absurd cc
run_once p [] (x ∷ u) (y ∷ b) v h k i j e =
    let same : x ≡ y = cc in
    let fails : p x ≡ false = k in
    let holds : p y ≡ true = i.0 in
    absurd cc
run_once p (x ∷ a) u [] [] h k i j e = absurd cc
run_once p (x ∷ a) u [] (y ∷ v) h k i j e =
    let same : x ≡ y = cc in
    let holds : p x ≡ true = h.0 in
    let fails : p y ≡ false = j in
    absurd cc
run_once p (x ∷ a) u (y ∷ b) v h k i j e =
    let tail : a ++ u ≡ b ++ v = cc in
    let same : x ≡ y = cc in
    let r = run_once p a u b v h.1 k i.1 j tail in
    record { part = (let q = r.part in cc); rest = r.rest }

-- the first part of a text, cut at its length
pub front_of : (text part rest : List ℕ) (n : ℕ) → text ≡ part ++ rest → n ≡ length part
    → take n text ≡ part
front_of text part rest n e k = rw (k, e) (take-append_seam part rest)

pub front_before : (text part rest : List ℕ) → text ≡ part ++ rest
    → take (length text - length rest) text ≡ part
front_before text part rest e = front_of text part rest _ e (before text part rest e)
  where
    before : (text part rest : List ℕ) → text ≡ part ++ rest → length text - length rest ≡ length part
    before text part rest e =
        let k = ap length e in omega (arith, k, length-append part rest)

-- what holds of each byte of a list holds of one of them
each_of : (p : ℕ → Bool) (cs : List ℕ) → Every p cs → (b : ℕ) → is_one_of cs b ≡ true
    → p b ≡ true
each_of p [] h b k = absurd (let f : false ≡ true = k in cc)
each_of p (c ∷ cs) h b k = by (b == c) refl (each_of p cs h.1 b)
  where
    by : (x : Bool) → (b == c) ≡ x → (is_one_of cs b ≡ true → p b ≡ true) → p b ≡ true
    by true e rest = ap p (eqb-true b c e) ∙ h.0
    by false e rest = rest (rw e at k)

not_true : (x : Bool) → not x ≡ true → x ≡ false
not_true true e = sym e
not_true false e = refl

-- a test that fails at each byte of a list
pub among : (p : ℕ → Bool) (cs : List ℕ) → Every (λ b. not (p b)) cs → (b : ℕ)
    → is_one_of cs b ≡ true → p b ≡ false
among p cs h b k = not_true (p b) (each_of (λ c. not (p c)) cs h b k)

-- bytes that are none of those that may follow a bare item
pub no_follow : (p : ℕ → Bool) → Every (λ b. not (p b)) follow → (b : ℕ) → is_follow b ≡ true
    → p b ≡ false
no_follow p = among p follow

pub true_false : true ≡ false → ⊥
true_false e = cc
