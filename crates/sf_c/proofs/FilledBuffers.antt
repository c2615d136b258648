-- What several calls put into a buffer together, and that none of them fails.
use Rattle.std.proofs.Common.{◌≡◌, ℕ, ◌+◌, ◌≤◌, List, [], ◌∷◌, ◌++◌, length, take, drop, min}
use Rattle.std.proofs.Common.{Result, Ok, Err, Option, None, Some, refl, sym, ap, ◌∙◌, subst, arith}
use Rattle.std.proofs.Common.{append_assoc, append-nil, length-append}
use Rattle.std.specs.Prelude.{◌-◌, ◌^◌, ◌<◌, MatchOption}
use Rattle.std.specs.List.{FoldsTo, concat}
use Rattle.std.proofs.lemmas.List.{length-take-le, take-append-drop, take_at}
use Rattle.std.proofs.lemmas.Slice.{drop-append-drop}
use Rattle.sf_value.specs.Devices.{SinkState}
use Rattle.sf_write.specs.Writing.{Follows}
use Rattle.sf_write.specs.declared.sending.WriteFault.{WriteFault}
use Rattle.sf_c.specs.declared.filling.Filling.{Filling as Filled}
use Rattle.sf_c.specs.Filling.{Fills}

nothing : (a b : Filled) → a ≡ b → Fills a [] b
nothing a b e = subst (Fills a []) e (record {
  same = refl;
  long = refl;
  len = λ h. omega arith;
  puts = λ h.
      sym (ap (λ xs. xs ++ drop (a.len + 0) a.buffer.now) (append-nil (take a.len a.buffer.now))
      ∙ ap (λ n. take a.len a.buffer.now ++ drop n a.buffer.now) (omega arith)
      ∙ take-append-drop a.len a.buffer.now);
})

-- two lists put one after the other
put_twice : (i j : ℕ) (old new end x y : List ℕ) → i + length x + length y ≤ length old
    → j ≡ i + length x
    → new ≡ (take i old ++ x) ++ drop (i + length x) old
    → end ≡ (take j new ++ y) ++ drop (j + length y) new
    → end ≡ (take i old ++ (x ++ y)) ++ drop (i + length (x ++ y)) old
put_twice i j old new end x y fits e p q =
    let front : List ℕ = take i old ++ x in
    let long : length front ≡ i + length x =
    length-append (take i old) x
    ∙ ap (λ n. n + length x) (length-take-le i old (omega (arith, fits))) in
    let head : take j new ≡ front =
    ap (take j) p ∙ take_at front (drop (i + length x) old) j (long ∙ sym e) in
    let tail : drop (j + length y) new ≡ drop (j + length y) old =
    ap (drop (j + length y)) p
    ∙ drop-append-drop (i + length x) old front (j + length y) (omega (arith, e)) long in
    let count : j + length y ≡ i + length (x ++ y) = omega (arith, e, length-append x y) in
    q
    ∙ ap (λ xs. (xs ++ y) ++ drop (j + length y) new) head
    ∙ ap (λ xs. (front ++ y) ++ xs) tail
    ∙ ap (λ n. (front ++ y) ++ drop n old) count
    ∙ ap (λ xs. xs ++ drop (i + length (x ++ y)) old) (append_assoc (take i old) x y)

then : (a b c : Filled) (x y : List ℕ) → Fills a x b → Fills b y c → Fills a (x ++ y) c
then a b c x y p q = record {
  same = q.same ∙ p.same;
  long = q.long ∙ p.long;
  len = λ h.
      let both = length-append x y in
      let first = p.len (omega (arith, h, both)) in
      let second = q.len (omega (arith, h, both, first, p.long)) in
      omega (arith, both, first, second);
  puts = λ h.
      let both = length-append x y in
      let first = p.len (omega (arith, h, both)) in
      put_twice a.len b.len a.buffer.now b.buffer.now c.buffer.now x y (omega (arith, h, both))
      first (p.puts (omega (arith, h, both))) (q.puts (omega (arith, h, both, first, p.long)));
}

in_calls : (a : Filled) (parts : List (List ℕ)) (b : Filled) → FoldsTo Fills a parts b
    → Fills a (concat parts) b
in_calls a [] b e = nothing a b e
in_calls a (x ∷ parts) b calls =
    then a calls.0 b x (concat parts) calls.1 (in_calls calls.0 parts b calls.2)

-- a device that counts no failure does not fail
abbrev no_failure : {S : Type 0} → S → SinkState
no_failure s = record { taken = None; failures = 0 }

pub never_fails : {S : Type 0} (gives : S → List ℕ → S → Type 0) (a b : S)
    (r : Result ℕ WriteFault) (e : WriteFault) (t : List ℕ) → r ≡ Err e
    → Follows no_failure gives a b (Ok 0) r t → ⊥
never_fails gives a b (Ok n) e t is p = absurd cc
never_fails gives a b (Err f) e t is p =
    let s = p.goes_on (omega arith) in
    let x = s.failed.failures in
    let y = s.sends.failures in
    omega (arith, x, y)

-- the count is the length of the text, unless it is saturated
pub count_is : {S : Type 0} (gives : S → List ℕ → S → Type 0) (a b : S) (r : Result ℕ WriteFault)
    (n : ℕ) (t : List ℕ) → r ≡ Ok n → Follows no_failure gives a b (Ok 0) r t
    → n ≡ min (length t) (2 ^ 64 - 1)
count_is gives a b (Ok m) n t e p =
    let same : m ≡ n = cc in
    sym same ∙ (p.goes_on (omega arith)).count ∙ ap (λ m. min m (2 ^ 64 - 1)) (omega arith)
count_is gives a b (Err f) n t e p = absurd cc

pub unsaturated_length : (count : ℕ) (t : List ℕ) (r : Option ℕ)
    → count ≡ min (length t) (2 ^ 64 - 1)
    → MatchOption r (2 ^ 64 ≤ count + 1) (λ n. (n ≡ count) × (count + 1 < 2 ^ 64))
    → MatchOption r (2 ^ 64 ≤ length t + 1) (λ n. n ≡ length t)
unsaturated_length count t None e m = omega (arith, e, m)
unsaturated_length count t (Some n) e m = omega (arith, e, m.0, m.1)

-- what was sent is put
pub filled : (a b : Filled) (r : Result ℕ WriteFault) (t : List ℕ)
    → Follows no_failure Fills a b (Ok 0) r t → Fills a t b
filled a b (Ok n) t p =
    subst (λ u. Fills a u b) p.calls.whole (in_calls a p.calls.parts b p.calls.calls)
filled a b (Err e) t p = absurd (never_fails Fills a b (Err e) e t refl p)
