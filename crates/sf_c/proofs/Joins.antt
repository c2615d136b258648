-- Lines that are joined one after another, and what is put into a buffer.
use Rattle.std.proofs.Common.{◌≡◌, ℕ, ◌+◌, ◌≤◌, zero, suc, ◌==◌, cond, List, [], ◌∷◌, ◌++◌}
use Rattle.std.proofs.Common.{length, take, drop, refl, ap, ◌∙◌, sym, subst, arith, rules, tests}
use Rattle.std.proofs.Common.{append_assoc, length-append}
use Rattle.std.proofs.lemmas.Bool.Decides.{nat_tests}
use Rattle.std.proofs.lemmas.List.{length-take-le, length-drop}
use Rattle.std.proofs.lemmas.Slice.{drop-append-drop}
use Rattle.std.proofs.Math.Seq.{take-append_seam, drop-append_seam}
use Rattle.std.specs.Prelude.{◌↔◌}
use Rattle.sf_value.specs.Grammar.Lines.{join}
use Rattle.sf_c.specs.Joining.{JoinOutput, PutsOne, separator_of}

-- one more line after others
pub join-push : (m : List ℕ) (ms : List (List ℕ)) (line : List ℕ)
    → join ((m ∷ ms) ++ line ∷ []) ≡ (join (m ∷ ms) ++ 44 ∷ 32 ∷ []) ++ line
join-push m [] line = sym (append_assoc m (44 ∷ 32 ∷ []) line)
join-push m (n ∷ ms) line =
    ap (λ t. m ++ 44 ∷ 32 ∷ t) (join-push n ms line)
    ∙ sym (
    ap (λ t. t ++ line) (append_assoc m (44 ∷ 32 ∷ join (n ∷ ms)) (44 ∷ 32 ∷ []))
    ∙ append_assoc m (44 ∷ 32 ∷ (join (n ∷ ms) ++ 44 ∷ 32 ∷ [])) line
    )

-- the prefix of a buffer, at a length that is known
pub prefix_at : (n : ℕ) (xs ys : List ℕ) → length xs ≡ n → take n (xs ++ ys) ≡ xs
prefix_at n xs ys e =
    let P : ℕ → Type 0 = λ m. take m (xs ++ ys) ≡ xs in subst P e (take-append_seam xs ys)

pub after_at : (n : ℕ) (xs ys : List ℕ) → length xs ≡ n → drop n (xs ++ ys) ≡ ys
after_at n xs ys e =
    let P : ℕ → Type 0 = λ m. drop m (xs ++ ys) ≡ ys in subst P e (drop-append_seam xs ys)

-- how long the prefix with what was put is
pub prefix_length : (n : ℕ) (buffer x : List ℕ) → n ≤ length buffer
    → length (take n buffer ++ x) ≡ n + length x
prefix_length n buffer x h =
    let a = length-append (take n buffer) x in
    let b = length-take-le n buffer h in
    omega arith

-- two texts, one put after the other
pub put_twice : (n : ℕ) (buffer mid new x y : List ℕ) → n ≤ length buffer
    → mid ≡ (take n buffer ++ x) ++ drop (n + length x) buffer
    → new ≡ (take (n + length x) mid ++ y) ++ drop (n + length x + length y) mid
    → new ≡ ((take n buffer ++ x) ++ y) ++ drop (n + length x + length y) buffer
put_twice n buffer mid new x y h e f =
    let long = prefix_length n buffer x h in
    let prefix : take (n + length x) mid ≡ take n buffer ++ x
    = ap (take (n + length x)) e ∙ prefix_at (n + length x) (take n buffer ++ x) _ long in
    let more : n + length x ≤ n + length x + length y = omega arith in
    let suffix : drop (n + length x + length y) mid ≡ drop (n + length x + length y) buffer
    = ap (drop (n + length x + length y)) e
    ∙ drop-append-drop (n + length x) buffer (take n buffer ++ x) (n + length x + length y) more
    long in
    f ∙ ap (λ t. (t ++ y) ++ drop (n + length x + length y) mid) prefix
    ∙ ap (λ t. ((take n buffer ++ x) ++ y) ++ t) suffix

-- lines that are joined, with one more
pub joined_more : (ls : List (List ℕ)) (line text comma : List ℕ) (begun : ℕ) → text ≡ join ls
    → (begun ≡ 0) ↔ (ls ≡ []) → comma ≡ cond (begun == 0) [] (44 ∷ 32 ∷ [])
    → (text ++ comma) ++ line ≡ join (ls ++ line ∷ [])
joined_more [] line text comma begun e h f =
    let begins : begun ≡ 0 = h.1 refl in
    let none : comma ≡ [] = f ∙ rw begins refl in
    rw (e, none) refl
joined_more (m ∷ ms) line text comma zero e h f =
    let never : m ∷ ms ≡ [] = h.0 refl in absurd cc
joined_more (m ∷ ms) line text comma (suc k) e h f =
    let tested : cond (suc k == 0) [] (44 ∷ 32 ∷ []) ≡ 44 ∷ 32 ∷ []
    = first_of (search (tests, rules), grind (arith, nat_tests)) in
    let some : comma ≡ 44 ∷ 32 ∷ [] = f ∙ tested in
    rw (e, some) (sym (join-push m ms line))

-- one line more is not none
pub push_some : (ls : List (List ℕ)) (line : List ℕ) → ls ++ line ∷ [] ≡ [] → ⊥
push_some [] line e = absurd cc
push_some (m ∷ ms) line e = absurd cc

-- a separator and a line that are put if there is capacity
pub puts_one : (old : JoinOutput) (line comma mid new : List ℕ) → comma ≡ separator_of old.joined
    → old.joined.length + (length comma + length line) ≤ length old.buffer
    → mid
    ≡ (take old.joined.length old.buffer ++ comma)
    ++ drop (old.joined.length + length comma) old.buffer
    → new
    ≡ (take (old.joined.length + length comma) mid ++ line)
    ++ drop (old.joined.length + length comma + length line) mid
    → PutsOne old (record {
      buffer = new;
      joined = record {
        length = old.joined.length + (length comma + length line);
        required = old.joined.required;
        begun = 1;
      };
    }) line
puts_one old line comma mid new is fits e f =
    let n : ℕ = old.joined.length in
    let buffer : List ℕ = old.buffer in
    let all : ℕ = n + (length comma + length line) in
    let enough : n ≤ length buffer = omega arith in
    let same : n + length comma + length line ≡ all = omega arith in
    let whole = put_twice n buffer mid new comma line enough e f in
    let text : List ℕ = (take n buffer ++ comma) ++ line in
    let first = prefix_length n buffer comma enough in
    let second = length-append (take n buffer ++ comma) line in
    let long : length text ≡ all = omega arith in
    let adds : length (separator_of old.joined ++ line) ≡ length comma + length line
    = ap (λ t. length (t ++ line)) (sym is) ∙ length-append comma line in
    let sum = ap length whole in
    let parts = length-append text (drop (n + length comma + length line) buffer) in
    let rest = length-drop (n + length comma + length line) buffer in
    record {
      joins = λ ls a. (
        ((λ h. absurd (omega arith)), (λ h. absurd (push_some ls line h))),
        ap (take all) whole
            ∙ prefix_at all text (drop (n + length comma + length line) buffer) long
            ∙ joined_more ls line (take n buffer) comma old.joined.begun a.1 a.0 is,
      );
      longer = omega arith;
      fits = fits;
      begun = refl;
      required = refl;
      prefix = ap (take all) whole
          ∙ prefix_at all text (drop (n + length comma + length line) buffer) long
          ∙ append_assoc (take n buffer) comma line
          ∙ ap (λ t. take n buffer ++ (t ++ line)) is;
      behind = ap (drop all) whole
          ∙ after_at all text (drop (n + length comma + length line) buffer) long
          ∙ ap (λ k. drop k buffer) same;
      kept = omega arith;
    }
