-- Sets of bytes as the bits of a number: those that a step takes.
use Rattle.std.proofs.Common.{◌≡◌, ℕ, ◌<◌, Bool, true, false, ◌==◌, nat_lt, ◌&&◌, ◌||◌, cond, refl, sym}
use Rattle.std.proofs.Common.{ap, ◌∙◌, ⊎_elim, bit_or, eqb-true, Option, Some, None, is_some}
use Rattle.std.specs.Option.{option_map, option_or}
use Rattle.std.proofs.lemmas.Bool.{cases_lt}
use Rattle.sf_value.specs.Grammar.Words.{allow}
use Rattle.sf_value.proofs.Tables.{all_below, each_below}
use Rattle.sf_scan.specs.Sets.{Marks}
use Rattle.sf_scan.proofs.Sets.{bit, marks_or, marks_none, marks_table, is_table, above}
use Rattle.sf_parse.specs.Expected.{MarksStep}
use Rattle.sf_parse.specs.Machine.Language.{onward}
use Rattle.sf_parse.specs.MemberEnds.{some_map}

-- the steps of a machine within another, of either of two, and of one and what comes after its end
pub marks_same : (x : ℕ) (p q : ℕ → Bool) → ((b : ℕ) → q b ≡ p b) → Marks x p → Marks x q
marks_same x p q e h b = h b ∙ ap (λ y. bit (nat_lt b 128 && y)) (sym (e b))

pub marks_map : {S T : Type 0} (f : S → T) (x : ℕ) (o : ℕ → Option S) → MarksStep x o
    → MarksStep x (λ b. option_map f (o b))
marks_map f x o = marks_same x _ _ (λ b. some_map f (o b))

pub some_allow : {S : Type 0} (c : Bool) (s : S) → is_some (allow c s) ≡ c
some_allow true s = refl
some_allow false s = refl

pub some_or : {S : Type 0} (a c : Option S) → is_some (option_or a c) ≡ (is_some a || is_some c)
some_or (Some s) c = refl
some_or None c = refl

pub marks_either : {S : Type 0} (x y : ℕ) (o p : ℕ → Option S) → MarksStep x o → MarksStep y p
    → MarksStep (bit_or x y) (λ b. option_or (o b) (p b))
marks_either x y o p h k = marks_same _ _ _ (λ b. some_or (o b) (p b)) (marks_or x y _ _ h k)

some_on : {S T X : Type 0} (into : S → T) (a : Option S) (v : X) (after : X → Option T)
    → is_some (onward into a (Some v) after) ≡ (is_some a || is_some (after v))
some_on into (Some s) v after = refl
some_on into None v after = refl

some_off : {S T X : Type 0} (into : S → T) (a : Option S) (after : X → Option T)
    → is_some (onward into a None after) ≡ (is_some a || false)
some_off into (Some s) after = refl
some_off into None after = refl

pub marks_onward : {S T X : Type 0} (into : S → T) (x y : ℕ) (o : ℕ → Option S) (end : Option X)
    (after : X → ℕ → Option T) → MarksStep x o → ((v : X) → MarksStep y (after v))
    → MarksStep (bit_or x (cond (is_some end) y 0)) (λ b. onward into (o b) end (λ v. after v b))
marks_onward into x y o (Some v) after h k =
    marks_same _ _ _ (λ b. some_on into (o b) v (λ v. after v b)) (marks_or x y _ _ h (k v))
marks_onward into x y o None after h k =
    marks_same _ _ _ (λ b. some_off into (o b) (λ v. after v b)) (marks_or x 0 _ _ h marks_none)

-- tests that are the same below 128, by their table
abbrev pub is_same : (ℕ → Bool) → (ℕ → Bool) → Bool
is_same p q = all_below 128 (λ b. bit (p b) == bit (q b))

pub each_same : (p q : ℕ → Bool) → is_same p q ≡ true → (b : ℕ) → b < 128 → p b ≡ q b
each_same p q h b l = same (p b) (q b)
    (eqb-true (bit (p b)) (bit (q b)) (each_below 128 (λ b. bit (p b) == bit (q b)) h b l))
  where
    same : (c e : Bool) → bit c ≡ bit e → c ≡ e
    same true true h = refl
    same true false h = absurd cc
    same false true h = absurd cc
    same false false h = refl

pub marks_below : (x : ℕ) (p q : ℕ → Bool) → ((b : ℕ) → b < 128 → q b ≡ p b) → Marks x p
    → Marks x q
marks_below x p q e k b = k b ∙ ⊎_elim (λ l. ap (λ y. bit (nat_lt b 128 && y)) (sym (e b l)))
    (λ g. sym (above b (p b) g) ∙ above b (q b) g) (cases_lt b 128)

-- a set that is known
pub marks_steps : {S : Type 0} (x : ℕ) (o : ℕ → Option S) → is_table x (λ b. is_some (o b)) ≡ true
    → MarksStep x o
marks_steps x o h = marks_table x (λ b. is_some (o b)) h
