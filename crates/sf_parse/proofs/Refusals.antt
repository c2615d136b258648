-- Where a text that was taken stops or ends: its exact refusal, or its only value.
use Rattle.std.proofs.Common.{◌≡◌, ℕ, zero, suc, ◌<◌, ◌↔◌, Bool, true, false, List, []}
use Rattle.std.proofs.Common.{◌∷◌, ◌++◌, length, take, Option, Some, None, nat_lt, ◌&&◌, cond}
use Rattle.std.proofs.Common.{refl, sym, ap, ◌∙◌, subst, append-nil, length-append, arith, take_all}
use Rattle.std.specs.List.{slice_get}
use Rattle.std.specs.Int.{bit_at}
use Rattle.std.proofs.Math.Seq.{take-append_seam}
use Rattle.std.proofs.lemmas.Bool.{lt-ltb}
use Rattle.std.proofs.lemmas.Nat.Bits.{bit_at-zero}
use Rattle.sf_value.specs.declared.dialect.Dialect.{Dialect}
use Rattle.sf_value.specs.declared.value.Field.{Field}
use Rattle.sf_value.specs.declared.value.Kind.{Kind}
use Rattle.sf_value.specs.Grammar.Fields.{SpellsField}
use Rattle.sf_value.specs.Grammar.Lines.{Viable, IsPlace, Continues}
use Rattle.sf_parse.specs.Machine.States.{State}
use Rattle.sf_parse.specs.Machine.Fields.{step, finish}
use Rattle.sf_parse.specs.Machine.Tests.{takes, may_end}
use Rattle.sf_parse.specs.Reaching.{IsReachedBy}
use Rattle.sf_scan.specs.Sets.{Marks}
use Rattle.sf_parse.specs.Parsers.{IsOnly}
use Rattle.sf_value.specs.Grammar.Refusals.{IsSyntax}
use Rattle.sf_parse.proofs.GrammarLaws.{one_value}
use Rattle.sf_parse.proofs.Reaching.{reached_end, reached_stops, reached_all}
use Rattle.sf_parse.proofs.StateTests.{takes_next, ends_text}
use Rattle.sf_parse.proofs.Below.{some_next}

bit_is : (c : Bool) (n : ℕ) → n ≡ cond c 1 0 → (n ≡ 1) ↔ (c ≡ true)
bit_is true n e = (λ h. refl, λ h. e)
bit_is false n e =
    (λ h. absurd (let k : 0 ≡ 1 = sym e ∙ h in let n' : ⊥ = omega arith in n'), λ h. absurd cc)

below_bound : (b bound : ℕ) (c : Bool) → b < bound → (nat_lt b bound && c) ≡ c
below_bound b bound c h = rw (lt-ltb b bound h) refl

not_zero : (n b : ℕ) → bit_at n b ≡ 1 → 0 < n
not_zero zero b e = absurd (let k : 0 ≡ 1 = sym (bit_at-zero b)
    ∙ e in let n' : ⊥ = omega arith in n')
not_zero (suc n) b e = omega arith

-- the bits tell the bytes that may follow what was taken
marks_next : (d : Dialect) (kind : Kind) (state : State) (s : List ℕ) (bits b : ℕ)
    → IsReachedBy d kind state s → Marks bits (takes d state) → b < 128
    → (bit_at bits b ≡ 1) ↔ Viable d kind (s ++ b ∷ [])
marks_next d kind state s bits b k m h =
    let bit = bit_is (takes d state b) (bit_at bits b)
    (m b ∙ ap (λ c. cond c 1 0) (below_bound b 128 (takes d state b) h)) in
    let next = takes_next d kind state s b k in
    (λ i. next.1 (bit.0 i), λ i. bit.1 (next.0 i))

marks_some : (d : Dialect) (kind : Kind) (state : State) (s : List ℕ) (bits : ℕ)
    → IsReachedBy d kind state s → Marks bits (takes d state) → 0 < bits
marks_some d kind state s bits k m =
    let n = some_next d kind state s k in
    not_zero bits n.0 ((marks_next d kind state s bits n.0 k m n.1.0).1 n.1.1)

exact : (d : Dialect) (kind : Kind) (state : State) (s t : List ℕ) (place : ℕ) (found : Option ℕ)
    (bits : ℕ) (may : Bool) → IsReachedBy d kind state s → Marks bits (takes d state)
    → may ≡ may_end state → take place t ≡ s → IsPlace d kind t place → found ≡ slice_get t place
    → ((v : Field) → SpellsField d kind t v → ⊥)
    → IsSyntax d kind t place found bits may
exact d kind state s t place found bits may k m e prefix at f none = record {
  unspelled = none;
  is_place = at;
  byte = f;
  next = λ b h.
      subst (λ y. (bit_at bits b ≡ 1) ↔ Viable d kind (y ++ b ∷ [])) (sym prefix)
      (marks_next d kind state s bits b k m h);
  some = marks_some d kind state s bits k m;
  ends =
      let ends = ends_text d kind state s k in
      subst (λ y. (may ≡ true) ↔ ((v : Field) × SpellsField d kind y v)) (sym prefix)
      (λ i. ends.1 (sym e ∙ i), λ i. e ∙ ends.0 i);
}

slice_get_seam : (xs ys : List ℕ) (b : ℕ) → slice_get (xs ++ b ∷ ys) (length xs) ≡ Some b
slice_get_seam [] ys b = refl
slice_get_seam (x ∷ xs) ys b = slice_get_seam xs ys b

slice_get_end : (xs : List ℕ) → slice_get xs (length xs) ≡ None
slice_get_end [] = refl
slice_get_end (x ∷ xs) = slice_get_end xs

-- a text that a place before its end stops is none
no_value : (d : Dialect) (kind : Kind) (t : List ℕ) (n : ℕ) → IsPlace d kind t n → n < length t
    → (v : Field) → SpellsField d kind t v → ⊥
no_value d kind t n at h v k =
    let whole : Continues (SpellsField d kind) (take (length t) t) = (
      [],
      v,
      subst (λ y. SpellsField d kind y v)
          (sym (append-nil (take (length t) t) ∙ take_all (length t) t (omega arith))) k,
    ) in
    let l = at.longest (length t) (omega arith) whole in
    omega arith

-- at a byte that the state can't go on with
pub stops_exact : (d : Dialect) (kind : Kind) (state : State) (s q : List ℕ) (b bits : ℕ)
    (may : Bool)
    → IsReachedBy d kind state s → step d state b ≡ None → Marks bits (takes d state)
    → may ≡ may_end state
    → IsSyntax d kind (s ++ b ∷ q) (length s) (Some b) bits may
stops_exact d kind state s q b bits may k n m e =
    let at = reached_stops d kind state s q b k n in
    exact d kind state s (s ++ b ∷ q) (length s) (Some b) bits may k m e
    (take-append_seam s (b ∷ q)) at (sym (slice_get_seam s q b))
    (no_value d kind (s ++ b ∷ q) (length s) at (omega (arith, length-append s (b ∷ q))))

-- at an end where the state may not end
pub ends_exact : (d : Dialect) (kind : Kind) (state : State) (s : List ℕ) (bits : ℕ)
    → IsReachedBy d kind state s → Marks bits (takes d state) → false ≡ may_end state
    → IsSyntax d kind s (length s) None bits false
ends_exact d kind state s bits k m e =
    exact d kind state s s (length s) None bits false k m e
    (take_all (length s) s (omega arith)) (reached_all d kind state s k) (sym (slice_get_end s))
    (λ v h. let i = (ends_text d kind state s k).0 (v, h) in clash i)
  where
    clash : may_end state ≡ true → ⊥
    clash i = let n : false ≡ true = e ∙ i in cc

-- at an end where it has a value
pub ends_only : (d : Dialect) (kind : Kind) (state : State) (s : List ℕ) (v : Field)
    → IsReachedBy d kind state s → finish state ≡ Some v → IsOnly d kind s v
ends_only d kind state s v k e =
    let spelled = (reached_end d kind state s v k).1 e in
    record {
      spelled = spelled;
      only = λ w h. one_value d kind s w v h spelled;
    }
