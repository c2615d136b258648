-- What a parser took at once, and one chunk after another.
use Rattle.std.proofs.Common.{◌≡◌, ℕ, ◌+◌, ◌-◌, ◌≤◌, ◌↔◌, List, [], ◌∷◌, ◌++◌, length}
use Rattle.std.proofs.Common.{get_or, Option, Some, None, Ok, Err, refl, sym, ap, ◌∙◌, subst}
use Rattle.std.proofs.Common.{append_assoc, append-nil, length-append, arith}
use Rattle.std.proofs.Math.Seq.{take-append_seam}
use Rattle.sf_value.specs.Grammar.Fields.{SpellsField}
use Rattle.sf_value.specs.declared.dialect.Dialect.{Dialect}
use Rattle.sf_parse.specs.declared.refusal.Refusal.{Refusal}
use Rattle.sf_parse.specs.Machine.States.{State}
use Rattle.sf_parse.specs.Machine.Language.{run}
use Rattle.sf_parse.specs.Machine.Fields.{Residual, step}
use Rattle.sf_parse.specs.Parsers.{Progress, HasTaken, Sound, RefusedFor, SameSettings, Feeds}
use Rattle.sf_parse.specs.AllocationFreeParsers.{IsAllocationFree}
use Rattle.sf_parse.specs.Prefixes.{LongestPrefix, Goes}
use Rattle.sf_parse.specs.Feeding.{FeedsPrefix}
use Rattle.sf_parse.proofs.Machines
use Rattle.sf_parse.proofs.Machine.Fields.{machine}
use Rattle.sf_parse.proofs.Reaching.{reaches_more, reached_viable}
use Rattle.sf_parse.proofs.FedChunks.{FedPrefix, taken, stopped_in}

-- a text was taken after another
took_run : (p q : Progress) (s t : List ℕ) → Sound p.refusal p.state p.count p.max → HasTaken p s
    → run (step p.dialect) p.state t ≡ Some q.state → SameSettings p q
    → q.count ≡ p.count + length t → q.refusal ≡ None → HasTaken q (s ++ t)
took_run p q s t g k e same c r =
    let more = reaches_more p.dialect p.kind p.state q.state s t (taken p s g k) e in
    record {
      count = let n : p.count ≡ length s = k.count in omega (arith, length-append s t);
      completes = λ u v.
          subst (λ d. Residual d q.state u v ↔ SpellsField d q.kind ((s ++ t) ++ u) v)
          (sym same.dialect)
          (subst (λ k. Residual p.dialect q.state u v ↔ SpellsField p.dialect k ((s ++ t) ++ u) v)
          (sym same.kind) (more.completes u v));
      unrefused = r;
    }

fed_run : (p q : Progress) (t : List ℕ) → Sound p.refusal p.state p.count p.max
    → p.count + length t ≤ p.max → run (step p.dialect) p.state t ≡ Some q.state
    → SameSettings p q → q.count ≡ p.count + length t → q.refusal ≡ p.refusal
    → Feeds p q (Ok tt) t
fed_run p q t g h e same c r = record {
  settings = same;
  counted = omega arith;
  answer = (
    r,
    λ s k.
        let n : p.count ≡ length s = k.count in
        let m = reaches_more p.dialect p.kind p.state q.state s t (taken p s g k) e in (
          omega (arith, length-append s t),
          reached_viable p.dialect p.kind q.state (s ++ t) m,
          took_run p q s t g k e same c (r ∙ k.unrefused),
        ),
  );
}

goes_length : {S : Type 0} (next : S → ℕ → Option S) (s t : S) (chunk rest : List ℕ)
    (w : Goes next s chunk rest t) → length chunk ≡ length w.taken + length rest
goes_length next s t chunk rest w = ap length w.split ∙ length-append w.taken rest

pub sound_taken : (r : Option Refusal) (d : Dialect) (s u : State) (chunk rest : List ℕ)
    (count max : ℕ) → Sound r s count max → r ≡ None → count + length chunk ≤ max
    → LongestPrefix (step d) s chunk rest u → Sound r u (count + (length chunk - length rest)) max
sound_taken r d s u chunk rest count max g n h a =
    let l = goes_length (step d) s u chunk rest a.goes in
    subst (λ y. Sound y u (count + (length chunk - length rest)) max) (sym n) (
      Machines.run_good (machine d) s u a.goes.taken
          (subst (λ y. Sound y s count max) n g).0 a.goes.leads,
      omega arith,
    )

pub fed_taken : (p q : Progress) (chunk rest : List ℕ) → Sound p.refusal p.state p.count p.max
    → p.count + length chunk ≤ p.max → LongestPrefix (step p.dialect) p.state chunk rest q.state
    → SameSettings p q → q.count ≡ p.count + (length chunk - length rest)
    → q.refusal ≡ p.refusal → FeedsPrefix p q chunk rest
fed_taken p q chunk rest g h a same c r =
    let l = goes_length (step p.dialect) p.state q.state chunk rest a.goes in (
      a.goes.taken,
      a.goes.split,
      fed_run p q a.goes.taken g (omega arith) a.goes.leads same (omega arith) r,
    )

-- what does not allocate, where a chunk is split, and where nothing of it is left
pub free_split : (p : Progress) (chunk f suffix more : List ℕ) → chunk ≡ f ++ suffix
    → IsAllocationFree p (chunk ++ more) → IsAllocationFree p (f ++ (suffix ++ more))
free_split p chunk f suffix more e h =
    subst (IsAllocationFree p) (ap (λ y. y ++ more) e ∙ append_assoc f suffix more) h

pub free_taken : (p : Progress) (rest suffix more : List ℕ) → length rest ≡ 0 → length suffix ≡ 0
    → IsAllocationFree p (rest ++ (suffix ++ more)) → IsAllocationFree p more
free_taken p [] [] more e f h = h
free_taken p rest suffix more e f h = absurd (omega arith)

at_seam : (xs : List ℕ) (b : ℕ) (more : List ℕ) → get_or (xs ++ b ∷ more) (length xs) 0 ≡ b
at_seam [] b more = refl
at_seam (x ∷ xs) b more = at_seam xs b more

-- a byte is refused after a prefix
pub refused_after : (o p q : Progress) (x : List ℕ) (b : ℕ) (more chunk : List ℕ) (e : Refusal)
    → Feeds o p (Ok tt) x → Feeds p q (Err e) (b ∷ []) → chunk ≡ x ++ b ∷ more → Feeds o q (Err e) chunk
refused_after o p q x b more chunk e a f s =
    subst (Feeds o q (Err e)) (sym s)
    (stopped_in o p q (x ++ b ∷ more) (length x) e (omega (arith, length-append x (b ∷ more)))
    (subst (FedPrefix o p) (sym (take-append_seam x (b ∷ more)))
    (record { settings = a.settings; counted = a.counted; answer = a.answer }))
    (subst (λ y. Feeds p q (Err e) (y ∷ [])) (sym (at_seam x b more)) f))

-- what is refused in a prefix is refused in the chunk
pub refused_before : (o q : Progress) (x suffix chunk : List ℕ) (e : Refusal) → Feeds o q (Err e) x
    → chunk ≡ x ++ suffix → Feeds o q (Err e) chunk
refused_before o q x suffix chunk e f s = subst (Feeds o q (Err e)) (sym s) (record {
  settings = f.settings;
  counted = let k = f.counted in omega (arith, length-append x suffix);
  answer = (
    f.answer.0,
    λ t k more.
        subst (λ y. RefusedFor o.dialect o.kind o.max y e)
        (sym (append_assoc (t ++ x) suffix more) ∙ ap (λ y. y ++ more) (append_assoc t x suffix))
        (f.answer.1 t k (suffix ++ more)),
  );
})

pub all_taken : (x rest : List ℕ) → length rest ≡ 0 → x ++ rest ≡ x
all_taken x [] e = append-nil x
all_taken x (b ∷ rest) e = absurd (let k : ⊥ = omega arith in k)

-- where a byte after a prefix is: before the limit, and after it
pub prefix_split : (chunk f suffix x rest : List ℕ) (b : ℕ) (more : List ℕ) → chunk ≡ f ++ suffix
    → f ≡ x ++ rest → rest ≡ b ∷ more → chunk ≡ x ++ b ∷ (more ++ suffix)
prefix_split chunk f suffix x rest b more e s k =
    e ∙ ap (λ y. y ++ suffix) (s ∙ ap (λ y. x ++ y) k) ∙ append_assoc x (b ∷ more) suffix

pub suffix_split : (chunk f suffix x rest : List ℕ) (b : ℕ) (more : List ℕ) → chunk ≡ f ++ suffix
    → f ≡ x ++ rest → length rest ≡ 0 → suffix ≡ b ∷ more → chunk ≡ x ++ b ∷ more
suffix_split chunk f suffix x rest b more e s k n =
    e ∙ ap (λ y. y ++ suffix) (s ∙ all_taken x rest k) ∙ ap (λ y. x ++ y) n
