-- Runs of bytes that pass a test: how a scan finds them, and what a machine takes by them.
use Rattle.std.proofs.Common.{◌≡◌, ℕ, Bool, true, List, [], ◌∷◌}
use Rattle.std.proofs.Common.{◌++◌, Option, Some, refl, sym, ap, ◌∙◌}
use Rattle.std.proofs.Common.{subst, arith, append-nil, append_assoc}
use Rattle.sf_value.specs.Grammar.Words.{Every, IsWord}
use Rattle.sf_value.specs.Grammar.Classes.{is_visible}
use Rattle.sf_value.proofs.Runs.{every_append}
use Rattle.sf_value.proofs.Words.{every_map}
use Rattle.sf_value.specs.Grammar.Strings.{is_unescaped}
use Rattle.sf_parse.specs.Prefixes.{Goes}
use Rattle.sf_parse.specs.Machine.Language.{run}
use Rattle.sf_parse.specs.Machine.Texts.{Inside, text_step, word_step}

-- such a byte in a string
text_byte : (bytes : List ℕ) (b : ℕ) → is_unescaped b ≡ true
    → text_step (Inside bytes) b ≡ Some (Inside (bytes ++ b ∷ []))
text_byte bytes b h = grind arith

text_run : (bytes xs : List ℕ) → Every is_unescaped xs
    → run text_step (Inside bytes) xs ≡ Some (Inside (bytes ++ xs))
text_run bytes [] h = ap (λ y. Some (Inside y)) (sym (append-nil bytes))
text_run bytes (b ∷ xs) h =
    rw (text_byte bytes b h.0)
    (text_run (bytes ++ b ∷ []) xs h.1
    ∙ ap (λ y. Some (Inside y)) (append_assoc bytes (b ∷ []) xs))

-- a string takes a run
pub text_goes : (bytes xs rest chunk more : List ℕ) → chunk ≡ xs ++ rest → Every is_unescaped xs
    → more ≡ bytes ++ xs → Goes text_step (Inside bytes) chunk rest (Inside more)
text_goes bytes xs rest chunk more e h f = record {
  taken = xs;
  split = e;
  leads = text_run bytes xs h ∙ ap (λ y. Some (Inside y)) (sym f);
}

-- what a key or a token takes
word_run : (q : ℕ → Bool) (bytes xs : List ℕ) → Every q xs
    → run (word_step q) bytes xs ≡ Some (bytes ++ xs)
word_run q bytes [] h = ap (λ y. Some y) (sym (append-nil bytes))
word_run q bytes (b ∷ xs) h =
    rw (h.0)
    (word_run q (bytes ++ b ∷ []) xs h.1 ∙ ap (λ y. Some y) (append_assoc bytes (b ∷ []) xs))

pub word_goes : (q : ℕ → Bool) (bytes xs rest chunk more : List ℕ) → chunk ≡ xs ++ rest
    → Every q xs → more ≡ bytes ++ xs → Goes (word_step q) bytes chunk rest more
word_goes q bytes xs rest chunk more e h f = record {
  taken = xs;
  split = e;
  leads = word_run q bytes xs h ∙ ap (λ y. Some y) (sym f);
}

visible_of : (b : ℕ) → is_unescaped b ≡ true → is_visible b ≡ true
visible_of b h = grind arith

-- what a run keeps
pub visible_run : (bytes xs more : List ℕ) → more ≡ bytes ++ xs → Every is_unescaped xs
    → Every is_visible bytes → Every is_visible more
visible_run bytes xs more e h k =
    subst (Every is_visible) (sym e)
    (every_append is_visible bytes xs k (every_map is_unescaped is_visible visible_of xs h))

pub word_run_kept : (p q : ℕ → Bool) (bytes xs more : List ℕ) → more ≡ bytes ++ xs → Every q xs
    → IsWord p q bytes → IsWord p q more
word_run_kept p q bytes xs more e h k = subst (IsWord p q) (sym e) (by bytes k)
  where
    by : (bytes : List ℕ) → IsWord p q bytes → IsWord p q (bytes ++ xs)
    by [] k = absurd k
    by (b ∷ bytes) k = (k.0, every_append q bytes xs k.1 h)

-- bytes that change nothing
stay_run : {S : Type 0} (next : S → ℕ → Option S) (p : ℕ → Bool) (s : S)
    → ((b : ℕ) → p b ≡ true → next s b ≡ Some s) → (xs : List ℕ) → Every p xs
    → run next s xs ≡ Some s
stay_run next p s h [] w = refl
stay_run next p s h (b ∷ xs) w = rw (h b w.0) (stay_run next p s h xs w.1)

pub stay_goes : {S : Type 0} (next : S → ℕ → Option S) (p : ℕ → Bool) (s : S)
    (xs rest chunk : List ℕ) → ((b : ℕ) → p b ≡ true → next s b ≡ Some s) → chunk ≡ xs ++ rest
    → Every p xs → Goes next s chunk rest s
stay_goes next p s xs rest chunk h e w = record {
  taken = xs;
  split = e;
  leads = stay_run next p s h xs w;
}
