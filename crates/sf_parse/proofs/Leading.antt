-- Bytes that lead to a place in a character.
use Rattle.std.specs.Option.{option_map}
use Rattle.std.proofs.Common.{◌≡◌, ℕ, ◌==◌, true, false, List, [], ◌∷◌, ◌++◌, Some, is_some}
use Rattle.std.proofs.Common.{refl, sym, ap, ◌∙◌, subst, arith, append-nil, append_assoc}
use Rattle.sf_value.specs.Grammar.Words.{Every}
use Rattle.sf_value.specs.Grammar.DisplayStrings.{is_unencoded}
use Rattle.sf_parse.specs.Prefixes.{Goes}
use Rattle.sf_value.specs.Grammar.Utf8.{Utf8, Start, Within, within, utf8_step, WellFormed}
use Rattle.sf_parse.specs.Machine.Language.{run}
use Rattle.sf_parse.specs.Machine.Showns.{Unencoded, push_byte, shown_step}
use Rattle.sf_parse.specs.Machine.Bares.{InShown, bare_finish}
use Rattle.sf_value.specs.Grammar.Classes.{is_visible}
use Rattle.sf_scan.specs.Characters.{utf8_of}
use Rattle.sf_parse.specs.Views.{shown_of, FitsShown, Leads}
use Rattle.sf_scan.specs.declared.char_place.CharPlace.{CharPlace}
use Rattle.sf_parse.specs.declared.display_string.ShownPhase.{ShownPhase}
use Rattle.sf_parse.specs.declared.display_string.ShownPhase.TheVariants as shown_phase
use Rattle.sf_parse.proofs.Machine.Language.{and_then_cases}

run_push : (x y z : Utf8) (bytes : List ℕ) (b : ℕ) → run utf8_step x bytes ≡ Some y
    → utf8_step y b ≡ Some z → run utf8_step x (bytes ++ b ∷ []) ≡ Some z
run_push x y z [] b e h =
    let same : x ≡ y = cc in
    rw (same, h) refl
run_push x y z (c ∷ bytes) b e h =
    let k = and_then_cases (utf8_step x c) (λ s. run utf8_step s bytes) y e in
    rw k.1 (run_push k.0 y z bytes b k.2 h)

pub leads_push : (bytes : List ℕ) (b : ℕ) (x y : Utf8) → run utf8_step Start bytes ≡ Some x
    → utf8_step x b ≡ Some y → run utf8_step Start (bytes ++ b ∷ []) ≡ Some y
leads_push bytes b x y e h = run_push Start x y bytes b e h

whole_from : (x : Utf8) (bytes : List ℕ) → run utf8_step x bytes ≡ Some Start → WellFormed x bytes
whole_from Start [] e = tt
whole_from (Within n low high) [] e = absurd (no e)
  where
    no : Some (Within n low high) ≡ Some Start → ⊥
    no e = cc
whole_from Start (b ∷ bytes) e =
    let k = and_then_cases (utf8_step Start b) (λ s. run utf8_step s bytes) Start e in
    (k.0, k.1, whole_from k.0 bytes k.2)
whole_from (Within n low high) (b ∷ bytes) e =
    let k = and_then_cases (utf8_step (Within n low high) b) (λ s. run utf8_step s bytes) Start e in
    (k.0, k.1, whole_from k.0 bytes k.2)

-- bytes that lead to the start are whole characters
pub whole_when_led : (bytes : List ℕ) → run utf8_step Start bytes ≡ Some Start
    → WellFormed Start bytes
whole_when_led = whole_from Start

-- an unencoded byte, and the second digit of an escape, are one more byte of the text
pub unencoded_pushed : (bytes : List ℕ) (x : Utf8) (b : ℕ) → (b == 34) ≡ false → (b == 37) ≡ false
    → is_visible b ≡ true → shown_step (Unencoded bytes x) b ≡ push_byte (Unencoded bytes x) b
unencoded_pushed bytes x b q p v = rw (q, p, v) refl

-- a byte that stands for itself between characters leads to between characters again
unencoded_low : (b : ℕ) → is_unencoded b ≡ true → within 0 127 b ≡ true
unencoded_low b h = grind arith

unencoded_after : (b : ℕ) → is_unencoded b ≡ true → utf8_step Start b ≡ Some Start
unencoded_after b h = rw (unencoded_low b h) refl

unencoded_tests : (b : ℕ) → is_unencoded b ≡ true
    → ((b == 34) ≡ false) × ((b == 37) ≡ false) × (is_visible b ≡ true)
unencoded_tests b h = (grind arith, grind arith, grind arith)

unencoded_taken : (bytes : List ℕ) (b : ℕ) → is_unencoded b ≡ true
    → shown_step (Unencoded bytes Start) b ≡ Some (Unencoded (bytes ++ b ∷ []) Start)
unencoded_taken bytes b h =
    let k = unencoded_tests b h in
    unencoded_pushed bytes Start b k.0 k.1 k.2
    ∙ ap (option_map (Unencoded (bytes ++ b ∷ []))) (unencoded_after b h)

unencoded_run : (bytes xs : List ℕ) → Every is_unencoded xs
    → run shown_step (Unencoded bytes Start) xs ≡ Some (Unencoded (bytes ++ xs) Start)
unencoded_run bytes [] h = ap (λ y. Some (Unencoded y Start)) (sym (append-nil bytes))
unencoded_run bytes (b ∷ xs) h =
    rw (unencoded_taken bytes b h.0)
    (unencoded_run (bytes ++ b ∷ []) xs h.1
    ∙ ap (λ y. Some (Unencoded y Start)) (append_assoc bytes (b ∷ []) xs))

-- a run of such bytes
pub unencoded_goes : (bytes xs rest chunk more : List ℕ) → chunk ≡ xs ++ rest
    → Every is_unencoded xs → more ≡ bytes ++ xs
    → Goes shown_step (Unencoded bytes Start) chunk rest (Unencoded more Start)
unencoded_goes bytes xs rest chunk more e h f = record {
  taken = xs;
  split = e;
  leads = unencoded_run bytes xs h ∙ ap (λ y. Some (Unencoded y Start)) (sym f);
}

pub leads_run : (bytes xs more : List ℕ) → run utf8_step Start bytes ≡ Some Start
    → Every is_unencoded xs → more ≡ bytes ++ xs → run utf8_step Start more ≡ Some Start
leads_run bytes xs more l h f =
    subst (λ y. run utf8_step Start y ≡ Some Start) (sym f) (by bytes xs l h)
  where
    by : (bytes xs : List ℕ) → run utf8_step Start bytes ≡ Some Start → Every is_unencoded xs
        → run utf8_step Start (bytes ++ xs) ≡ Some Start
    by bytes [] l h = rw (append-nil bytes) l
    by bytes (b ∷ xs) l h =
        subst (λ y. run utf8_step Start y ≡ Some Start) (append_assoc bytes (b ∷ []) xs)
        (by (bytes ++ b ∷ []) xs (leads_push bytes b Start Start l (unencoded_after b h.0)) h.1)

-- a closed display string is whole characters
pub shown_whole : (p : ShownPhase) (bytes : List ℕ) (chars : CharPlace) → FitsShown p bytes chars
    → is_some (bare_finish (InShown (shown_of p bytes chars))) ≡ true → WellFormed Start bytes
shown_whole shown_phase.Done bytes chars f e =
    whole_when_led bytes (subst (λ c. Leads bytes (utf8_of c)) f.1 f.0)
shown_whole p bytes chars f e = absurd cc
