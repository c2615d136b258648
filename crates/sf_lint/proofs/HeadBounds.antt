-- Where the last head of some lines begins, and what is decided by it.
use Rattle.std.proofs.Common.{◌≡◌, ℕ, suc, ◌+◌, ◌-◌, true, false, List, [], ◌∷◌, get_or, refl}
use Rattle.std.proofs.Common.{map, take, drop, None, sym, ap, subst, ◌∙◌}
use Rattle.std.specs.Borrow.{Bor}
use Rattle.std.proofs.lemmas.List.{drop-map, take-map}
use Rattle.sf_lint.specs.declared.settings.CacheSettings.{CacheSettings}
use Rattle.sf_lint.specs.Deciding.{IsHeadText}
use Rattle.sf_lint.specs.Head.{is_start, is_status_line}
use Rattle.sf_lint.specs.Heads.{DecidesFrom, DecidesHead, DecidesLines, has_text, head_begin}
use Rattle.sf_lint.specs.Heads.{lines_between}

pub begins-here : (lines : List (List ℕ)) (n i : ℕ) → n ≡ suc i
    → is_start (get_or lines i []) ≡ true → head_begin lines n ≡ i
begins-here lines n i e start = rw (e, start) refl

pub begins-before : (lines : List (List ℕ)) (n i : ℕ) → n ≡ suc i
    → is_start (get_or lines i []) ≡ false → head_begin lines n ≡ head_begin lines i
begins-before lines n i e start = rw (e, start) refl

-- a head without a start line
pub decides-lines : (caches : CacheSettings) (begin : ℕ) (first : List ℕ) (rest : List (List ℕ))
    (text : List ℕ) → is_status_line first ≡ false → is_start first ≡ false
    → has_text (first ∷ rest) ≡ true → IsHeadText caches None (begin + 1) (first ∷ rest) text
    → DecidesHead caches begin (first ∷ rest) text
decides-lines caches begin first rest text status start some h =
    let lines : DecidesLines caches begin (first ∷ rest) (has_text (first ∷ rest)) text =
    subst (λ b. DecidesLines caches begin (first ∷ rest) b text) (sym some) h in
    let unstarted : DecidesFrom caches begin first rest false (is_start first) text =
    subst (λ b. DecidesFrom caches begin first rest false b text) (sym start) lines in
    subst (λ b. DecidesFrom caches begin first rest b (is_start first) text) (sym status) unstarted

pub between-map : (lines : List (Bor (List ℕ))) (begin end : ℕ)
    → map (λ line. line.now) (take (end - begin) (drop begin lines))
    ≡ lines_between begin end (map (λ line. line.now) lines)
between-map lines begin end =
    let text : Bor (List ℕ) → List ℕ = λ line. line.now in
    sym (take-map text (end - begin) (drop begin lines))
    ∙ ap (take (end - begin)) (sym (drop-map text begin lines))
