-- Words: the loops for keys and Tokens, and the classes of characters.
use Rattle.std.proofs.Common.{◌≡◌, ℕ, Bool, true, false, List, [], ◌∷◌, ◌++◌, Option}
use Rattle.std.proofs.Common.{Some, None, refl, sym, ap, ◌∙◌, subst, arith, append_assoc}
use Rattle.std.proofs.Common.{append-nil}
use Rattle.std.proofs.lemmas.Bool.Decides.{nat_tests}
use Rattle.sf_value.specs.Grammar.Words.{Every, IsWord}
use Rattle.sf_value.specs.Grammar.Classes.{is_key_start}
use Rattle.sf_value.specs.Grammar.Classes.{is_in_key, is_token_start, is_in_token}
use Rattle.sf_value.specs.Grammar.Tokens.{SpellsWord}
use Rattle.sf_rfc.specs.Rfc9651.Words.{Parse, first_is}
use Rattle.sf_rfc.specs.Rfc9651.Alphabets.{can_start_key, can_be_in_key}
use Rattle.sf_rfc.specs.Rfc9651.Alphabets.{can_start_token, can_be_in_token}
use Rattle.sf_rfc.specs.Rfc9651.Parsing.{parse_key}
use Rattle.sf_rfc.specs.Rfc9651.ParsingBare.{parse_token}
use Rattle.sf_rfc.specs.ParsingLaws.{Agrees}
use Rattle.sf_value.proofs.Words.{every_map}
use Rattle.sf_rfc.proofs.ParsingSteps.{some_pair}
use Rattle.sf_rfc.proofs.SerialisingWords.{key_rest, token_start, token_rest}

-- the two loops are one
abbrev pub word_loop : (ℕ → Bool) → List ℕ → Parse (List ℕ)
word_loop q output [] = Some (output, [])
word_loop q output (char ∷ t) = elim (q char) [
  | false ↦ Some (output, char ∷ t)
  | true ↦ word_loop q (output ++ char ∷ []) t
]

abbrev pub parse_word : (ℕ → Bool) → (ℕ → Bool) → Parse (List ℕ)
parse_word p q t = elim (first_is p t) [ false ↦ None | true ↦ word_loop q [] t ]

key_is : (t : List ℕ) → parse_key t ≡ parse_word can_start_key can_be_in_key t
key_is t = refl

-- the loop
loop_sound : (q : ℕ → Bool) (output t v r : List ℕ) → word_loop q output t ≡ Some (v, r)
    → (w : List ℕ) × (t ≡ w ++ r) × (v ≡ output ++ w) × Every q w
loop_sound q output [] v r e = (
  [],
  (some_pair output v [] r e).1,
  sym (some_pair output v [] r e).0 ∙ sym (append-nil output),
  tt,
)
loop_sound q output (c ∷ t) v r e = go (q c) refl (loop_sound q (output ++ c ∷ []) t v r)
  where
    go : (x : Bool) → q c ≡ x
        → (word_loop q (output ++ c ∷ []) t ≡ Some (v, r)
        → (w : List ℕ) × (t ≡ w ++ r) × (v ≡ (output ++ c ∷ []) ++ w) × Every q w)
        → (w : List ℕ) × (c ∷ t ≡ w ++ r) × (v ≡ output ++ w) × Every q w
    go false i ih =
        let e' : ◌≡◌ {A = Option (List ℕ × List ℕ)} (Some (output, c ∷ t)) (Some (v, r)) = rw (i, word_loop) at e in (
          [],
          (some_pair output v (c ∷ t) r e').1,
          sym (some_pair output v (c ∷ t) r e').0 ∙ sym (append-nil output),
          tt,
        )
    go true i ih =
        let e' : word_loop q (output ++ c ∷ []) t ≡ Some (v, r) = rw (i, word_loop) at e in
        let k = ih e' in
        (c ∷ k.0, ap (λ y. c ∷ y) k.1, k.2 ∙ append_assoc output (c ∷ []) k.0, (i, k.3))

loop_whole : (q : ℕ → Bool) (output w r : List ℕ) → Every q w → first_is q r ≡ false
    → word_loop q output (w ++ r) ≡ Some (output ++ w, r)
loop_whole q output [] [] h f = ap (λ y. Some (y, [])) (sym (append-nil output))
loop_whole q output [] (c ∷ r) h f = rw f (ap (λ y. Some (y, c ∷ r)) (sym (append-nil output)))
loop_whole q output (c ∷ w) r h f =
    rw h.0 (loop_whole q (output ++ c ∷ []) w r h.1 f
    ∙ ap (λ y. Some (y, r)) (append_assoc output (c ∷ []) w))

every_as : (q q' : ℕ → Bool) → ((c : ℕ) → q c ≡ q' c) → (w : List ℕ) → Every q w → Every q' w
every_as q q' same = every_map q q' (λ c e. sym (same c) ∙ e)

first_as : (q q' : ℕ → Bool) → ((c : ℕ) → q c ≡ q' c) → (r : List ℕ) → first_is q' r ≡ false
    → first_is q r ≡ false
first_as q q' same [] f = refl
first_as q q' same (c ∷ r) f = same c ∙ f

-- a word is read
pub word_agrees : (p q p' q' : ℕ → Bool) → ((c : ℕ) → p c ≡ p' c) → ((c : ℕ) → q c ≡ q' c)
    → ((c : ℕ) → p c ≡ true → q c ≡ true)
    → Agrees (List ℕ) (SpellsWord p' q') (parse_word p q) q'
word_agrees p q p' q' same_p same_q starts = record { sound = sound; whole = whole }
  where
    sound : (t r v : List ℕ) → parse_word p q t ≡ Some (v, r)
        → (prefix : List ℕ) × (t ≡ prefix ++ r) × SpellsWord p' q' prefix v
    sound [] r v e = absurd cc
    sound (c ∷ t) r v e = go (p c) refl
      where
        go : (x : Bool) → p c ≡ x
            → (prefix : List ℕ) × (c ∷ t ≡ prefix ++ r) × SpellsWord p' q' prefix v
        go false i =
            let e' : ◌≡◌ {A = Option (List ℕ × List ℕ)} None (Some (v, r)) = rw (i, parse_word) at e in
            absurd cc
        go true i =
            let e' : word_loop q (c ∷ []) t ≡ Some (v, r) = rw (i, parse_word, starts c i, word_loop) at e in
            let k = loop_sound q (c ∷ []) t v r e' in (
              v,
              rw k.2 (ap (λ y. c ∷ y) k.1),
              (
                refl,
                subst (IsWord p' q') (sym k.2)
                    (sym (same_p c) ∙ i, every_as q q' same_q k.0 k.3),
              ),
            )

    whole : (t r v : List ℕ) → SpellsWord p' q' t v → first_is q' r ≡ false
        → parse_word p q (t ++ r) ≡ Some (v, r)
    whole t r [] h f = absurd h.1
    whole t r (c ∷ w) h f =
        let i : p c ≡ true = same_p c ∙ h.1.0 in
        rw h.0 (rw (i, starts c i) (loop_whole q (c ∷ []) w r
        (every_as q' q (λ x. sym (same_q x)) w h.1.1) (first_as q q' same_q r f)))

-- the classes
key_start : (c : ℕ) → can_start_key c ≡ is_key_start c
key_start c = refl

key_starts : (c : ℕ) → can_start_key c ≡ true → can_be_in_key c ≡ true
key_starts c h = grind (arith, nat_tests)

token_starts : (c : ℕ) → can_start_token c ≡ true → can_be_in_token c ≡ true
token_starts c h = grind (arith, nat_tests)

pub keys_agree : Agrees (List ℕ) (SpellsWord is_key_start is_in_key) parse_key is_in_key
keys_agree = word_agrees can_start_key can_be_in_key is_key_start is_in_key key_start key_rest
    key_starts

pub tokens_agree : Agrees (List ℕ) (SpellsWord is_token_start is_in_token) parse_token
    is_in_token
tokens_agree = word_agrees can_start_token can_be_in_token is_token_start is_in_token token_start
    token_rest token_starts
