-- Parsing members with commas between them: the loop that Lists and Dictionaries have in common.
use Rattle.std.proofs.Common.{◌≡◌, ℕ, zero, suc, ◌<◌, ◌≤◌, Bool, true, false, ◌||◌, ◌==◌, List, []}
use Rattle.std.proofs.Common.{◌∷◌, ◌++◌, length, Option, Some, None, refl, sym, ap, ◌∙◌, subst}
use Rattle.std.proofs.Common.{append_assoc, append-nil, length-append, arith, eqb-true}
use Rattle.std.proofs.lemmas.Bool.Decides.{nat_tests}
use Rattle.sf_value.specs.Grammar.Words.{Every}
use Rattle.sf_value.specs.Grammar.Classes.{is_ows}
use Rattle.sf_value.specs.Grammar.Series.{SpellsCommas}
use Rattle.sf_rfc.specs.Rfc9651.Words.{Parse, and_then, first_is, discard}
use Rattle.sf_rfc.specs.Rfc9651.Alphabets.{is_OWS}
use Rattle.sf_rfc.specs.ParsingLaws.{Agrees, is_in_params, SpellsToEnd}
use Rattle.sf_rfc.proofs.ParsingParameters.{discarded, discard_gap}
use Rattle.sf_rfc.proofs.ParsingSteps.{never, some_pair, and_then_cases, if_so}

-- OWS or a comma
abbrev is_member_end : ℕ → Bool
is_member_end c = is_ows c || c == 44

end_no_params : (c : ℕ) → is_member_end c ≡ true → is_in_params c ≡ false
end_no_params c h = grind (arith, nat_tests)

space_no_params : (c : ℕ) → is_ows c ≡ true → is_in_params c ≡ false
space_no_params c h = grind (arith, nat_tests)

-- after a comma the loop goes on, and after a member it goes on at a comma or ends at the end
abbrev next : {S : Type 0} → (S → Parse S) → S → List ℕ → Option (S × List ℕ)
next go s r = elim r [ [] ↦ None | y ∷ w ↦ go s (y ∷ w) ]

abbrev stop : {S : Type 0} → (S → Parse S) → S → List ℕ → Option (S × List ℕ)
stop go s u = elim u [
  | [] ↦ Some (s, [])
  | x ∷ r ↦ elim (x == 44) [ false ↦ None | true ↦ next go s (discard is_OWS r) ]
]

abbrev pub after : {S : Type 0} → (S → Parse S) → S → Parse S
after go s u = stop go s (discard is_OWS u)

-- a loop that takes members by one algorithm and keeps what they make
pub record IsLoop (X S : Type 0) (one : Parse X) (fold : List X → S) (loop : ℕ → S → Parse S)
    : Type 0 where
  pub none : (s : S) (t : List ℕ) → loop 0 s t ≡ None
  pub ends : (n : ℕ) (s : S) → loop (suc n) s [] ≡ Some (s, [])
  pub round : (n : ℕ) (xs : List X) (c : ℕ) (t : List ℕ)
      → loop (suc n) (fold xs) (c ∷ t)
      ≡ and_then (one (c ∷ t)) (λ q. after (loop n) (fold (xs ++ q.0 ∷ [])) q.1)

-- no member is empty, nor begins with OWS
abbrev pub Starts : (X : Type 0) → (List ℕ → X → Type 0) → Type 0
Starts X P =
    (t : List ℕ) (x : X) → P t x
    → (c : ℕ) × (u : List ℕ) × (t ≡ c ∷ u) × (is_OWS c ≡ false)

gap_end : (gap : List ℕ) → Every is_ows gap → discard is_OWS gap ≡ []
gap_end [] h = refl
gap_end (c ∷ gap) h = rw (h.0, discard) (gap_end gap h.1)

module _ (X S : Type 0) (P : List ℕ → X → Type 0) (one : Parse X) (fold : List X → S)
    (loop : ℕ → S → Parse S) (is : IsLoop X S one fold loop)
    (agrees : Agrees X P one is_in_params) (starts : Starts X P) where
  -- what is taken after members
  abbrev MoreTaken : List X → List ℕ → S → List ℕ → Type 0
  MoreTaken xs t v r =
      (more : List X) × (body tail : List ℕ) × (t ≡ body ++ (tail ++ r)) × SpellsCommas P body more
      × Every is_ows tail × (v ≡ fold (xs ++ more))

  -- what the loop takes of a text that isn't empty
  abbrev Taken : List X → List ℕ → S → List ℕ → Type 0
  Taken xs t v r =
      (x : X) × (prefix rest : List ℕ) × (t ≡ prefix ++ rest) × P prefix x
      × MoreTaken (xs ++ x ∷ []) rest v r

  end_taken : (xs : List X) (u : List ℕ) (v : S) (r : List ℕ) → Every is_ows u
      → ◌≡◌ {A = Option (S × List ℕ)} (Some (fold xs, [])) (Some (v, r)) → MoreTaken xs u v r
  end_taken xs u v r g e =
      let k = some_pair (fold xs) v [] r e in (
        [],
        [],
        u,
        sym (append-nil u) ∙ ap (λ y. u ++ y) k.1,
        refl,
        g,
        sym k.0 ∙ ap fold (sym (append-nil xs)),
      )

  comma_taken : (xs : List X) (gap behind t u : List ℕ) (x : ℕ) (v : S) (r : List ℕ)
      → u ≡ gap ++ x ∷ (behind ++ t) → Every is_ows gap → (x == 44) ≡ true → Every is_ows behind
      → Taken xs t v r → MoreTaken xs u v r
  comma_taken xs gap behind t u x v r e g h b (y, prefix, rest, i, p, (more, body, tail, j, s, w, k)) = (
    y ∷ more,
    gap ++ 44 ∷ (behind ++ (prefix ++ body)),
    tail,
    e ∙ rw (eqb-true x 44 h, i, j) (simp append_assoc refl),
    (gap, behind, prefix, body, refl, g, b, p, s),
    w,
    k ∙ ap fold (append_assoc xs (y ∷ []) more),
  )

  abbrev Loops : ℕ → Type 0
  Loops n =
      (xs : List X) (c : ℕ) (t : List ℕ) (v : S) (r : List ℕ)
      → loop n (fold xs) (c ∷ t) ≡ Some (v, r) → Taken xs (c ∷ t) v r

  after_sound : (n : ℕ) (xs : List X) (u : List ℕ) (v : S) (r : List ℕ) → Loops n
      → after (loop n) (fold xs) u ≡ Some (v, r) → MoreTaken xs u v r
  after_sound n xs u v r ih e =
      let (gap, i, g) = discarded is_OWS u in
      first gap i g (discard is_OWS u) refl
    where
      second : (gap t : List ℕ) (x : ℕ) (gap2 w : List ℕ) → u ≡ gap ++ x ∷ t → Every is_ows gap
          → (x == 44) ≡ true → t ≡ gap2 ++ w → Every is_ows gap2 → next (loop n) (fold xs) w ≡ Some (v, r)
          → MoreTaken xs u v r
      second gap t x gap2 [] i g h j k f = never (v, r) f
      second gap t x gap2 (y ∷ w) i g h j k f =
          comma_taken xs gap gap2 (y ∷ w) u x v r (i ∙ ap (λ z. gap ++ x ∷ z) j) g h k
          (ih xs y w v r f)

      first : (gap : List ℕ) → u ≡ gap ++ discard is_OWS u → Every is_ows gap → (w : List ℕ)
          → discard is_OWS u ≡ w → MoreTaken xs u v r
      first gap i g [] j =
          let k : u ≡ gap = i ∙ ap (λ y. gap ++ y) j ∙ append-nil gap in
          let f : stop (loop n) (fold xs) [] ≡ Some (v, r) = subst (λ y. stop (loop n) (fold xs) y ≡ Some (v, r)) j e in
          end_taken xs u v r (subst (Every is_ows) (sym k) g) f
      first gap i g (x ∷ t) j =
          let f : stop (loop n) (fold xs) (x ∷ t) ≡ Some (v, r) = subst (λ y. stop (loop n) (fold xs) y ≡ Some (v, r)) j e in
          let (h, k) = if_so (x == 44) (next (loop n) (fold xs) (discard is_OWS t)) (v, r) f in
          let (gap2, m, l) = discarded is_OWS t in
          second gap t x gap2 (discard is_OWS t) (i ∙ ap (λ y. gap ++ y) j) g h m l k

  loop_sound : (n : ℕ) → Loops n
  loop_sound zero xs c t v r e = never (v, r) (sym (is.none (fold xs) (c ∷ t)) ∙ e)
  loop_sound (suc n) xs c t v r e =
      let (q, a, b) = and_then_cases (one (c ∷ t)) _ (v, r) (sym (is.round n xs c t) ∙ e) in
      let (prefix, i, p) = agrees.sound (c ∷ t) q.1 q.0 a in
      (q.0, prefix, q.1, i, p, after_sound n (xs ++ q.0 ∷ []) q.1 v r (loop_sound n) b)

  series_sound : (n : ℕ) (t r : List ℕ) (v : S) → loop (suc n) (fold []) t ≡ Some (v, r)
      → (prefix : List ℕ) × (t ≡ prefix ++ r)
      × ((xs : List X) × (v ≡ fold xs) × SpellsToEnd P prefix xs)
  series_sound n [] r v e =
      let k = some_pair (fold []) v [] r (sym (is.ends n (fold [])) ∙ e) in
      ([], k.1, ([], sym k.0, refl))
  series_sound n (c ∷ t) r v e =
      let (x, prefix, rest, i, p, (more, body, tail, j, s, w, k)) = loop_sound (suc n) [] c t v r e in (
        prefix ++ (body ++ tail),
        i ∙ rw j (simp append_assoc refl),
        (
          x ∷ more,
          k,
          (prefix ++ body, tail, sym (append_assoc prefix body tail), (prefix, body, refl, p, s), w),
        ),
      )

  -- whole: what is after a member is OWS or a comma
  tail_first : (tail : List ℕ) → Every is_ows tail → first_is is_in_params tail ≡ false
  tail_first [] h = refl
  tail_first (c ∷ tail) h = space_no_params c h.0

  rest_first : (body tail : List ℕ) (more : List X) → SpellsCommas P body more → Every is_ows tail
      → first_is is_in_params (body ++ tail) ≡ false
  rest_first body tail [] s w = rw s (tail_first tail w)
  rest_first body tail (x ∷ more) ([], behind, prefix, suffix, e, g, b, p, s) w = rw e refl
  rest_first body tail (x ∷ more) (c ∷ gap, behind, prefix, suffix, e, g, b, p, s) w =
      rw e (space_no_params c g.0)

  abbrev Reads : ℕ → Type 0
  Reads n =
      (xs : List X) (x : X) (more : List X) (prefix body tail : List ℕ) → P prefix x
      → SpellsCommas P body more → Every is_ows tail → length more < n
      → loop n (fold xs) (prefix ++ (body ++ tail)) ≡ Some (fold (xs ++ x ∷ more), [])

  comma_read : (n : ℕ) (s : S) (before behind : List ℕ) (c : ℕ) (u : List ℕ)
      → Every is_ows before → Every is_ows behind → is_OWS c ≡ false
      → after (loop n) s (before ++ 44 ∷ (behind ++ c ∷ u)) ≡ loop n s (c ∷ u)
  comma_read n s before behind c u g b h =
      let i : discard is_OWS (before ++ 44 ∷ (behind ++ c ∷ u)) ≡ 44 ∷ (behind ++ c ∷ u) =
      discard_gap is_OWS before (44 ∷ (behind ++ c ∷ u)) g refl in
      let j : discard is_OWS (behind ++ c ∷ u) ≡ c ∷ u = discard_gap is_OWS behind (c ∷ u) b h in
      ap (stop (loop n) s) i ∙ ap (next (loop n) s) j

  after_read : (n : ℕ) (xs more : List X) (body tail : List ℕ) → Reads n → SpellsCommas P body more
      → Every is_ows tail → length more ≤ n
      → after (loop n) (fold xs) (body ++ tail) ≡ Some (fold (xs ++ more), [])
  after_read n xs [] body tail ih s w l =
      let i : discard is_OWS (body ++ tail) ≡ [] = rw s (gap_end tail w) in
      rw (i, after) (ap (λ y. Some (fold y, [])) (sym (append-nil xs)))
  after_read n xs (x ∷ more) body tail ih (before, behind, prefix, suffix, e, g, b, p, s) w l =
      let (c, u, j, h) = starts prefix x p in
      let k : c ∷ (u ++ (suffix ++ tail)) ≡ prefix ++ (suffix ++ tail) =
      ap (λ y. y ++ (suffix ++ tail)) (sym j) in
      let m : body ++ tail ≡ before ++ 44 ∷ (behind ++ (prefix ++ (suffix ++ tail))) =
      rw e (simp append_assoc refl) in
      let i : body ++ tail ≡ before ++ 44 ∷ (behind ++ c ∷ (u ++ (suffix ++ tail))) =
      m ∙ ap (λ y. before ++ 44 ∷ (behind ++ y)) (sym k) in
      ap (after (loop n) (fold xs)) i
      ∙ comma_read n (fold xs) before behind c (u ++ (suffix ++ tail)) g b h
      ∙ ap (loop n (fold xs)) k
      ∙ ih xs x more prefix suffix tail p s w (omega arith)

  loop_read : (n : ℕ) → Reads n
  loop_read zero xs x more prefix body tail p s w l = absurd (omega (arith, l))
  loop_read (suc n) xs x more prefix body tail p s w l =
      let (c, u, j, h) = starts prefix x p in
      let i : prefix ++ (body ++ tail) ≡ c ∷ (u ++ (body ++ tail)) =
      ap (λ y. y ++ (body ++ tail)) j in
      ap (loop (suc n) (fold xs)) i ∙ is.round n xs c (u ++ (body ++ tail))
      ∙ ap (λ y. and_then (one y) behind) (sym i)
      ∙ ap (λ y. and_then y behind)
      (agrees.whole prefix (body ++ tail) x p (rest_first body tail more s w))
      ∙ after_read n (xs ++ x ∷ []) more body tail (loop_read n) s w (omega arith)
      ∙ ap (λ y. Some (fold y, [])) (append_assoc xs (x ∷ []) more)
    where
      behind : X × List ℕ → Option (S × List ℕ)
      behind q = after (loop n) (fold (xs ++ q.0 ∷ [])) q.1

  -- each member after the first has a comma, so that there are no more than characters
  commas_count : (body : List ℕ) (more : List X) → SpellsCommas P body more
      → length more ≤ length body
  commas_count body [] s = omega arith
  commas_count body (x ∷ more) (before, behind, prefix, suffix, e, g, b, p, s) =
      omega (arith, ap length e, commas_count suffix more s, length-append {A = ℕ})

  series_whole : (t r : List ℕ) (xs : List X) → SpellsToEnd P t xs → first_is (λ c. true) r ≡ false
      → loop (suc (length (t ++ r))) (fold []) (t ++ r) ≡ Some (fold xs, r)
  series_whole t (c ∷ r) xs s f = absurd cc
  series_whole t [] [] s f = rw s (is.ends 0 (fold []))
  series_whole t [] (x ∷ more) (body, tail, e, (prefix, suffix, i, p, s), w) f =
      let k : t ++ [] ≡ prefix ++ (suffix ++ tail) =
      append-nil t ∙ e ∙ ap (λ y. y ++ tail) i ∙ append_assoc prefix suffix tail in
      ap (λ y. loop (suc (length y)) (fold []) y) k
      ∙ loop_read (suc (length (prefix ++ (suffix ++ tail)))) [] x more prefix suffix tail p s w
      (omega (arith, commas_count suffix more s, length-append {A = ℕ}))

  pub series_agrees : Agrees S (λ t v. (xs : List X) × (v ≡ fold xs) × SpellsToEnd P t xs)
      (λ t. loop (suc (length t)) (fold []) t) (λ c. true)
  series_agrees = record {
    sound = λ t r v e. series_sound (length t) t r v e;
    whole = λ t r v (xs, e, s) f.
        subst (λ y. loop (suc (length (t ++ r))) (fold []) (t ++ r) ≡ Some (y, r)) (sym e)
        (series_whole t r xs s f);
  }
