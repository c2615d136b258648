-- A text of a field keeps to the ABNF exactly if it is trimmed.
use Rattle.std.proofs.Common.{◌≡◌, ℕ, zero, suc, ◌≤◌, List as Seq, [], ◌∷◌}
use Rattle.std.proofs.Common.{◌++◌, length, refl, sym, ap, ◌∙◌, subst, inl, inr, append_assoc}
use Rattle.std.proofs.Common.{append-nil, arith, ◌↔◌, get_or}
use Rattle.sf_value.specs.declared.dialect.Dialect.{Dialect}
use Rattle.sf_value.specs.declared.value.Field.{Field}
use Rattle.sf_value.specs.declared.value.Field.TheVariants as field
use Rattle.sf_value.specs.declared.value.Kind.{Kind}
use Rattle.sf_value.specs.declared.value.Kind.TheVariants as kind
use Rattle.sf_value.specs.Grammar.Fields.{SpellsField}
use Rattle.sf_rfc.specs.Rfc9651.AbnfNotation.{Rule, either, times, many, SP, HTAB, OWS}
use Rattle.sf_rfc.specs.Rfc9651.Abnf.{sf_item, sf_list, sf_dictionary}
use Rattle.sf_rfc.specs.AbnfLaws.{if_sent, kind_rule, Begins, Ends, IsTrimmed}
use Rattle.sf_rfc.proofs.AbnfFields.{Between, spelled_keeps}
use Rattle.sf_rfc.proofs.AbnfEnds.{trimmed}

no_empty : (t : Seq ℕ) → t ≡ [] → Begins t → ⊥
no_empty t z (c, u, e, l) =
    let n : 0 ≡ suc (length u) = ap (λ y. length y) (sym z ∙ e) in
    let none : ⊥ = omega arith in none

-- no SP before
no_gap : (gap suffix t : Seq ℕ) → t ≡ gap ++ suffix → many SP gap → Begins t → gap ≡ []
no_gap gap suffix t e (zero, z) b = z
no_gap gap suffix t e (suc n, (prefix, more, f, p, q)) (c, u, h, l) =
    let g : t ≡ 32 ∷ (more ++ suffix) =
    e ∙ ap (λ y. y ++ suffix) (f ∙ ap (λ y. y ++ more) p) in
    let same : 32 ≡ c = ap (λ y. get_or y 0 0) (sym g ∙ h) in
    absurd (let none : ⊥ = omega arith in none)

-- no white space after
last_of : Seq ℕ → ℕ
last_of [] = 0
last_of (c ∷ []) = c
last_of (c ∷ d ∷ t) = last_of (d ∷ t)

last_push : (u : Seq ℕ) (c : ℕ) → last_of (u ++ c ∷ []) ≡ c
unfolding last_of
last_push [] c = refl
last_push (a ∷ []) c = refl
last_push (a ∷ b ∷ u) c = last_push (b ∷ u) c

abbrev EndsWhite : Seq ℕ → Type 0
EndsWhite t = (u : Seq ℕ) × (c : ℕ) × (t ≡ u ++ c ∷ []) × (c ≤ 32)

white : (t : Seq ℕ) → either SP HTAB t → EndsWhite t
white t (inl e) = ([], 32, e, omega arith)
white t (inr e) = ([], 9, e, omega arith)

behind : (prefix : Seq ℕ) (t suffix : Seq ℕ) → t ≡ prefix ++ suffix → EndsWhite suffix → EndsWhite t
behind prefix t suffix e (u, c, g, l) =
    (prefix ++ u, c, e ∙ ap (λ y. prefix ++ y) g ∙ sym (append_assoc prefix u (c ∷ [])), l)

ends_white : (n : ℕ) (t : Seq ℕ) → times (suc n) (either SP HTAB) t → EndsWhite t
ends_white zero t (prefix, suffix, e, p, z) =
    let (u, c, g, l) = white prefix p in
    (u, c, e ∙ ap (λ y. prefix ++ y) z ∙ append-nil prefix ∙ g, l)
ends_white (suc n) t (prefix, suffix, e, p, q) = behind prefix t suffix e (ends_white n suffix q)

no_tail : (prefix tail t : Seq ℕ) → t ≡ prefix ++ tail → OWS tail → Ends t → tail ≡ []
no_tail prefix tail t e (zero, z) b = z
no_tail prefix tail t e (suc n, h) (u, c, g, l) =
    let (w, x, f, k) = behind prefix t tail e (ends_white n tail h) in
    let same : x ≡ c =
    sym (last_push w x) ∙ ap last_of (sym f ∙ g) ∙ last_push u c in
    absurd (let none : ⊥ = omega arith in none)

between_trimmed : (R : Rule) (t : Seq ℕ) → Between R OWS t → IsTrimmed t → R t
between_trimmed R t (gap, body, tail, e, g, r, w) (b, z) =
    let no_prefix = no_gap gap (body ++ tail) t e g b in
    let f : t ≡ body ++ tail = e ∙ ap (λ y. y ++ (body ++ tail)) no_prefix in
    let no_suffix = no_tail body tail t f w z in
    subst R (sym (f ∙ ap (λ y. body ++ y) no_suffix ∙ append-nil body)) r

sent : {X : Type 0} (xs : Seq X) (R : Rule) (t : Seq ℕ) → if_sent xs R t → Begins t → R t
sent [] R t e b = absurd (no_empty t e b)
sent (x ∷ xs) R t h b = h

times_sp : (n : ℕ) (t : Seq ℕ) → times n SP t → times n (either SP HTAB) t
times_sp zero t e = e
times_sp (suc n) t (prefix, suffix, e, p, q) = (prefix, suffix, e, inl p, times_sp n suffix q)

module _ (d : Dialect) where
  keeps : (kind : Kind) (t : Seq ℕ) (v : Field) → SpellsField d kind t v → IsTrimmed t
      → kind_rule d kind t
  keeps kind.Item t (field.Item i) h k =
      let (gap, body, tail, e, g, r, (n, w)) = spelled_keeps d kind.Item t (field.Item i) h in
      between_trimmed (sf_item d) t (gap, body, tail, e, g, r, (n, times_sp n tail w)) k
  keeps kind.List t (field.List l) h k =
      sent l.members (sf_list d) t
      (between_trimmed (if_sent l.members (sf_list d)) t
      (spelled_keeps d kind.List t (field.List l) h) k) k.0
  keeps kind.Dict t (field.Dict m) h k =
      sent m.members (sf_dictionary d) t
      (between_trimmed (if_sent m.members (sf_dictionary d)) t
      (spelled_keeps d kind.Dict t (field.Dict m) h) k) k.0
  keeps kind t v h k = elim h [ ]

  pub exactly_trimmed : (kind : Kind) (t : Seq ℕ) (v : Field) → SpellsField d kind t v
      → (kind_rule d kind t ↔ IsTrimmed t)
  exactly_trimmed kind t v h = (trimmed d kind t, keeps kind t v h)
