-- Automata: of a state, `next` tells which bytes may come, `after` the state that each leads to,
-- and `final` whether the text may end.
use Rattle.std.proofs.Common.{◌≡◌, ℕ, Bool, true, false, List, [], ◌∷◌, ◌++◌, sym}
use Rattle.std.proofs.Common.{◌∙◌, ap, subst, append_assoc, append-nil}
use Rattle.sf_value.specs.Grammar.Lines.{Continues}
use Rattle.sf_scan.specs.Stops.{IsFollowed}

-- the text leads from one state to the other
abbrev pub Leads : {S : Type 0} → (S → ℕ → Bool) → (S → ℕ → S) → S → List ℕ → S → Type 0
Leads next after s [] e = s ≡ e
Leads next after s (b ∷ t) e = (next s b ≡ true) × Leads next after (after s b) t e

-- the text leads to a state where it may end
abbrev pub Accepts : {S : Type 0} → (S → ℕ → Bool) → (S → ℕ → S) → (S → Bool) → S → List ℕ → Type 0
Accepts next after final s [] = final s ≡ true
Accepts next after final s (b ∷ t) =
    (next s b ≡ true) × Accepts next after final (after s b) t

-- the bytes of the text before the rest lead from one state to the other
pub record Went {S : Type 0} (next : S → ℕ → Bool) (after : S → ℕ → S) (s e : S)
    (text rest : List ℕ) : Type 0 where
  pub part : List ℕ
  pub split : text ≡ part ++ rest
  pub path : Leads next after s part e

-- from the state s the texts of L are accepted, and no others
pub record Recognizes {S V : Type 0} (next : S → ℕ → Bool) (after : S → ℕ → S) (final : S → Bool)
    (s : S) (L : List ℕ → V → Type 0) : Type 0 where
  pub reads : (t : List ℕ) → Accepts next after final s t → (v : V) × L t v
  pub spells : (t : List ℕ) (v : V) → L t v → Accepts next after final s t

pub leads_more : {S : Type 0} (next : S → ℕ → Bool) (after : S → ℕ → S) (s m e : S) (p q : List ℕ)
    → Leads next after s p m → Leads next after m q e → Leads next after s (p ++ q) e
leads_more next after s m e [] q h k = subst (λ x. Leads next after x q e) (sym h) k
leads_more next after s m e (b ∷ p) q h k = (h.0, leads_more next after (after s b) m e p q h.1 k)

-- one part after the other
abbrev pub went_on : {S : Type 0} {next : S → ℕ → Bool} {after : S → ℕ → S} {s m e : S}
    {text mid rest : List ℕ} → Went next after s m text mid → Went next after m e mid rest
    → Went next after s e text rest
went_on {next = next} {after = after} {s = s} {m = m} {e = e} {rest = rest} v w = record {
  part = v.part ++ w.part;
  split = v.split ∙ (ap (λ t. v.part ++ t) w.split ∙ sym (append_assoc v.part w.part rest));
  path = leads_more next after s m e v.part w.part v.path w.path;
}

module _ {S : Type 0} (next : S → ℕ → Bool) (after : S → ℕ → S) (final : S → Bool) where
  pub leads_on : (s e : S) (p t : List ℕ) → Leads next after s p e
      → Accepts next after final e t → Accepts next after final s (p ++ t)
  leads_on s e [] t h k = subst (λ x. Accepts next after final x t) (sym h) k
  leads_on s e (b ∷ p) t h k = (h.0, leads_on (after s b) e p t h.1 k)

  pub leads_back : (s e : S) (p t : List ℕ) → Leads next after s p e
      → Accepts next after final s (p ++ t) → Accepts next after final e t
  leads_back s e [] t h k = subst (λ x. Accepts next after final x t) h k
  leads_back s e (b ∷ p) t h k = leads_back (after s b) e p t h.1 k.1

  -- a text that leads to a state may end exactly if the state may
  pub leads_end : (s e : S) (p : List ℕ) → Leads next after s p e → final e ≡ true
      → Accepts next after final s p
  leads_end s e p h k =
      subst (Accepts next after final s) (append-nil p) (leads_on s e p [] h k)

  pub leads_final : (s e : S) (p : List ℕ) → Leads next after s p e
      → Accepts next after final s p → final e ≡ true
  leads_final s e p h k =
      leads_back s e p [] h (subst (Accepts next after final s) (sym (append-nil p)) k)

  -- a prefix is followed by the bytes that may come in its state, if no state that they lead to is
  -- stuck
  pub leads_followed : {V : Type 0} (L : List ℕ → V → Type 0) (s e : S) (p : List ℕ)
      → Recognizes next after final s L → Leads next after s p e
      → ((u : List ℕ) × Accepts next after final e u)
      → ((b : ℕ) → next e b ≡ true → (u : List ℕ) × Accepts next after final (after e b) u)
      → IsFollowed L (next e) p
  leads_followed {V = V} L s e p r h live lives = record {
    viable = let k = r.reads (p ++ live.0) (leads_on s e p live.0 h live.1) in (live.0, k.0, k.1);
    may = λ b n. let u = lives b n in more b u.0 (leads_on s e p (b ∷ u.0) h (n, u.1));
    only = λ b c. (leads_back s e p (b ∷ c.0) h
        (subst (Accepts next after final s) (append_assoc p (b ∷ []) c.0)
        (r.spells ((p ++ b ∷ []) ++ c.0) c.1 c.2))).0;
  }
    where
      more : (b : ℕ) (u : List ℕ) → Accepts next after final s (p ++ b ∷ u)
          → Continues L (p ++ b ∷ [])
      more b u a =
          let k = r.reads ((p ++ b ∷ []) ++ u)
          (subst (Accepts next after final s) (sym (append_assoc p (b ∷ []) u)) a) in
          (u, k.0, k.1)

  -- it spells nothing if the state may not end
  pub leads_unspelled : {V : Type 0} (L : List ℕ → V → Type 0) (s e : S) (p : List ℕ)
      → Recognizes next after final s L → Leads next after s p e → final e ≡ false
      → (v : V) → L p v → ⊥
  leads_unspelled L s e p r h f v l =
      let k = leads_final s e p h (r.spells p v l) in absurd cc

  -- no accepted text begins a longer one, if no byte comes in a final state
  pub accepts_once : ((s : S) (b : ℕ) → final s ≡ true → next s b ≡ false) → (s : S)
      (t u : List ℕ) (b : ℕ) → Accepts next after final s t
      → Accepts next after final s ((t ++ b ∷ []) ++ u) → ⊥
  accepts_once n s [] u b h k =
      let z = n s b h in
      let y : true ≡ false = sym k.0 ∙ z in cc
  accepts_once n s (c ∷ t) u b h k = accepts_once n (after s c) t u b h.1 k.1
