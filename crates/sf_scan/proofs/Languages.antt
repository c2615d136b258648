-- Languages: where their texts stop, seen from other languages.
use Rattle.std.proofs.Common.{◌≡◌, ℕ, Bool, true, List, [], ◌∷◌, ◌++◌, sym, ap, ◌∙◌, subst}
use Rattle.std.proofs.Common.{inl, inr, append_assoc}
use Rattle.sf_value.specs.Grammar.Lines.{Continues}
use Rattle.sf_scan.specs.Languages.{Apart}
use Rattle.sf_scan.specs.Stops.{Past, IsFollowed, Stops, Reads, Refuses}
use Rattle.sf_value.specs.Runs.{FirstIs}
use Rattle.sf_scan.proofs.Lists.{Longer, two_parts}

-- what continues a prefix and a byte continues the prefix
pub continues_before : {V : Type 0} (L : List ℕ → V → Type 0) (p u : List ℕ)
    → Continues L (p ++ u) → Continues L p
continues_before L p u h = (u ++ h.0, h.1, subst (λ t. L t h.1) (append_assoc p u h.0) h.2)

-- what follows in the texts of L after p follows p and more
pub past_followed : {V : Type 0} (L : List ℕ → V → Type 0) (next : ℕ → Bool) (p q : List ℕ)
    → IsFollowed (Past p L) next q → IsFollowed L next (p ++ q)
past_followed L next p q f = record {
  viable = up q f.viable;
  may = λ b h. subst (Continues L) (sym (append_assoc p q (b ∷ []))) (up (q ++ b ∷ []) (f.may b h));
  only = λ b h. f.only b (down (q ++ b ∷ []) (subst (Continues L) (append_assoc p q (b ∷ [])) h));
}
  where
    up : (r : List ℕ) → Continues (Past p L) r → Continues L (p ++ r)
    up r h = (h.0, h.1, subst (λ t. L t h.1) (sym (append_assoc p r h.0)) h.2)

    down : (r : List ℕ) → Continues L (p ++ r) → Continues (Past p L) r
    down r h = (h.0, h.1, subst (λ t. L t h.1) (append_assoc p r h.0) h.2)

abbrev pub past_stops : {V : Type 0} (L : List ℕ → V → Type 0) (next : ℕ → Bool)
    (p text whole left : List ℕ) → whole ≡ p ++ text → Stops (Past p L) next text left
    → Stops L next whole left
past_stops L next p text whole left e s = record {
  prefix = p ++ s.prefix;
  split = e ∙ ap (λ t. p ++ t) s.split ∙ sym (append_assoc p s.prefix left);
  followed = past_followed L next p s.prefix s.followed;
  blocked = s.blocked;
}

pub past_reads : {V : Type 0} (L : List ℕ → V → Type 0) (next : ℕ → Bool)
    (p text whole : List ℕ) (v : V) (left : List ℕ) → whole ≡ p ++ text
    → Reads (Past p L) next text v left → Reads L next whole v left
past_reads L next p text whole v left e r =
    record { stops = past_stops L next p text whole left e r.stops; spelled = r.spelled }

pub past_refuses : {V : Type 0} (L : List ℕ → V → Type 0) (next : ℕ → Bool)
    (p text whole left : List ℕ) → whole ≡ p ++ text → Refuses (Past p L) next text left
    → Refuses L next whole left
past_refuses L next p text whole left e r =
    record { stops = past_stops L next p text whole left e r.stops; unspelled = r.unspelled }

-- two languages with the same texts, whose values are told apart by `into`
pub record SameTexts {V W : Type 0} (L : List ℕ → V → Type 0) (M : List ℕ → W → Type 0)
    (into : V → W) : Type 0 where
  pub up : (t : List ℕ) (v : V) → L t v → M t (into v)
  pub down : (t : List ℕ) (w : W) → M t w → (v : V) × L t v

pub same_continues : {V W : Type 0} (L : List ℕ → V → Type 0) (M : List ℕ → W → Type 0)
    (into : V → W) → SameTexts L M into → (p : List ℕ) → Continues L p → Continues M p
same_continues L M into s p h = (h.0, into h.1, s.up (p ++ h.0) h.1 h.2)

pub same_followed : {V W : Type 0} (L : List ℕ → V → Type 0) (M : List ℕ → W → Type 0)
    (into : V → W) → SameTexts L M into → (next : ℕ → Bool) (p : List ℕ) → IsFollowed L next p
    → IsFollowed M next p
same_followed L M into s next p f = record {
  viable = same_continues L M into s p f.viable;
  may = λ b h. same_continues L M into s (p ++ b ∷ []) (f.may b h);
  only = λ b h. f.only b (let d = s.down ((p ++ b ∷ []) ++ h.0) h.1 h.2 in (h.0, d.0, d.1));
}

abbrev pub same_stops : {V W : Type 0} (L : List ℕ → V → Type 0) (M : List ℕ → W → Type 0)
    (into : V → W) → SameTexts L M into → (next : ℕ → Bool) (text left : List ℕ)
    → Stops L next text left → Stops M next text left
same_stops L M into s next text left h = record {
  prefix = h.prefix;
  split = h.split;
  followed = same_followed L M into s next h.prefix h.followed;
  blocked = h.blocked;
}

pub same_reads : {V W : Type 0} (L : List ℕ → V → Type 0) (M : List ℕ → W → Type 0)
    (into : V → W) → SameTexts L M into → (next : ℕ → Bool) (text : List ℕ) (v : V) (left : List ℕ)
    → Reads L next text v left → Reads M next text (into v) left
same_reads L M into s next text v left h = record {
  stops = same_stops L M into s next text left h.stops;
  spelled = s.up (h.stops.prefix) v h.spelled;
}

pub same_refuses : {V W : Type 0} (L : List ℕ → V → Type 0) (M : List ℕ → W → Type 0)
    (into : V → W) → SameTexts L M into → (next : ℕ → Bool) (text left : List ℕ)
    → Refuses L next text left → Refuses M next text left
same_refuses L M into s next text left h = record {
  stops = same_stops L M into s next text left h.stops;
  unspelled = λ w k. let d = s.down (h.stops.prefix) w k in h.unspelled d.0 d.1;
}

-- a prefix of L, and what comes after it, read as a text of L and a rest that is empty or begins
-- with such a byte: the text of L is the prefix or a longer one
pub cut : {V : Type 0} (L : List ℕ → V → Type 0) (F : ℕ → Bool) → Apart L F
    → (a u b v : List ℕ) (x : V) → Continues L a → L b x → FirstIs (λ c. F c ≡ true) v
    → a ++ u ≡ b ++ v → Longer a u b v
cut L F apart a u b v x h k f e = elim (two_parts a u b v e) [
  | inl l ↦ l
  | inr s ↦ absurd (apart b x s.byte k (subst (FirstIs (λ c. F c ≡ true)) s.rest f)
      (continues_before L (b ++ s.byte ∷ []) s.more
      (subst (Continues L) (s.part ∙ sym (append_assoc b (s.byte ∷ []) s.more)) h)))
]
