-- Parts are valid, each as its text is put.
use Rattle.std.proofs.Common.{◌≡◌, ℕ, ◌+◌, ◌<◌, List, [], ◌∷◌, length, drop, get_or, refl, ◌∙◌}
use Rattle.std.proofs.Common.{sym, subst, add-one, drop-cons}
use Rattle.std.specs.Map.{keys_of}
use Rattle.sf_value.specs.declared.dialect.Dialect.TheVariants.{Rfc9651}
use Rattle.sf_value.specs.declared.value.Field.{Field}
use Rattle.sf_value.specs.Entries.{AreEntries}
use Rattle.sf_value.specs.Grammar.Words.{Each}
use Rattle.sf_value.specs.Grammar.Pairs.{Pairs, HasDistinctKeys}
use Rattle.sf_value.specs.Grammar.Tokens.{IsKey}
use Rattle.sf_value.specs.Grammar.Fields.{SpellsField, kind_of}
use Rattle.sf_value.specs.Grammar.Canonical.{canon}
use Rattle.sf_value.specs.Grammar.Valid.{Valid}
use Rattle.sf_value.proofs.CanonicalTexts.{canon_spells}

-- the fact holds of each of all, once it holds of each that is left
pub record Awaits {X : Type 0} (P : X → Type 0) (all left : List X) : Type 0 where
  pub finish : Each P left → Each P all

-- it holds of none yet
pub awaits_all : {X : Type 0} {P : X → Type 0} {all : List X} → Awaits P all all
awaits_all = record { finish = λ h. h }

-- it holds of one more
pub awaits_less : {X : Type 0} {P : X → Type 0} {all left more : List X} {x : X}
    → Awaits P all left → left ≡ x ∷ more → P x → Awaits P all more
awaits_less {P = P} w e h = record { finish = λ k. w.finish (subst (λ xs. Each P xs) (sym e) (h, k)) }

-- it holds of each
pub awaits_none : {X : Type 0} {P : X → Type 0} {all left : List X} → Awaits P all left → left ≡ []
    → Each P all
awaits_none {P = P} w e = w.finish (subst (λ xs. Each P xs) (sym e) tt)

-- the next of a slice
pub next_of : {X : Type 0} (xs : List X) (i : ℕ) (x : X) → i < length xs → x ≡ get_or xs i x
    → drop i xs ≡ x ∷ drop (i + 1) xs
next_of xs i x h e = drop-cons xs i x h ∙ rw (add-one, ← e) refl

-- entries whose values are valid are valid, since each key is one and none occurs twice
pub entries_valid : {V : Type 0} (P : V → Type 0) (ps : Pairs V) → AreEntries ps
    → Each (λ p. P p.1) ps → Each (λ p. IsKey p.0 × P p.1) ps × HasDistinctKeys ps
entries_valid {V = V} P ps h k = (both ps h.keys k, h.distinct)
  where
    both : (qs : Pairs V) → Each IsKey (keys_of qs) → Each (λ p. P p.1) qs
        → Each (λ p. IsKey p.0 × P p.1) qs
    both [] i j = tt
    both (q ∷ qs) i j = ((i.0, j.0), both qs i.1 j.1)

-- the canonical text of a valid field spells it
pub canon_of : (v : Field) (t : List ℕ) → t ≡ canon v → Valid Rfc9651 (kind_of v) v
    → SpellsField Rfc9651 (kind_of v) t v
canon_of v t e h =
    subst (λ s. SpellsField Rfc9651 (kind_of v) s v) (sym e) (canon_spells Rfc9651 (kind_of v) v h)
