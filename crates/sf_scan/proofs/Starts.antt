-- What bare items, parameters and Items begin with, and what can't follow them as part of them.
use Rattle.std.proofs.Common.{◌≡◌, ◌≢◌, ℕ, Bool, true, false, List, [], ◌∷◌, ◌++◌, refl, sym, ap, ◌∙◌}
use Rattle.std.proofs.Common.{subst, append_assoc, arith, not}
use Rattle.sf_value.specs.Ascii.{tab, space, comma, semicolon, open_bracket, close_bracket}
use Rattle.sf_value.specs.declared.dialect.Dialect.TheVariants.{Rfc8941, Rfc9651}
use Rattle.sf_value.specs.Grammar.Words.{Every}
use Rattle.sf_value.specs.declared.dialect.Dialect.{Dialect}
use Rattle.sf_value.specs.declared.value.Bare.{Bare}
use Rattle.sf_value.specs.Grammar.Pairs.{Pairs}
use Rattle.sf_value.specs.Grammar.Lines.{Continues}
use Rattle.sf_scan.specs.Items.{RawItem, SpellsRawItem}
use Rattle.sf_value.specs.Grammar.BareItems.{SpellsBare}
use Rattle.sf_value.specs.Grammar.Parameters.{SpellsRaw, SpellsParam}
use Rattle.sf_scan.specs.Places.{in_bare, is_bare_start, is_after, is_follow}
use Rattle.sf_scan.specs.Stops.{IsFollowed}
use Rattle.sf_value.specs.Runs.{FirstIs}
use Rattle.sf_scan.specs.declared.place.BarePlace.TheVariants as place
use Rattle.sf_scan.proofs.Bares.{first_byte, start_of, started, unstarted, some_bare}
use Rattle.sf_scan.specs.Languages.{Begun}
use Rattle.sf_scan.proofs.Enclosed.{begun_first}
use Rattle.sf_scan.proofs.Items.{raw_starts, raw_follows}
use Rattle.sf_scan.specs.Languages.{Apart}
use Rattle.sf_scan.proofs.Lists.{cons_nil, among, true_false}
use Rattle.sf_scan.proofs.Pairs.{pair_apart}
use Rattle.sf_scan.proofs.Sequences.{same_cut, then_apart, refused_followed}

-- bare items
pub bare_start : (d : Dialect) → IsFollowed (SpellsBare d) (in_bare d place.Start) []
bare_start d = record {
  viable = some_bare d;
  may = started d;
  only = λ b c. start_of d c.1 b (first_byte d b c.0 c.1 c.2);
}

start_after : (d : Dialect) (b : ℕ) → is_bare_start d b ≡ true → is_after b ≡ false
start_after d b h = by (is_after b) refl
  where
    none : (d : Dialect) → Every (λ c. not (is_bare_start d c))
        (tab ∷ space ∷ close_bracket ∷ comma ∷ [])
    none Rfc8941 = (refl, (refl, (refl, (refl, tt))))
    none Rfc9651 = (refl, (refl, (refl, (refl, tt))))

    by : (x : Bool) → is_after b ≡ x → is_after b ≡ false
    by false e = e
    by true e =
        let k = among (is_bare_start d) (tab ∷ space ∷ close_bracket ∷ comma ∷ []) (none d) b e in
        absurd (true_false (sym h ∙ k))

pub bare_begun : (d : Dialect) (t : List ℕ) (x : Bare) → SpellsBare d t x → Begun t
bare_begun d [] x h = unstarted d x h
bare_begun d (b ∷ t) x h = start_after d b (start_of d x b (first_byte d b t x h))

pub bare_some : (d : Dialect) (t : List ℕ) (x : Bare) → SpellsBare d t x → t ≢ []
bare_some d t x h e = bare_begun d [] x (subst (λ z. SpellsBare d z x) e h)

pub bare_no_bracket : (d : Dialect) → in_bare d place.Start open_bracket ≡ false
bare_no_bracket Rfc8941 = refl
bare_no_bracket Rfc9651 = refl

-- what follows an Item ends its bare item
after_follow : (b : ℕ) → is_after b ≡ true → is_follow b ≡ true
after_follow b h = grind arith

no_semicolon_after : (b : ℕ) → b ≡ semicolon → is_after b ≡ true → ⊥
no_semicolon_after b e h = grind arith

module _ (d : Dialect) (apart : Apart (SpellsBare d) is_follow) where
  abbrev Param : List ℕ → List ℕ × Bare → Type 0
  Param t p = SpellsParam d t p.0 p.1

  param_apart : Apart Param is_follow
  param_apart a p b h f c = by a h.2 h c
    where
      by : (a : List ℕ) {t : List ℕ} → a ≡ semicolon ∷ t → Param a p → Continues Param (a ++ b ∷ []) → ⊥
      by a {t} e h c =
          pair_apart d apart t p b (subst (λ z. Param z p) e h) f
          (subst (λ z. Continues Param (z ++ b ∷ [])) e c)

  -- what follows parameters ends them
  pub raw_apart : Apart (SpellsRaw d) is_after
  raw_apart t [] b h f c =
      let k : SpellsRaw d (b ∷ c.0) c.1 = subst (λ z. SpellsRaw d ((z ++ b ∷ []) ++ c.0) c.1) h c.2 in
      no_semicolon_after b (raw_starts d (b ∷ c.0) c.1 k) f
  raw_apart t (p ∷ raw) b h f c = by (λ k. raw_apart h.1 raw b h.4 f k) c.1 c.2
    where
      starts : (s : List ℕ) → FirstIs (λ x. is_follow x ≡ true) s
          → FirstIs (λ x. is_follow x ≡ true) ((s ++ b ∷ []) ++ c.0)
      starts [] g = after_follow b f
      starts (d ∷ s) g = g

      by : (Continues (SpellsRaw d) (h.1 ++ b ∷ []) → ⊥) → (more : Pairs Bare)
          → SpellsRaw d ((t ++ b ∷ []) ++ c.0) more → ⊥
      by ends [] k = none t k
        where
          none : (t : List ℕ) → (t ++ b ∷ []) ++ c.0 ≡ [] → ⊥
          none [] e = cons_nil b c.0 e
          none (d ∷ t) e = cons_nil d _ e
      by ends (q ∷ more) k =
          let moved : h.0 ++ ((h.1 ++ b ∷ []) ++ c.0) ≡ k.0 ++ k.1 =
          sym (append_assoc h.0 (h.1 ++ b ∷ []) c.0)
          ∙ (ap (λ x. x ++ c.0) (sym (append_assoc h.0 h.1 (b ∷ [])))
          ∙ (ap (λ x. (x ++ b ∷ []) ++ c.0) (sym h.2) ∙ k.2)) in
          let s = same_cut Param (SpellsRaw d) is_follow param_apart (raw_follows d) h.0
          ((h.1 ++ b ∷ []) ++ c.0) k.0 k.1 p q h.3 k.3
          (starts h.1 (raw_follows d h.1 raw h.4)) (raw_follows d k.1 more k.4) moved in
          ends (c.0, more, subst (λ y. SpellsRaw d y more) (sym s.rest) k.4)

  -- and an Item
  pub item_apart : Apart (SpellsRawItem d) is_after
  item_apart =
      then_apart (SpellsBare d) (SpellsRaw d) is_follow apart (raw_follows d) is_after after_follow raw_apart

  module _ (begun : (t : List ℕ) (x : Bare) → (SpellsBare d) t x → Begun t) where
    pub item_begun : (t : List ℕ) (i : RawItem) → SpellsRawItem d t i → Begun t
    item_begun t i h = by t h.0 h.2 h.3
      where
        by : (t p : List ℕ) → t ≡ p ++ h.1 → (SpellsBare d) p i.0 → Begun t
        by t [] e k = absurd (begun [] i.0 k)
        by [] (c ∷ p) e k = cons_nil c _ (sym e)
        by (b ∷ t) (c ∷ p) e k = begun_first (c ∷ p) h.1 b t (begun (c ∷ p) i.0 k) e

    pub item_start : (begin : ℕ → Bool) → IsFollowed (SpellsBare d) begin []
        → IsFollowed (SpellsRawItem d) begin []
    item_start begin f =
        refused_followed (SpellsBare d) (SpellsRaw d) is_follow apart (raw_follows d) begin [] ([], [], refl) f
        (λ x h. begun [] x h)
