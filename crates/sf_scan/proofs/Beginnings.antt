-- Languages whose texts are the same from a first byte on.
use Rattle.std.proofs.Common.{◌≡◌, ℕ, Bool, true, false, List, [], ◌∷◌, ◌++◌, sym, ◌∙◌, subst}
use Rattle.std.proofs.Common.{Result, Ok, Err}
use Rattle.sf_value.specs.declared.dialect.Dialect.{Dialect}
use Rattle.sf_value.specs.declared.value.Bare.{Bare}
use Rattle.sf_value.specs.Grammar.Lines.{Continues}
use Rattle.sf_scan.specs.Scans.{ScansLeaf}
use Rattle.sf_scan.specs.Stops.{Past, IsFollowed, Stops}
use Rattle.sf_value.specs.Runs.{Lacks}
use Rattle.sf_scan.specs.declared.leaf.Leaf.{Leaf}
use Rattle.sf_scan.specs.declared.place.Stop.{Stop}
use Rattle.sf_scan.specs.declared.place.BarePlace.{BarePlace}
use Rattle.sf_scan.proofs.Languages.{SameTexts, same_followed, past_followed, same_reads}
use Rattle.sf_scan.proofs.Languages.{same_refuses}

-- reading does not stop before the first byte if some text of the language begins with it
not_at_start : {V : Type 0} (L : List ℕ → V → Type 0) (next : ℕ → Bool) (b : ℕ)
    (more left prefix : List ℕ) → Continues L (b ∷ []) → b ∷ more ≡ prefix ++ left
    → IsFollowed L next prefix → Lacks next left → (rest : List ℕ) × (prefix ≡ b ∷ rest)
not_at_start L next b more left [] c e f k =
    let no : next b ≡ false = subst (Lacks next) (sym e) k in
    let yes : next b ≡ true = f.only b c in
    absurd (cc (sym no ∙ yes))
not_at_start L next b more left (x ∷ rest) c e f k = (rest, cc)

begun_followed : {V W : Type 0} (L : List ℕ → V → Type 0) (M : List ℕ → W → Type 0)
    (into : V → W) (next : ℕ → Bool) (b : ℕ) (rest : List ℕ)
    → SameTexts (Past (b ∷ []) L) (Past (b ∷ []) M) into → IsFollowed L next (b ∷ rest)
    → IsFollowed M next (b ∷ rest)
begun_followed L M into next b rest s f =
    past_followed M next (b ∷ []) rest (same_followed _ _ into s next rest
    (record { viable = f.viable; may = f.may; only = f.only }))

abbrev begun_stops : {V W : Type 0} (L : List ℕ → V → Type 0) (M : List ℕ → W → Type 0)
    (into : V → W) (next : ℕ → Bool) (b : ℕ) (text left rest : List ℕ)
    → SameTexts (Past (b ∷ []) L) (Past (b ∷ []) M) into → (h : Stops L next text left)
    → h.prefix ≡ b ∷ rest → Stops M next text left
begun_stops L M into next b text left rest s h e = record {
  prefix = b ∷ rest;
  split = subst (λ p. text ≡ p ++ left) e h.split;
  followed = begun_followed L M into next b rest s (subst (IsFollowed L next) e h.followed);
  blocked = h.blocked;
}

-- what is read of one is read of the other
pub begun_scans : (d : Dialect) (L M : List ℕ → Bare → Type 0) (b : ℕ) (more text : List ℕ)
    (r : Result (Stop BarePlace × Leaf) (Stop BarePlace)) → text ≡ b ∷ more → Continues L (b ∷ [])
    → SameTexts (Past (b ∷ []) L) (Past (b ∷ []) M) (λ x. x) → ScansLeaf d L text r
    → ScansLeaf d M text r
begun_scans d L M b more text (Ok r) e c s h =
    let t = h.reads.stops in
    let k = not_at_start L _ b more _ t.prefix c (sym e ∙ t.split) t.followed t.blocked in
    record {
      reads = record {
        stops = begun_stops L M (λ x. x) _ b text _ k.0 s t k.1;
        spelled = s.up k.0 _ (subst (λ p. L p _) k.1 h.reads.spelled);
      };
      ends = h.ends;
    }
begun_scans d L M b more text (Err stop) e c s h =
    let t = h.refuses.stops in
    let k = not_at_start L _ b more _ t.prefix c (sym e ∙ t.split) t.followed t.blocked in
    record {
      refuses = record {
        stops = begun_stops L M (λ x. x) _ b text _ k.0 s t k.1;
        unspelled = λ x m. let v = s.down k.0 x m in
            h.refuses.unspelled v.0 (subst (λ p. L p v.0) (sym k.1) v.1);
      };
      open_still = h.open_still;
    }

-- two languages with the same texts
pub same_scans : (d : Dialect) (L M : List ℕ → Bare → Type 0) (text : List ℕ)
    (r : Result (Stop BarePlace × Leaf) (Stop BarePlace)) → SameTexts L M (λ x. x) → ScansLeaf d L text r
    → ScansLeaf d M text r
same_scans d L M text (Ok r) s h =
    record { reads = same_reads L M (λ x. x) s _ text _ _ h.reads; ends = h.ends }
same_scans d L M text (Err stop) s h = record {
  refuses = same_refuses L M (λ x. x) s _ text _ h.refuses;
  open_still = h.open_still;
}
