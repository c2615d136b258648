-- What is read of a bare item is what its text spells.
use Rattle.std.proofs.Common.{◌≡◌, ℕ, pos, ◌+◌, ◌-◌, ◌≤◌, Bool, true, false, cond, List, []}
use Rattle.std.proofs.Common.{◌∷◌, ◌++◌, length, refl, sym, ap, ◌∙◌, subst, arith, append_assoc}
use Rattle.std.proofs.Common.{Option, Some, None, IfSome, length-append}
use Rattle.std.specs.Prelude.{MatchOption}
use Rattle.sf_value.specs.declared.dialect.Dialect.{Dialect}
use Rattle.sf_value.specs.declared.value.Bare.{Bare}
use Rattle.sf_value.specs.declared.value.Bare.TheVariants.{Text, Token}
use Rattle.sf_value.specs.Grammar.Strings.{escaped, is_escaped}
use Rattle.sf_value.specs.Grammar.BareItems.{SpellsBare}
use Rattle.sf_scan.specs.Leaves.{leaf_bare}
use Rattle.sf_scan.specs.Scans.{MakesLeaf}
use Rattle.sf_scan.specs.declared.place.BarePlace.{BarePlace}
use Rattle.sf_scan.specs.declared.place.Stop.{Stop}
use Rattle.sf_view.specs.declared.bare_part.Part.{Part}
use Rattle.sf_view.specs.declared.node_types.NodeType.TheVariants as type_is
use Rattle.sf_view.specs.View.{slice_at, type_of, number_of, DescribesText}
use Rattle.sf_view.specs.Scans.{IsEnd, NumberDescribes, PartDescribes, PartShows, ScansBare}
use Rattle.sf_view.proofs.Ends.{end_further, end_slice, end_within}

-- a number in any source
pub number_describes : (d : Dialect) (source : List ℕ) (p : Part) (x : Bare) → NumberDescribes p x
    → PartDescribes d source p x
number_describes d source p x t = record {
  node_type = t.node_type;
  number = t.number;
  within = let a = t.at in let b = t.length in omega arith;
  text =
      subst (λ c. DescribesText d c (slice_at p.at p.length source) x) (sym t.coded)
      (ap (λ y. slice_at p.at y source) t.length ∙ sym t.none);
}

-- where the bytes are
there : (source bytes rest : List ℕ) (whole left at n : ℕ) → IsEnd source (bytes ++ rest)
    → length (bytes ++ rest) ≡ left → length source ≡ whole → at + left ≡ whole → n ≡ length bytes
    → (at + n ≤ length source) × (slice_at at n source ≡ bytes)
there source bytes rest whole left at n i e w k size =
    let here : at + length (bytes ++ rest) ≡ length source = omega arith in (
      let within = end_within source (bytes ++ rest) bytes rest at refl here in omega arith,
      ap (λ y. slice_at at y source) size
          ∙ end_slice source (bytes ++ rest) bytes rest at i refl here,
    )

-- a bare item whose whole text is noted
pub coded_shows : (x : Bare) (spelled : List ℕ) (whole left : ℕ) (p : Part)
    → p.node_type ≡ type_of x → p.number ≡ number_of x → p.at + left ≡ whole
    → p.length ≡ length spelled → p.coded ≡ true → PartShows x spelled whole left p
coded_shows x spelled whole left p node_type number at size coded = λ d rest source h i e w.
    let t = there source spelled rest whole left p.at p.length i e w at size in record {
      node_type = node_type;
      number = number;
      within = t.0;
      text =
          subst (λ c. DescribesText d c (slice_at p.at p.length source) x) (sym coded)
          (subst (λ y. SpellsBare d y x) (sym t.1) h);
    }

-- a Token
pub token_shows : (bytes spelled : List ℕ) (whole left : ℕ) (p : Part)
    → p.node_type ≡ type_is.Token → p.number ≡ pos 0 → p.at + left ≡ whole
    → p.length ≡ length spelled → p.coded ≡ false → PartShows (Token bytes) spelled whole left p
token_shows bytes spelled whole left p node_type number at size coded = λ d rest source h i e w.
    let t = there source spelled rest whole left p.at p.length i e w at size in record {
      node_type = node_type;
      number = number;
      within = t.0;
      text =
          subst (λ c. DescribesText d c (slice_at p.at p.length source) (Token bytes)) (sym coded)
          (t.1 ∙ h.0);
    }

-- a String whose text is as long as its bytes has no escape
longer : (s : List ℕ) → length s ≤ length (escaped s)
longer [] = omega arith
longer (b ∷ s) = by (is_escaped b) (longer s)
  where
    by : (c : Bool) → length s ≤ length (escaped s)
        → length (b ∷ s) ≤ length (cond c (92 ∷ b ∷ escaped s) (b ∷ escaped s))
    by true h = omega arith
    by false h = omega arith

unescaped : (s : List ℕ) → length (escaped s) ≡ length s → escaped s ≡ s
unescaped [] h = refl
unescaped (b ∷ s) h = by (is_escaped b) h (λ k. unescaped s k)
  where
    by : (c : Bool) → length (cond c (92 ∷ b ∷ escaped s) (b ∷ escaped s)) ≡ length (b ∷ s)
        → (length (escaped s) ≡ length s → escaped s ≡ s)
        → cond c (92 ∷ b ∷ escaped s) (b ∷ escaped s) ≡ b ∷ s
    by true k more = absurd (let l = longer s in omega arith)
    by false k more = ap (λ t. b ∷ t) (more (omega arith))

pub text_shows : (bytes spelled : List ℕ) (whole left : ℕ) (p : Part)
    → p.node_type ≡ type_is.Text → p.number ≡ pos 0 → p.at + (left - 1) ≡ whole
    → p.length ≡ length spelled - 2 → length bytes + 2 ≡ length spelled → p.coded ≡ false
    → PartShows (Text bytes) spelled whole left p
text_shows bytes spelled whole left p node_type number at size all coded = λ d rest source h i e w.
    let sizes : length spelled ≡ length (escaped bytes) + 2 =
    ap length h.0 ∙ (let k = length-append (escaped bytes) (34 ∷ []) in omega arith) in
    let same : escaped bytes ≡ bytes = unescaped bytes (omega arith) in
    let inside : spelled ++ rest ≡ 34 ∷ (bytes ++ 34 ∷ rest) =
    ap (λ y. y ++ rest) (h.0 ∙ ap (λ y. 34 ∷ (y ++ 34 ∷ [])) same)
    ∙ ap (λ y. 34 ∷ y) (append_assoc bytes (34 ∷ []) rest) in
    let fewer : length (bytes ++ 34 ∷ rest) ≡ left - 1 =
    (let k = ap length inside in omega arith) in
    let t = there source bytes (34 ∷ rest) whole (left - 1) p.at p.length
    (end_further source (spelled ++ rest) (34 ∷ []) (bytes ++ 34 ∷ rest) i inside) fewer w at
    (omega arith) in
    record {
      node_type = node_type;
      number = number;
      within = t.0;
      text =
          subst (λ c. DescribesText d c (slice_at p.at p.length source) (Text bytes)) (sym coded)
          t.1;
    }

-- a leaf that was read
pub leaf_scans : (d : Dialect) (whole : ℕ) (text : List ℕ) (stop : Stop BarePlace) (p : Part)
    → MakesLeaf (λ spelled l part. PartShows (leaf_bare l) spelled whole (length text) part) d text stop p
    → ScansBare d whole text p stop.left.now
leaf_scans d whole text stop p m =
    let r = m.read.reads in
    record {
      prefix = r.stops.prefix;
      value = leaf_bare m.leaf;
      split = r.stops.split;
      spelled = r.spelled;
      describes = λ source i w. m.made_of d stop.left.now source r.spelled
          (subst (IsEnd source) r.stops.split i) (ap length (sym r.stops.split)) w;
    }

-- what follows from an answer follows from each
pub each_some : {A : Type 0} {P Q : A → Type 0} → ((a : A) → P a → Q a) → (o : Option A)
    → IfSome o P → IfSome o Q
each_some f None h = h
each_some f (Some a) h = f a h

pub each_match : {A : Type 0} {P Q : A → Type 0} (N : Type 0) → ((a : A) → P a → Q a)
    → (o : Option A) → MatchOption o N P → IfSome o Q
each_match N f None h = tt
each_match N f (Some a) h = f a h
