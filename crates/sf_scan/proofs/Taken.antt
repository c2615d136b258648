-- What is made of a leaf that was read.
use Rattle.std.proofs.Common.{◌≡◌, ℕ, ◌-◌, List, [], ◌∷◌, ◌++◌, length, take, sym, ap, ◌∙◌, subst}
use Rattle.std.proofs.Common.{append_assoc}
use Rattle.sf_value.specs.Ascii.{quote}
use Rattle.sf_value.specs.declared.dialect.Dialect.{Dialect}
use Rattle.sf_value.specs.declared.value.Bare.TheVariants as bare
use Rattle.sf_value.specs.Grammar.BareItems.{SpellsBare}
use Rattle.sf_value.specs.Grammar.Strings.{is_unescaped}
use Rattle.sf_value.specs.Grammar.Words.{Every}
use Rattle.sf_scan.specs.Leaves.{leaf_bare}
use Rattle.sf_scan.specs.Parameters.{SpellsPair, MakesParam}
use Rattle.sf_scan.specs.Places.{in_param}
use Rattle.sf_scan.specs.Scans.{ReadsLeaf, MakesLeaf}
use Rattle.sf_scan.specs.Stops.{Reads}
use Rattle.sf_scan.specs.declared.leaf.Leaf.{Leaf}
use Rattle.sf_scan.specs.declared.place.Stop.{Stop}
use Rattle.sf_scan.specs.declared.place.BarePlace.{BarePlace}
use Rattle.sf_scan.specs.declared.place.BarePlace.TheVariants as place
use Rattle.sf_scan.specs.declared.place.ParamPlace.{ParamPlace}
use Rattle.sf_scan.proofs.Lists.{front_before}
use Rattle.sf_scan.proofs.Escapes.{escaped_run, visible_run}
use Rattle.sf_scan.proofs.Bares.{string_read, past_leaf}

-- a leaf that was kept
pub leaf_read : (d : Dialect) (text : List ℕ) (r : Stop BarePlace × Leaf)
    → MakesLeaf (λ spelled leaf made. made ≡ leaf) d text r.0 r.1
    → ReadsLeaf d (SpellsBare d) text r.1 r.0
leaf_read d text r h = subst (λ l. ReadsLeaf d (SpellsBare d) text l r.0) (sym h.made_of) h.read

-- a parameter whose leaf was kept
pub param_read : (d : Dialect) (text key : List ℕ) (leaf : Leaf) (stop : Stop ParamPlace)
    → MakesParam (λ spelled l made. made ≡ l) d text key leaf stop
    → Reads (SpellsPair d) (in_param d stop.place) text (key, leaf_bare leaf) stop.left.now
param_read d text key leaf stop m =
    subst (λ l. Reads (SpellsPair d) (in_param d stop.place) text (key, leaf_bare l) stop.left.now)
    (sym m.made_of) m.reads

-- the bytes before the stop are those that spell the leaf
pub front_spells : (d : Dialect) (text front : List ℕ) (l : Leaf) (stop : Stop BarePlace)
    (r : ReadsLeaf d (SpellsBare d) text l stop)
    → front ≡ take (length text - length stop.left.now) text → front ≡ r.reads.stops.prefix
front_spells d text front l stop r e = e ∙ front_before _ _ _ r.reads.stops.split

pub leaf_taken : {M : Type 0} (makes : List ℕ → Leaf → M → Type 0) (d : Dialect)
    (text front : List ℕ) (l : Leaf) (stop : Stop BarePlace) (m : M)
    → ReadsLeaf d (SpellsBare d) text l stop
    → front ≡ take (length text - length stop.left.now) text → makes front l m
    → MakesLeaf makes d text stop m
leaf_taken makes d text front l stop m r e k = record {
  leaf = l;
  read = r;
  made_of = subst (λ s. makes s l m) (front_spells d text front l stop r e) k;
}

pub front_fits : (d : Dialect) (fits : List ℕ → Type 0) (text front : List ℕ) (l : Leaf)
    (stop : Stop BarePlace) → ReadsLeaf d (SpellsBare d) text l stop
    → front ≡ take (length text - length stop.left.now) text → fits text
    → fits (front ++ stop.left.now)
front_fits d fits text front l stop r e k =
    subst (λ s. fits (s ++ stop.left.now)) (sym (front_spells d text front l stop r e))
    (subst fits r.reads.stops.split k)

-- a Token is spelled by its bytes
token_spells : (d : Dialect) (text b : List ℕ) (l : Leaf) (stop : Stop BarePlace)
    (r : ReadsLeaf d (SpellsBare d) text l stop) → leaf_bare l ≡ bare.Token b
    → r.reads.stops.prefix ≡ b
token_spells d text b l stop r v = (subst (SpellsBare d r.reads.stops.prefix) v r.reads.spelled).0

pub token_taken : {M : Type 0} (makes : List ℕ → Leaf → M → Type 0) (d : Dialect)
    (text b : List ℕ) (l : Leaf) (stop : Stop BarePlace) (m : M)
    → ReadsLeaf d (SpellsBare d) text l stop → leaf_bare l ≡ bare.Token b → makes b l m
    → MakesLeaf makes d text stop m
token_taken makes d text b l stop m r v k = record {
  leaf = l;
  read = r;
  made_of = subst (λ s. makes s l m) (sym (token_spells d text b l stop r v)) k;
}

pub token_fits : (d : Dialect) (fits : List ℕ → Type 0) (text b : List ℕ) (l : Leaf)
    (stop : Stop BarePlace) → ReadsLeaf d (SpellsBare d) text l stop → leaf_bare l ≡ bare.Token b
    → fits text → fits (b ++ stop.left.now)
token_fits d fits text b l stop r v k =
    subst (λ s. fits (s ++ stop.left.now)) (token_spells d text b l stop r v)
    (subst fits r.reads.stops.split k)

-- a String without an escape is spelled by its bytes between quotes
pub text_taken : {M : Type 0} (makes : List ℕ → Leaf → M → Type 0) (d : Dialect)
    (text run : List ℕ) (l : Leaf) (stop : Stop BarePlace) (m : M) → Every is_unescaped run
    → text ≡ quote ∷ (run ++ quote ∷ stop.left.now) → stop.place ≡ place.Complete
    → leaf_bare l ≡ bare.Text run → makes (quote ∷ (run ++ quote ∷ [])) l m
    → MakesLeaf makes d text stop m
text_taken makes d text run l stop m u e p v k =
    let inside = run ++ quote ∷ stop.left.now in
    leaf_taken makes d text (quote ∷ (run ++ quote ∷ [])) l stop m
    (past_leaf d (SpellsBare d) (quote ∷ []) inside text l stop e
    (string_read d inside run l stop (visible_run run u)
    (ap (λ x. x ++ quote ∷ stop.left.now) (sym (escaped_run run u))) p v))
    (sym (front_before text (quote ∷ (run ++ quote ∷ [])) stop.left.now
    (e ∙ ap (λ t. quote ∷ t) (sym (append_assoc run (quote ∷ []) stop.left.now))))) k
