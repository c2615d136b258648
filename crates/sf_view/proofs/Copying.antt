-- Parts are copied one after another.
use Rattle.std.proofs.Common.{◌≡◌, ℕ, List, [], ◌∷◌, ◌++◌, sym, ap, ◌∙◌}
use Rattle.std.proofs.Common.{append_assoc, subst, Option, Some, None}
use Rattle.sf_value.specs.declared.dialect.Dialect.{Dialect}
use Rattle.sf_value.specs.declared.value.Field.{Field}
use Rattle.sf_value.specs.declared.value.Item.{Item}
use Rattle.sf_value.specs.declared.value.Kind.{Kind}
use Rattle.sf_value.specs.Grammar.Words.{Each}
use Rattle.sf_value.specs.Grammar.Pairs.{Pairs, HasDistinctKeys, settle}
use Rattle.sf_value.specs.Grammar.Valid.{ValidItem, Valid}
use Rattle.sf_value.proofs.Settling.{put_more, put_settled}
use Rattle.sf_value.proofs.Validity.{spelled_valid}
use Rattle.sf_view.specs.declared.node.Node.{Node}
use Rattle.sf_view.specs.declared.view.View.{View}
use Rattle.sf_view.specs.Copies.{IsCopy, IsFieldOf}
use Rattle.sf_view.specs.View.{DescribesField}
use Rattle.sf_view.specs.Views.{IsViewed}
use Rattle.sf_view.specs.Parts.{SplitsOff}

-- of these parts some are copied, and the rest of the nodes describes the others, and a fact holds
-- of each of those
pub record PartsLeft {X : Type 0} (T : List Node → List X → Type 0) (E : X → Type 0)
    (nodes : List Node) (all xs : List X) : Type 0 where
  pub left : List X
  pub describes : T nodes left
  pub each : Each E left
  pub same : all ++ left ≡ xs

module _ {X : Type 0} (P : List Node → X → Type 0) (T : List Node → List X → Type 0)
    (E : X → Type 0) where
  pub parts_more : (nodes prefix later : List Node) (all more xs : List X) (x : X)
      → PartsLeft T E nodes all xs
      → ((ys : List X) → T nodes ys → SplitsOff P T ys prefix later)
      → ((y : X) → P prefix y → E y → x ≡ y)
      → more ≡ all ++ x ∷ [] → PartsLeft T E later more xs
  parts_more nodes prefix later all more xs x l splits copy e =
      let h = splits l.left l.describes in
      let each = subst (Each E) h.parts l.each in
      record {
        left = h.others;
        describes = h.rest;
        each = each.1;
        same =
            ap (λ y. y ++ h.others) e
            ∙ append_assoc all (x ∷ []) h.others
            ∙ ap (λ y. all ++ y ∷ h.others) (copy h.value h.first each.0)
            ∙ ap (λ y. all ++ y) (sym h.parts)
            ∙ l.same;
      }

  -- a first part that has no copy
  pub parts_stuck : (nodes prefix later : List Node) (all xs : List X)
      → PartsLeft T E nodes all xs
      → ((ys : List X) → T nodes ys → SplitsOff P T ys prefix later)
      → ((y : X) → P prefix y → E y → ⊥) → ⊥
  parts_stuck nodes prefix later all xs l splits stuck =
      let h = splits l.left l.describes in
      let each = subst (Each E) h.parts l.each in
      stuck h.value h.first each.0

-- the same of parts with keys, of which a later one takes the place of one with its key
pub record PairsLeft {X : Type 0} (T : List ℕ → List Node → Pairs X → Type 0)
    (E : List ℕ × X → Type 0) (view : View) (all ps : Pairs X) : Type 0 where
  pub left : Pairs X
  pub describes : T view.text.now view.nodes.now left
  pub each : Each E left
  pub same : settle (all ++ left) ≡ settle ps

module _ {X : Type 0} (P : List ℕ → List Node → List ℕ × X → Type 0)
    (T : List ℕ → List Node → Pairs X → Type 0) (E : List ℕ × X → Type 0)
    (view part others : View) (all ps : Pairs X) (l : PairsLeft T E view all ps)
    (text : (part.text.now ≡ view.text.now) × (others.text.now ≡ view.text.now))
    (splits : (qs : Pairs X) → T view.text.now view.nodes.now qs
    → SplitsOff (P view.text.now) (T view.text.now) qs part.nodes.now others.nodes.now) where
  pub pairs_more : (more : Pairs X) (key : List ℕ) (value : X)
      → ((q : List ℕ × X) → P part.text.now part.nodes.now q → E q → (key, value) ≡ q)
      → more ≡ settle (all ++ (key, value) ∷ []) → PairsLeft T E others more ps
  pairs_more more key value copy e =
      let h = splits l.left l.describes in
      let each = subst (Each E) h.parts l.each in
      record {
        left = h.others;
        describes = rw text.1 h.rest;
        each = each.1;
        same =
            ap (λ y. settle (y ++ h.others)) e
            ∙ put_more all key value h.others
            ∙ ap (λ y. settle (all ++ y ∷ h.others))
            (copy h.value (rw text.0 h.first) each.0)
            ∙ ap (λ y. settle (all ++ y)) (sym h.parts)
            ∙ l.same;
      }

  -- a first part that has no copy
  pub pairs_stuck : ((q : List ℕ × X) → P part.text.now part.nodes.now q → E q → ⊥) → ⊥
  pairs_stuck stuck =
      let h = splits l.left l.describes in
      let each = subst (Each E) h.parts l.each in
      stuck h.value (rw text.0 h.first) each.0

pub settled_more : {X : Type 0} (all more : Pairs X) (key : List ℕ) (value : X)
    → more ≡ settle (all ++ (key, value) ∷ []) → settle more ≡ more
settled_more all more key value e =
    ap settle e ∙ put_settled all key value ∙ sym e

-- a copy of a valid value
pub copy_is : {X : Type 0} (V : Type 0) (x : X) (o : Option X) → IsCopy V x o → V → o ≡ Some x
copy_is V x None h v = absurd (h v)
copy_is V x (Some y) h v = ap Some h

-- no key is repeated in valid Items
pub items_distinct : (d : Dialect) (is : List Item) → Each (ValidItem d) is
    → Each (λ i. HasDistinctKeys i.params) is
items_distinct d [] v = tt
items_distinct d (i ∷ is) v = (v.0.1.1, items_distinct d is v.1)

-- the field of a view is the one that its text spells
pub viewed_is : (d : Dialect) (kind : Kind) (t : List ℕ) (view : View) (o : Option Field)
    → IsViewed d kind t view
    → ((v : Field) → DescribesField d view.text.now view.nodes.now v → Valid d kind v
    → o ≡ Some v) → IsFieldOf d kind t o
viewed_is d kind t view o w copy =
    let t' = subst (λ y. DescribesField d y view.nodes.now w.value) (sym w.text) w.describes in
    let e = copy w.value t' (spelled_valid d kind w.value t w.only.spelled) in
    subst (IsFieldOf d kind t) (sym e) w.only
