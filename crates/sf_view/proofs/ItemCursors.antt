-- Items of a List and their parameters that are read one after another.
use Rattle.std.proofs.Common.{◌≡◌, ℕ, List, ◌∷◌, ◌++◌, Option, Some}
use Rattle.std.proofs.Common.{refl, sym, ap, ◌∙◌, subst, append_assoc}
use Rattle.sf_value.specs.declared.dialect.Dialect.{Dialect}
use Rattle.sf_value.specs.declared.value.Bare.{Bare}
use Rattle.sf_value.specs.declared.value.Member.{Member}
use Rattle.sf_value.specs.declared.value.Member.TheVariants as member
use Rattle.sf_value.specs.Grammar.Pairs.{Pairs, settle}
use Rattle.sf_value.specs.Grammar.Parameters.{SpellsRaw}
use Rattle.sf_value.specs.Grammar.Items.{item}
use Rattle.sf_value.specs.Grammar.InnerLists.{SpellsMember}
use Rattle.sf_view.specs.declared.view.BareView.{BareView}
use Rattle.sf_view.specs.Reads.{ReadsBare, ReadsParam}
use Rattle.sf_view.specs.declared.item_cursor.ParamCursor.{ParamCursor}
use Rattle.sf_view.specs.Cursors.{IsNext, Remains}
use Rattle.sf_view.specs.ItemCursors.{RemainsInItem}
use Rattle.sf_view.proofs.Cursors.{remains_then}

module _ (d : Dialect) where
  -- an Item before the members that remain
  pub item_remains : (text rest prefix after : List ℕ) (b : BareView) (start : Option (List ℕ))
      (ps : Pairs Bare) (ms : List Member) → (r : ReadsBare d text b rest) → rest ≡ prefix ++ after
      → SpellsRaw d prefix ps → IsNext after start → Remains (SpellsMember d) start ms
      → Remains (SpellsMember d) (Some text) (member.Item (item r.value (settle ps)) ∷ ms)
  item_remains text rest prefix after b start ps ms r e h n left =
      remains_then (SpellsMember d) text (r.prefix ++ prefix) after start
      (member.Item (item r.value (settle ps))) ms
      (r.split ∙ ap (λ y. r.prefix ++ y) e ∙ sym (append_assoc r.prefix prefix after))
      (r.prefix, prefix, refl, r.spelled, (ps, refl, h)) n left

-- a parameter before those that remain
pub param_remains : (c e : ParamCursor) (text key : List ℕ) (b : BareView) (ps : Pairs Bare)
    (ms : List Member) → (r : ReadsParam c.dialect (59 ∷ text) key b e.rest.now)
    → c.rest.now ≡ 59 ∷ text → e.dialect ≡ c.dialect → RemainsInItem e ps ms
    → RemainsInItem c ((key, r.value) ∷ ps) ms
param_remains c e text key b ps ms r begins same i = record {
  prefix = r.prefix ++ i.prefix;
  after = i.after;
  start = i.start;
  split =
      begins
      ∙ r.split
      ∙ ap (λ y. r.prefix ++ y) i.split
      ∙ sym (append_assoc r.prefix i.prefix i.after);
  spelled =
      (r.prefix, i.prefix, refl, r.spelled, subst (λ d. SpellsRaw d i.prefix ps) same i.spelled);
  next = i.next;
  remains = subst (λ d. Remains (SpellsMember d) i.start ms) same i.remains;
}
