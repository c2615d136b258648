use Rattle.std.proofs.Common.{◌∷◌, refl, sym, subst, option_copied}
use Rattle.sf_value.specs.declared.value.Member.TheVariants as member
use Rattle.sf_value.specs.Grammar.Pairs.{settle}
use Rattle.sf_value.specs.Grammar.Items.{item}
use Rattle.sf_value.specs.Grammar.InnerLists.{SpellsMember}
use Rattle.sf_view.specs.Cursors.{Remains}
use Rattle.sf_view.proofs.ItemCursors.{item_remains}
use Rattle.sf_view.proofs.item_cursor.ItemCursor.next.Goals as goal

pub returns-clause-next : goal.returns-clause-next
returns-clause-next c =
    let d = c.args.self.now.dialect in
    let e = c.in_ok-bare.ensures in (
      e.value,
      e.borrowed,
      refl,
      λ ps ms r.
          subst
          (λ o. Remains (SpellsMember d) (option_copied o)
          (member.Item (item e.value (settle ps)) ∷ ms))
          (sym c.in-Some.is)
          (item_remains d _ _ r.prefix r.after _ r.start ps ms e r.split r.spelled r.next r.remains),
    )
