use Rattle.std.proofs.Common.{◌<◌, ℕ, List, ◌∷◌, sym, subst, option_copied}
use Rattle.sf_value.specs.declared.value.Member.{Member}
use Rattle.sf_value.specs.Grammar.Fields.{SpellsEntry}
use Rattle.sf_view.specs.Cursors.{Remains, left_in}
use Rattle.sf_view.proofs.Cursors.{remains_then, less_left}
use Rattle.sf_view.proofs.cursor.DictCursor.next.Goals as goal

pub returns-clause-next : goal.returns-clause-next
returns-clause-next c =
    let P = SpellsEntry c.args.self.now.dialect in
    let e = c.in_ok-key.ensures.reads in
    let p : List ℕ × Member = (c.in_ok-key.key.now, e.value) in (
      e.value,
      c.in_ok-key.ensures.shows,
      λ ps r.
          subst (λ o. Remains P (option_copied o) (p ∷ ps)) (sym c.in-Some.is)
          (remains_then P _ e.prefix _ _ p ps e.split e.spelled c.in_ok-self.ensures r),
    )

pub returns-clause-fewer : goal.returns-clause-fewer
returns-clause-fewer c =
    let e = c.in_ok-key.ensures.reads in
    subst (λ o. left_in (option_copied c.in_ok-self.field-0) < left_in (option_copied o))
    (sym c.in-Some.is) (less_left _ e.prefix _ _ e.split c.in_ok-self.ensures)
