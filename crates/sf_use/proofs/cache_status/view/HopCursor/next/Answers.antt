use Rattle.std.proofs.Common.{◌≡◌, None, subst}
use Rattle.sf_view.specs.ItemCursors.{ReadsNextItem}
use Rattle.sf_use.proofs.CacheStatusLemmas.Views.{next_hop}
use Rattle.sf_use.proofs.cache_status.view.HopCursor.next.Goals as goal

pub returns-in_default-clause-next : goal.returns-in_default-clause-next
returns-in_default-clause-next c =
    let is = c.in_default.is in
    let none : c.in_ok-item.field-0 ≡ None = cc in
    subst (ReadsNextItem c.args.self.now.items) none c.in_ok-item.ensures.next

pub returns-clause-next : goal.returns-clause-next
returns-clause-next c =
    let n = subst (ReadsNextItem c.args.self.now.items) c.in-Some.is c.in_ok-item.ensures.next in
    next_hop c.args.self.now _ _ _ _ n.0 n.1 n.2 n.3 c.in_ok-name.ensures
    c.in_ok-params.ensures.reads
