use Rattle.std.proofs.Common.{[], ◌∷◌, ◌++◌, sym, ap, ◌∙◌, subst}
use Rattle.std.specs.Prelude.{if◌then◌else◌}
use Rattle.sf_use.specs.CacheStatus.Views.{ReadsNextHop}
use Rattle.sf_use.proofs.CacheStatusLemmas.Scanned.{HopsSoFar, none_read, hop_read, path_read}
use Rattle.sf_use.proofs.cache_status.scanning.scan_hops.Goals as goal

pub loop-hops-init : goal.loop-hops-init
loop-hops-init c =
    subst (HopsSoFar c.args.dialect c.args.text.now c.new_in-cursor.result)
    (sym c.new-hops.ensures.items)
    (none_read c.args.dialect c.args.text.now c.new_in-cursor.result c.new_in-cursor.ensures)

pub loop-hops-preserved : goal.loop-hops-preserved
loop-hops-preserved c =
    let hops = c.loop-hops.hops.items in
    let more = hops ++ c.in_ok-hop.hop ∷ [] in
    let pushed = c.push.ensures.items
    ∙ ap (λ b. if b then more else hops) c.if-is_err.ensures.negation in
    hop_read c.args.dialect c.args.text.now c.loop-hops.cursor c.next.new.self c.in-Some.view hops
    c.push.new.self.items c.in_ok-hop.hop c.loop-hops.invariant
    (subst (ReadsNextHop c.loop-hops.cursor c.next.new.self) c.in-Some.is
    c.in_ok-view.ensures.next)
    c.in_ok-hop.ensures pushed

pub returns : goal.returns
returns c =
    path_read c.args.dialect c.args.text.now c.loop-hops.cursor c.next.new.self c.in_ok-view.field-0
    c.loop-hops.hops.items c.loop-hops.invariant c.in_ok-view.ensures.next c.in_default.is
