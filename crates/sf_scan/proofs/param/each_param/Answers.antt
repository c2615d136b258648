use Rattle.std.proofs.Common.{append_assoc, refl, ap, sym, ◌∙◌, ◌∷◌, ◌++◌, [], subst, ◌==◌, ◌&&◌, ◌||◌}
use Rattle.std.proofs.Common.{ℕ, List}
use Rattle.sf_value.specs.Ascii.{semicolon}
use Rattle.sf_value.specs.declared.value.Bare.{Bare}
use Rattle.sf_scan.specs.Leaves.{leaf_bare}
use Rattle.sf_scan.specs.Places.{in_param}
use Rattle.sf_scan.proofs.Bares.{lacks_none}
use Rattle.sf_scan.proofs.Raws.{whole_none, whole_more, raw_refused, raw_read, made_more, Whole}
use Rattle.sf_scan.proofs.Taken.{param_read}
use Rattle.sf_scan.proofs.param.each_param.Goals as goal

pub loop-more-init : goal.loop-more-init
loop-more-init g c =
    let d = c.args.dialect in
    ([], [], refl, whole_none d, lacks_none _, refl, refl)

pub returns-in-Err : goal.returns-in-Err
returns-in-Err g c =
    let d = c.args.dialect in
    let i = c.loop-more.invariant in
    let r = c.in-Err.ensures in
    record {
      refuses = raw_refused d _ _ i.0 i.1 i.3 _ _ c.in-Some.more.now _
          (i.2 ∙ ap (λ t. i.0 ++ t) c.in-Some.ensures) r.refuses _
          (λ b. ap (λ e. in_param d c.in-Err.stop.place b || (e && b == semicolon)) r.open_still);
      before = i.0;
      after = c.in-Some.more.now;
      raw = i.1;
      split = i.2 ∙ ap (λ t. i.0 ++ t) c.in-Some.ensures;
      spelled = i.3.spelled;
      made = i.5;
      open_still = r.open_still;
    }

pub loop-more-preserved : goal.loop-more-preserved
loop-more-preserved g c =
    let d = c.args.dialect in
    let i = c.loop-more.invariant in
    let r = param_read d _ _ _ _ c.in-Ok.ensures in
    let q = r.stops in
    let x : List ℕ × Bare = (c.in-Ok.key.now, leaf_bare c.in-Ok.leaf) in (
      i.0 ++ semicolon ∷ q.prefix,
      i.1 ++ x ∷ [],
      i.2
          ∙ (ap (λ t. i.0 ++ t) (c.in-Some.ensures ∙ ap (λ t. semicolon ∷ t) q.split)
          ∙ sym (append_assoc i.0 (semicolon ∷ q.prefix) c.in-Ok.stop.left.now)),
      subst
          (λ e. Whole d (in_param d c.in-Ok.stop.place) e
          (i.0 ++ semicolon ∷ q.prefix) (i.1 ++ x ∷ []))
          (sym c.in-Ok.ensures.ends)
          (whole_more d _ _ i.0 i.1 i.3 _ q.prefix x r.spelled
          q.followed),
      q.blocked,
      ◌∙◌ {b = g.M.Maker.with c.loop-more.maker x.0 x.1}
          c.in_default-parameter.ensures
          (ap (λ m. g.M.Maker.with m x.0 x.1) i.5
          ∙ sym (made_more g.M.Maker.with c.args.maker.now i.1 x)),
      c.in-Ok.ensures.ends,
    )

pub returns : goal.returns
returns g c =
    let d = c.args.dialect in
    let i = c.loop-more.invariant in
    record {
      raw = i.1;
      reads = raw_read d _ _ i.0 i.1 i.3 _ _ i.2 i.4 c.in_default.ensures;
      made = i.5;
      ends = i.6;
    }
