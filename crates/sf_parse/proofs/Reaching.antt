-- What a state tells of the text by which it was reached: from the machine's laws.
use Rattle.std.proofs.Common.{◌≡◌, ℕ, suc, ◌<◌, ◌-◌, List, [], ◌∷◌, ◌++◌, length, take, Option}
use Rattle.std.proofs.Common.{Some, None, ⊎_elim, refl, sym, subst, ◌↔◌, append_assoc, append-nil}
use Rattle.std.proofs.Common.{arith, length-append, take_all}
use Rattle.std.proofs.Math.Seq.{take-append_seam}
use Rattle.sf_parse.proofs.Machines
use Rattle.sf_value.specs.Grammar.Fields.{SpellsField}
use Rattle.sf_value.specs.Grammar.Lines.{Continues}
use Rattle.sf_value.specs.declared.dialect.Dialect.{Dialect}
use Rattle.sf_value.specs.declared.value.Kind.{Kind}
use Rattle.sf_parse.specs.Machine.States.{State}
use Rattle.sf_parse.specs.Machine.Fields.{Residual, step}
use Rattle.sf_parse.specs.Reaching.{IsReachedBy, ReachesNothing, ReachesMore, ReachesViable, ReachesNext}
use Rattle.sf_parse.specs.Reaching.{ReachesEnd}
use Rattle.sf_parse.specs.Reaching.{ReachesStops, ReachesAll}
use Rattle.sf_parse.proofs.Machine.Fields.{machine, begin_good, begins}

pub reached_nothing : ReachesNothing
reached_nothing d kind = record { good = begin_good kind; completes = begins d kind }

pub reaches_more : ReachesMore
reaches_more d kind s t p x k e = record {
  good = Machines.run_good (machine d) s t x k.good e;
  completes = λ u v.
      let a = Machines.took (machine d) s t x k.good e u v in
      let b = k.completes (x ++ u) v in
      let c = append_assoc p x u in (
        λ h. subst (λ y. SpellsField d kind y v) (sym c) (b.0 (a.0 h)),
        λ h. a.1 (b.1 (subst (λ y. SpellsField d kind y v) c h)),
      );
}

reached_prefix : (d : Dialect) (kind : Kind) (s : State) (p x : List ℕ) → IsReachedBy d kind s p
    → Continues (SpellsField d kind) (p ++ x) ↔ Continues (Residual d s) x
reached_prefix d kind s p x k = (
  λ (u, v, h). (
    u,
    v,
    (k.completes (x ++ u) v).1 (subst (λ y. SpellsField d kind y v) (append_assoc p x u) h),
  ),
  λ (u, v, h). (
    u,
    v,
    subst (λ y. SpellsField d kind y v) (sym (append_assoc p x u)) ((k.completes (x ++ u) v).0 h),
  ),
)

pub reached_viable : ReachesViable
reached_viable d kind s p k = let l = (machine d).lives s k.good in
    (l.text, l.value, (k.completes l.text l.value).0 l.whole)

pub reached_next : ReachesNext
reached_next d kind s p b k =
    let a = Machines.next (machine d) s s [] b k.good refl in
    let f = reached_prefix d kind s p (b ∷ []) k in
    (λ h. a.0 (f.0 h), λ h. f.1 (a.1 h))

pub reached_end : ReachesEnd
reached_end d kind s p v k =
    let r = (machine d).reads s k.good in (
      λ h. r.ends v ((k.completes [] v).1 (subst (λ y. SpellsField d kind y v) (sym (append-nil p)) h)),
      λ e. subst (λ y. SpellsField d kind y v) (append-nil p) ((k.completes [] v).0 (r.ended v e)),
    )

pub reached_stops : ReachesStops
reached_stops d kind s p q b k n = record {
  within = omega (arith, length-append p (b ∷ q));
  viable = subst (Continues (SpellsField d kind)) (sym (take-append_seam p (b ∷ q)))
      (reached_viable d kind s p k);
  longest = λ m within h. ⊎_elim (λ l. l) (λ l. absurd (beyond m l h))
      (Machines.cases_le m (length p));
}
  where
    clash : (o : Option State) (t : State) → o ≡ None → o ≡ Some t → ⊥
    clash o t e f = cc

    beyond : (m : ℕ) → length p < m → Continues (SpellsField d kind) (take m (p ++ b ∷ q)) → ⊥
    beyond m l h =
        let cut = Machines.take_past p q b m l in
        let f = Machines.viable_prefix (machine d) (SpellsField d kind) (p
        ++ b ∷ []) (take (m - suc (length p)) q) (subst (Continues (SpellsField d kind)) cut h) in
        let r = (reached_next d kind s p b k).0 f in
        clash (step d s b) r.0 n r.1

pub reached_all : ReachesAll
reached_all d kind s p k = record {
  within = omega arith;
  viable = subst (Continues (SpellsField d kind)) (sym (take_all (length p) p (omega arith)))
      (reached_viable d kind s p k);
  longest = λ m within h. within;
}
