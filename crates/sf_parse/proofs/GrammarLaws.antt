-- The laws of the grammar, from those of the machine.
use Rattle.std.proofs.Common.{ℕ, List, [], ◌∷◌, ◌++◌, length, take, ◌↔◌, subst, sym}
use Rattle.sf_parse.proofs.Machines
use Rattle.sf_value.specs.Grammar.Fields.{SpellsField}
use Rattle.sf_value.specs.Grammar.Canonical.{canon}
use Rattle.sf_value.specs.Grammar.Lines.{Continues, join}
use Rattle.sf_value.specs.declared.dialect.Dialect.{Dialect}
use Rattle.sf_value.specs.declared.value.Kind.{Kind}
use Rattle.sf_parse.specs.Machine.Fields.{Residual, begin}
use Rattle.sf_parse.specs.Laws.{OneValue, IsRead, IsResidual, IsViable, IsNext, IsEnd, StopsAt}
use Rattle.sf_parse.specs.Laws.{CanonOne, AnyChunks, LinesOne}
use Rattle.sf_value.proofs.CanonicalTexts.{canon_spells}
use Rattle.sf_value.proofs.Validity.{spelled_valid}
use Rattle.sf_parse.proofs.Machine.Fields.{machine, begin_good, begins}

pub one_value : OneValue
one_value d kind t v w h k = Machines.unique (machine d) (begin kind) t v w (begin_good kind)
    ((begins d kind t v).1 h) ((begins d kind t w).1 k)

pub is_read : IsRead
is_read d kind t v =
    let a = Machines.accepted (machine d) (begin kind) t v (begin_good kind) in
    (λ h. a.0 ((begins d kind t v).1 h), λ e. (begins d kind t v).0 (a.1 e))

pub is_rest : IsResidual
is_rest d kind p s e u v =
    let a = Machines.took (machine d) (begin kind) s p (begin_good kind) e u v in
    (λ h. (begins d kind (p ++ u) v).0 (a.0 h), λ h. a.1 ((begins d kind (p ++ u) v).1 h))

residual_viable : (d : Dialect) (kind : Kind) (p : List ℕ)
    → Continues (SpellsField d kind) p ↔ Continues (Residual d (begin kind)) p
residual_viable d kind p = (
  λ (u, v, h). (u, v, (begins d kind (p ++ u) v).1 h),
  λ (u, v, h). (u, v, (begins d kind (p ++ u) v).0 h),
)

pub is_viable : IsViable
is_viable d kind p =
    let a = Machines.viable (machine d) (begin kind) p (begin_good kind) in
    (λ h. a.0 ((residual_viable d kind p).0 h), λ h. (residual_viable d kind p).1 (a.1 h))

pub is_next : IsNext
is_next d kind p s b e =
    let a = Machines.next (machine d) (begin kind) s p b (begin_good kind) e in (
      λ h. a.0 ((residual_viable d kind (p ++ b ∷ [])).0 h),
      λ h. (residual_viable d kind (p ++ b ∷ [])).1 (a.1 h),
    )

pub is_end : IsEnd
is_end d kind p s v e =
    let a = Machines.may_end (machine d) (begin kind) s p v (begin_good kind) e in
    (λ h. a.0 ((begins d kind p v).1 h), λ h. (begins d kind p v).0 (a.1 h))

pub stops_at : StopsAt
stops_at d kind p q b s e n =
    let a = Machines.stops (machine d) (begin kind) s p q b (begin_good kind) e n in
    record {
      within = a.within;
      viable = (residual_viable d kind (take (length p) (p ++ b ∷ q))).1 a.viable;
      longest = λ m w h. a.longest m w ((residual_viable d kind (take m (p ++ b ∷ q))).0 h);
    }

pub canon_one : CanonOne
canon_one d kind v w h k e = one_value d kind (canon v) v w (canon_spells d kind v h)
    (subst (λ y. SpellsField d kind y w) (sym e) (canon_spells d kind w k))

pub any_chunks : AnyChunks
any_chunks d = Machines.run_append (machine d)

pub lines_one : LinesOne
lines_one d kind lines v h = (
  λ w k. one_value d kind (join lines) w v k h,
  canon_spells d kind v (spelled_valid d kind v (join lines) h),
)
