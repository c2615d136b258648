-- What normalising answers, by the canonical text.
use Rattle.std.proofs.Common.{◌≡◌, ℕ, ◌*◌, ◌≤◌, List, ◌++◌, length, drop, sym, ap, ◌∙◌, subst}
use Rattle.sf_value.specs.declared.dialect.Dialect.{Dialect}
use Rattle.sf_value.specs.declared.value.Kind.{Kind}
use Rattle.sf_value.proofs.LengthBound.{canon_bound}
use Rattle.sf_view.specs.CanonicalParts.{IsCanonicalOf}
use Rattle.sf_c.specs.declared.refusal.SyntaxRefusal.{SyntaxRefusal}
use Rattle.sf_c.specs.declared.status.Status.TheVariants.{Answered}
use Rattle.sf_c.specs.Normal.{TextOutput, Normalises}

abbrev output : List ℕ → ℕ → SyntaxRefusal → TextOutput
output b n r = record { buffer = b; required = n; refusal = r }

short : (d : Dialect) (k : Kind) (t c : List ℕ) (n : ℕ) (h : IsCanonicalOf d k t c)
    → n ≡ length c → 5 * n ≤ 8 * length t
short d k t c n h e =
    subst (λ y. 5 * y ≤ 8 * length t) (sym (e ∙ ap length h.canonical))
    (canon_bound d k h.value t h.only.spelled)

pub is_answered : (d : Dialect) (k : Kind) (t c old new : List ℕ) (m n : ℕ) (r s : SyntaxRefusal)
    → IsCanonicalOf d k t c → s ≡ r → n ≡ length c → n ≤ length old
    → new ≡ c ++ drop (length c) old
    → Normalises (output old m r) (output new n s) t d k Answered
is_answered d k t c old new m n r s h refusal e within prefix = (
  h.value,
  h.only,
  e ∙ ap length h.canonical,
  short d k t c n h e,
  within,
  prefix ∙ ap (λ y. y ++ drop (length y) old) h.canonical,
  refusal,
)
