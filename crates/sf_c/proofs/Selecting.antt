-- Which fields of a target list are ignored, and which one is obeyed.
use Rattle.std.proofs.Common.{◌≡◌, ℕ, ◌+◌, ◌<◌, List as Seq, [], ◌∷◌, ◌++◌, length, take, drop}
use Rattle.std.proofs.Common.{suc, get_or, refl, sym, ap, ◌∙◌, drop-cons, arith}
use Rattle.std.proofs.lemmas.List.{length-take-le, take-append-drop, take_more}
use Rattle.sf_value.specs.declared.dialect.Dialect.{Dialect}
use Rattle.sf_value.specs.declared.dialect.Dialect.TheVariants.{Rfc9651}
use Rattle.sf_value.specs.declared.value.Field.TheVariants as field
use Rattle.sf_c.specs.declared.cache_rules.RulesFlags.{RulesFlags}
use Rattle.sf_c.specs.declared.span.Span.{Span}
use Rattle.sf_c.specs.declared.status.Status.{Status}
use Rattle.sf_c.specs.declared.status.Status.TheVariants as status
use Rattle.sf_c.specs.declared.cache_control.PolicyFlags.{PolicyFlags}
use Rattle.sf_c.specs.Rules.{RulesCache, RulesOutput}
use Rattle.sf_c.specs.Selecting.{AreIgnored, ChoiceOutput, HasPolicy, HasRules, IsIgnored}
use Rattle.sf_c.specs.Selecting.{IsReached, Selects}
use Rattle.sf_c.specs.Spans.{IsSpanWithin, span_bytes}

pub ignored_empty : (old new : RulesOutput) (t : Seq ℕ) (k : Dialect)
    → RulesCache old new t k status.Empty → IsIgnored k t
ignored_empty old new t k h =
    λ d s.
    let same = h.1.only (field.Dict d) s in
    let dict : d ≡ h.0 = cc in
    rw dict h.2.0

pub ignored_refused : (old new : RulesOutput) (t : Seq ℕ) (k : Dialect)
    → RulesCache old new t k status.Refused → IsIgnored k t
ignored_refused old new t k h = λ d s. absurd (h.0.5.unspelled (field.Dict d) s)

-- one more field that is ignored
ignored_push : (k : Dialect) (texts : Seq ℕ) (ps : Seq Span) (p : Span) → AreIgnored k texts ps
    → IsSpanWithin texts p → IsIgnored k (span_bytes texts p) → AreIgnored k texts (ps ++ p ∷ [])
ignored_push k texts [] p h w i = (w, i, tt)
ignored_push k texts (q ∷ ps) p h w i = (h.0, h.1, ignored_push k texts ps p h.2 w i)

-- the field at a place is reached if those before it are ignored
pub reached : (k : Dialect) (texts : Seq ℕ) (fields : Seq Span) (i : ℕ) (d : Span)
    → i < length fields → AreIgnored k texts (take i fields)
    → IsReached k texts fields (take i fields) (get_or fields i d)
reached k texts fields i d h a =
    let parts = sym (take-append-drop i fields) in
    let rest = drop-cons fields i d h in
    (drop (suc i) fields, parts ∙ ap (λ z. take i fields ++ z) rest, a)

-- the index of that field
pub index_of : (fields : Seq Span) (i : ℕ) → i < length fields → i ≡ length (take i fields)
index_of fields i h = sym (length-take-le i fields (omega arith))

-- one more field
pub ignored_more : (k : Dialect) (texts : Seq ℕ) (fields : Seq Span) (i : ℕ) (d : Span)
    → i < length fields → AreIgnored k texts (take i fields)
    → IsSpanWithin texts (get_or fields i d)
    → IsIgnored k (span_bytes texts (get_or fields i d)) → AreIgnored k texts (take (i + 1) fields)
ignored_more k texts fields i d h a w g =
    rw (take_more fields i d h) (ignored_push k texts (take i fields) (get_or fields i d) a w g)

-- nothing was written
abbrev output : {A : Type 0} → ℕ → A → ChoiceOutput A
output i p = record { index = i; answer = p }

pub same_output : {A : Type 0} (i j : ℕ) (p q : A) → i ≡ j → p ≡ q → output i p ≡ output j q
same_output i j p q e f = rw (e, f) refl

-- the policy of the field that was chosen for its directives
pub policy_selected : (texts : Seq ℕ) (fields : Seq Span) (i j : ℕ) (r n : RulesFlags)
    (p : PolicyFlags)
    → Selects HasRules (output i r) (output j n) texts fields Rfc9651 status.Answered
    → Selects HasPolicy (output i p) (output j n.policy) texts fields Rfc9651 status.Answered
policy_selected texts fields i j r n p (before, q, reached, at, within, (d, only, some, says)) =
    (before, q, reached, at, within, (d, only, some, says.0))

-- nothing was chosen
pub none_selected : (texts : Seq ℕ) (fields : Seq Span) (i j : ℕ) (r n : RulesFlags)
    (p : PolicyFlags) (s : Status) → (s ≡ status.Answered → ⊥)
    → Selects HasRules (output i r) (output j n) texts fields Rfc9651 s
    → Selects HasPolicy (output i p) (output j p) texts fields Rfc9651 s
none_selected texts fields i j r n p status.Answered not h = absurd (not refl)
none_selected texts fields i j r n p status.Empty not (a, same) =
    (a, same_output j i p p (ap (λ o. o.index) same) refl)
none_selected texts fields i j r n p status.BadCall not (before, q, a, w, same) =
    (before, q, a, w, same_output j i p p (ap (λ o. o.index) same) refl)
none_selected texts fields i j r n p status.OutOfMemory not (before, q, a, w, same) =
    (before, q, a, w, same_output j i p p (ap (λ o. o.index) same) refl)
none_selected texts fields i j r n p s not h = absurd h
