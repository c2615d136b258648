-- Canonical texts as lines.
use Rattle.std.proofs.Common.{◌≡◌, ℕ, ◌-◌, ◌*◌, ◌^◌, ◌<◌, ◌≤◌, List, ◌∷◌, [], length, sym, ap, ◌∙◌}
use Rattle.std.proofs.Common.{subst, Result, Ok, Err, Some, None, MatchResult, arith}
use Rattle.std.proofs.Common.{Vec, Global, get_or}
use Rattle.sf_value.specs.declared.dialect.Dialect.{Dialect}
use Rattle.sf_value.specs.declared.dialect.Dialect.TheVariants.{Rfc9651}
use Rattle.sf_value.specs.declared.value.Field.{Field}
use Rattle.sf_value.specs.declared.value.Kind.{Kind}
use Rattle.sf_value.specs.Grammar.Canonical.{canon}
use Rattle.sf_value.specs.Grammar.Fields.{SpellsField}
use Rattle.sf_value.specs.Grammar.Lines.{join}
use Rattle.sf_value.proofs.CanonicalTexts.{canon_spells}
use Rattle.sf_value.proofs.Validity.{spelled_valid}
use Rattle.sf_value.proofs.LengthBound.{canon_bound}
use Rattle.sf_parse.specs.declared.refusal.Refusal.{Refusal}
use Rattle.sf_parse.specs.declared.refusal.Refusal.TheVariants.{OutOfMemory, Syntax, TooLong}
use Rattle.sf_parse.specs.declared.refusal.Refusal.TheVariants.{ReadFault}
use Rattle.sf_parse.specs.Parsers.{IsOnly, Parses}
use Rattle.sf_view.specs.CanonicalParts.{IsCanonicalOf}
use Rattle.sf_parse.proofs.GrammarLaws.{one_value, canon_one}
use Rattle.sf_field.proofs.OneText.{parsed_alike, parsed_lines}
use Rattle.sf_field.specs.Asking.{MeansAsCanonicalIn}
use Rattle.sf_field.specs.Normal.{NormalisesTo}
use Rattle.sf_field.specs.Lines.{ParsesLines}
use Rattle.sf_field.specs.Laws.{CanonSettles, EqualByText, NormalIsOne, TwiceIsOnce}
use Rattle.sf_field.specs.Laws.{BuiltSpells, IsBack, BuiltIsParsed, BuiltLineIsParsed}

is_only : (d : Dialect) (kind : Kind) (t : List ℕ) (v : Field) → SpellsField d kind t v
    → IsOnly d kind t v
is_only d kind t v h = record { spelled = h; only = λ w k. one_value d kind t w v k h }

-- the canonical text of a valid value spells it and no other
pub built_spells : BuiltSpells
built_spells d kind v h = is_only d kind (canon v) v (canon_spells d kind v h)

-- what parsing such a text answers
pub built_is_parsed : BuiltIsParsed
built_is_parsed d kind v h r k = back r k
  where
    one : IsOnly d kind (canon v) v
    one = built_spells d kind v h

    back : (r : Result Field Refusal) → Parses d kind (canon v) r → IsBack v r
    back (Ok w) k = one.only w k.spelled
    back (Err OutOfMemory) k = tt
    back (Err (Syntax place None expected may_end)) k = k.1.unspelled v one.spelled
    back (Err (Syntax place (Some b) expected may_end)) k = k.unspelled v one.spelled
    back (Err (TooLong limit)) k = k
    back (Err (ReadFault place)) k = k

pub built_line_is_parsed : BuiltLineIsParsed
built_line_is_parsed d kind v h short r k = back r k
  where
    back : (r : Result Field Refusal) → ParsesLines d kind (canon v ∷ []) r → IsBack v r
    back (Ok w) k = built_is_parsed d kind v h (Ok w) k.0
    back (Err OutOfMemory) k = tt
    back (Err (Syntax place None expected may_end)) k =
        built_is_parsed d kind v h (Err (Syntax place None expected may_end)) k.0
    back (Err (Syntax place (Some b) expected may_end)) k =
        built_is_parsed d kind v h (Err (Syntax place (Some b) expected may_end)) k.0
    back (Err (TooLong limit)) k = too_long limit k.0 k.1
      where
        too_long : (limit : ℕ) → limit ≡ 2 ^ 64 - 1 → limit < length (canon v) → ⊥
        too_long limit e l = omega (arith, e, l, short)
    back (Err (ReadFault place)) k = k.0

canon_only : (d : Dialect) (kind : Kind) (t : List ℕ) (v : Field) → SpellsField d kind t v
    → IsOnly d kind (canon v) v
canon_only d kind t v h = built_spells d kind v (spelled_valid d kind v t h)

-- the canonical text of the value that the lines spell is their normal text
pub normal : (kind : Kind) (lines : List (List ℕ)) (v : Field) (c : List ℕ)
    → IsOnly Rfc9651 kind (join lines) v → c ≡ canon v → NormalisesTo kind lines c
normal kind lines v c h e = record {
  value = v;
  spelled = h;
  canonical = e;
  again = subst (λ t. IsOnly Rfc9651 kind t v) (sym e)
      (canon_only Rfc9651 kind (join lines) v h.spelled);
  equal = λ w k. (
    λ i. canon_one Rfc9651 kind w v k (spelled_valid Rfc9651 kind v (join lines) h.spelled)
        (i ∙ e),
    λ i. ap canon i ∙ sym e,
  );
  short = subst (λ t. 5 * length t ≤ 8 * length (join lines)) (sym e)
      (canon_bound Rfc9651 kind v (join lines) h.spelled);
}

-- what normalising the joined text of lines returns
pub normalised : (kind : Kind) (lines : List (List ℕ)) (t : List ℕ)
    (r : Result (Vec ℕ Global) Refusal) → t ≡ join lines → length t < 2 ^ 63
    → MatchResult r (λ c. IsCanonicalOf Rfc9651 kind t c.items)
    (λ e. Parses Rfc9651 kind t (Err e))
    → MatchResult r (λ c. NormalisesTo kind lines c.items)
    (λ e. ParsesLines Rfc9651 kind lines (Err e))
normalised kind lines t (Ok c) same small h =
    normal kind lines h.value c.items (subst (λ y. IsOnly Rfc9651 kind y h.value) same h.only)
    h.canonical
normalised kind lines t (Err e) same small h =
    parsed_alike Rfc9651 kind (t ∷ []) lines (Err e) same
    (parsed_lines Rfc9651 kind (t ∷ []) (Err e) small h)

-- one line is its own joined text
pub join_one : (lines : List (List ℕ)) (line : List ℕ) → length lines ≡ 1
    → line ≡ get_or lines 0 line → line ≡ join lines
join_one [] line e is = absurd (omega (arith, e))
join_one (l ∷ []) line e is = is
join_one (l ∷ m ∷ ls) line e is = absurd (omega (arith, e))

pub canon_settles : CanonSettles
canon_settles d kind lines v h =
    let only = canon_only d kind (join lines) v h in
    (only, λ w k. ap canon (only.only w k))

pub twice_is_once : TwiceIsOnce
twice_is_once kind lines c n = (
  normal kind (c ∷ []) n.value c n.again n.canonical,
  λ e m. m.canonical ∙ ap canon (n.again.only m.value m.spelled.spelled) ∙ sym n.canonical,
)

pub equal_by_text : EqualByText
equal_by_text d kind these those v w h k = (
  λ e. canon_one d kind v w (spelled_valid d kind v (join these) h)
      (spelled_valid d kind w (join those) k) e,
  λ e. ap canon e,
)

pub normal_is_one : NormalIsOne
normal_is_one kind these those c e p q =
    let texts = equal_by_text Rfc9651 kind these those p.value q.value p.spelled.spelled
    q.spelled.spelled in (
      λ i. texts.0 (sym p.canonical ∙ i ∙ q.canonical),
      λ i. p.canonical ∙ texts.1 i ∙ sym q.canonical,
    )

-- what lines mean, their canonical text means
pub means_as_canonical : {A : Type 0} (d : Dialect) (kind : Kind) (meaning : Field → Result A ℕ)
    (lines : List (List ℕ)) → MeansAsCanonicalIn d kind meaning lines
means_as_canonical d kind meaning lines v h meant =
    let here = is_only d kind (join lines) v h in
    let there = canon_only d kind (join lines) v h in (
      λ m. (v, there, ap meaning (m.1.only v h) ∙ m.2),
      λ m. (v, here, ap meaning (m.1.only v there.spelled) ∙ m.2),
    )
