-- A hop is added to a field as RFC 9211 states.
use Rattle.std.proofs.Common.{◌≡◌, ℕ, Bool, true, false, List as Seq, [], ◌∷◌, Option, Some}
use Rattle.std.proofs.Common.{None, Ok, Err, refl, sym, ap, ◌∙◌, subst, rules}
use Rattle.std.specs.Prelude.{codes}
use Rattle.std.specs.List.{IsDistinct}
use Rattle.std.specs.Option.{option_flatten}
use Rattle.sf_value.specs.declared.dialect.Dialect.{Dialect}
use Rattle.sf_value.specs.declared.value.Bare.{Bare}
use Rattle.sf_value.specs.declared.value.Member.TheVariants as member
use Rattle.sf_value.specs.declared.value.Field.TheVariants as field
use Rattle.sf_value.specs.declared.value.Kind.TheVariants as kind
use Rattle.sf_value.specs.Grammar.Items.{item}
use Rattle.sf_value.specs.Grammar.Lines.{join}
use Rattle.sf_value.specs.Grammar.Pairs.{HasDistinctKeys, Pairs, value_at}
use Rattle.sf_parse.specs.declared.refusal.Refusal.{Refusal}
use Rattle.sf_parse.specs.declared.refusal.Refusal.TheVariants.{OutOfMemory, Syntax, TooLong}
use Rattle.sf_parse.specs.declared.refusal.Refusal.TheVariants.{ReadFault}
use Rattle.sf_field.specs.Lines.{ParsesLines}
use Rattle.sf_use.specs.declared.cache_status.hop.Name.{Name}
use Rattle.sf_use.specs.declared.cache_status.hop.Name.TheVariants as name
use Rattle.sf_use.specs.declared.cache_status.hop.Passed.{Passed}
use Rattle.sf_use.specs.declared.cache_status.hop.Outcome.{Outcome}
use Rattle.sf_use.specs.declared.cache_status.hop.Outcome.TheVariants.{Hit, Forwarded, Conflict}
use Rattle.sf_use.specs.declared.cache_status.hop.Outcome.TheVariants.{Unsaid}
use Rattle.sf_use.specs.declared.cache_status.hop.Hop.{Hop}
use Rattle.sf_use.specs.declared.cache_status.appended.Appended.TheVariants.{Joined, Apart}
use Rattle.sf_use.specs.declared.cache_status.appended.AppendFault.TheVariants as append_fault
use Rattle.sf_use.specs.CacheStatus.Appended.{IsSyntaxFault}
use Rattle.sf_use.specs.CacheStatus.Laws.{HasStatusInRange, canonical_hop, canonical_outcome}
use Rattle.sf_use.specs.CacheStatus.Members.{entry, hit_value, is_conflict, parameters_of, passed_by}
use Rattle.sf_use.specs.CacheStatus.Members.{bare_of, table_of, why_value}
use Rattle.sf_use.proofs.CacheStatusLemmas.ReadBack.{reads_back}
use Rattle.sf_use.proofs.CacheStatusLemmas.Written.{value-present}
use Rattle.sf_rfc.specs.Rfc9651.Parsing.{parse_field, combine}
use Rattle.sf_rfc.specs.Rfc9651.Words.{and_then}
use Rattle.sf_rfc.proofs.FieldLines.{combined}
use Rattle.sf_rfc.proofs.ParsingAnswers.{answers_agree}
use Rattle.sf_rfc_use.specs.OrderedMaps.{value_of}
use Rattle.sf_rfc_use.specs.Rfc9211.{Words, AString, AToken, Parameter, Absent, Is, Mistyped, typed}
use Rattle.sf_rfc_use.specs.Rfc9211.{Handling, described, handling, handlings, a_boolean, a_token}
use Rattle.sf_rfc_use.specs.Rfc9211.{Appears, AreExclusive}
use Rattle.sf_rfc_use.specs.CacheStatusLaws.{AddingAgrees, IsOwn, as_hop, as_outcome}
use Rattle.sf_rfc_use.specs.CacheStatusLaws.{as_passed}
use Rattle.sf_rfc_use.proofs.LookUps.{found, value_combined}
use Rattle.sf_rfc_use.proofs.CacheStatusAgrees.{named_hops, ok_is}

-- the handling of the member that a hop is written as
abbrev words_of : Name → Words
words_of (name.Text t) = AString t
words_of (name.Token t) = AToken t

abbrev own_of : Hop → Handling
own_of h = described (words_of h.name) (parameters_of h)

represents_by : (n : Name) (ps : Pairs Bare)
    → handling (member.Item (item (bare_of n) ps)) ≡ Some (described (words_of n) ps)
represents_by (name.Text t) ps = refl
represents_by (name.Token t) ps = refl

represents : (h : Hop) → handling (entry h) ≡ Some (own_of h)
represents h = represents_by h.name (parameters_of h)

first_is : {X : Type 0} (x y : X) → ◌≡◌ {A = Seq X} (x ∷ []) (y ∷ []) → x ≡ y
first_is x y e = cc

own_hop : (h : Hop) → HasStatusInRange h → as_hop (own_of h) ≡ canonical_hop h
own_hop h ok =
    let one : handlings (entry h ∷ []) ≡ Some (own_of h ∷ []) =
    ap (λ o. and_then o (λ g. and_then (handlings []) (λ hs. Some (g ∷ hs)))) (represents h) in
    first_is (as_hop (own_of h)) (canonical_hop h)
    (ok_is (as_hop (own_of h) ∷ []) (canonical_hop h ∷ [])
    (sym (named_hops (entry h ∷ []) (own_of h ∷ []) one) ∙ reads_back h ok))

-- its parameters hit and fwd
distinct_table : (h : Hop) → HasDistinctKeys (table_of h)
unfolding IsDistinct
distinct_table h = search rules

value_written : (h : Hop) (k : Seq ℕ)
    → value_of k (parameters_of h) ≡ option_flatten (value_at k (table_of h))
value_written h k =
    found k (parameters_of h) ∙ value-present k (table_of h) (distinct_table h)

abbrev Exclude : Option Bare → Option Bare → Type 0
Exclude hit fwd = Appears (typed a_boolean hit) → Appears (typed a_token fwd) → ⊥

exclusive_by : (o : Outcome) → is_conflict o ≡ false
    → Exclude (hit_value o) (why_value (passed_by o))
exclusive_by Hit e = λ hit fwd. fwd
exclusive_by (Forwarded passed) e = λ hit fwd. hit
exclusive_by (Conflict passed) e = absurd cc
exclusive_by Unsaid e = λ hit fwd. fwd

exclusive : (h : Hop) → is_conflict h.outcome ≡ false → AreExclusive (own_of h)
exclusive h e =
    subst (λ hit. Exclude hit (value_of (codes "fwd") (parameters_of h)))
    (sym (value_written h (codes "hit")))
    (subst (Exclude (hit_value h.outcome)) (sym (value_written h (codes "fwd")))
    (exclusive_by h.outcome e))

own : (h : Hop) → HasStatusInRange h → is_conflict h.outcome ≡ false → IsOwn h (own_of h)
own h ok e = (own_hop h ok, exclusive h e)

-- a hop that is a conflict has both
conflict_parts : (p : Parameter Bool) (o : Option Passed) → is_conflict (as_outcome p o) ≡ true
    → Appears p × (o ≡ None → ⊥)
conflict_parts (Is true) None e = absurd cc
conflict_parts (Is true) (Some x) e = (tt, λ f. cc)
conflict_parts (Is false) None e = absurd cc
conflict_parts (Is false) (Some x) e = absurd cc
conflict_parts Absent None e = absurd cc
conflict_parts Absent (Some x) e = absurd cc
conflict_parts Mistyped None e = absurd cc
conflict_parts Mistyped (Some x) e = absurd cc

appears_by : (h : Handling) → (as_passed h ≡ None → ⊥) → Appears h.fwd
appears_by h some = go h.fwd refl
  where
    go : (p : Parameter (Seq ℕ)) → h.fwd ≡ p → Appears p
    go (Is token) e = tt
    go Mistyped e = tt
    go Absent e = absurd (some (rw e refl))

same_conflict : (o : Outcome) → is_conflict (canonical_outcome o) ≡ is_conflict o
same_conflict Hit = refl
same_conflict (Forwarded passed) = refl
same_conflict (Conflict passed) = refl
same_conflict Unsaid = refl

refused : (hop : Hop) → is_conflict hop.outcome ≡ true → (own : Handling) → IsOwn hop own → ⊥
refused hop e own (same, apart) =
    let both : is_conflict (as_outcome own.hit (as_passed own)) ≡ true =
    ap (λ (h : Hop). is_conflict h.outcome) same ∙ same_conflict hop.outcome ∙ e in
    let k = conflict_parts own.hit (as_passed own) both in
    apart k.0 (appears_by own k.1)

-- lines that are malformed
no_value : (d : Dialect) (lines : Seq (Seq ℕ)) (refusal : Refusal)
    → ParsesLines d kind.List lines (Err refusal) → IsSyntaxFault refusal
    → parse_field d kind.List (combine lines) ≡ None
no_value d lines (Syntax place found expected may_end) h s =
    ap (parse_field d kind.List) (combined lines)
    ∙ answers_agree d kind.List (join lines) (Err (Syntax place found expected may_end)) h.0
no_value d lines OutOfMemory h s = absurd s
no_value d lines (TooLong limit) h s = absurd s
no_value d lines (ReadFault place) h s = absurd s

pub adding_agrees : AddingAgrees
adding_agrees d lines hop (Ok (Joined list)) ok (l, is, members, c) = (
  l.members,
  own_of hop,
  value_combined d kind.List lines (field.List l) is.spelled,
  record { value = entry hop; preserves = members; represents = represents hop },
  own hop ok c,
)
adding_agrees d lines hop (Ok (Apart list refusal)) ok (parses, syntax, members, c) = (
  own_of hop,
  no_value d lines refusal parses syntax,
  record { value = entry hop; preserves = members; represents = represents hop },
  own hop ok c,
)
adding_agrees d lines hop (Err append_fault.Conflict) ok c = refused hop c
adding_agrees d lines hop (Err append_fault.OutOfMemory) ok c = tt
