-- Lines that come after members, parsed after one member in their place.
use Rattle.std.proofs.Common.{◌≡◌, ℕ, ◌+◌, ◌-◌, ◌≤◌, Bool, List, [], ◌∷◌, ◌++◌, length}
use Rattle.std.proofs.Common.{Option, Some, None, Err, inl, inr, refl, sym, ap, ◌∙◌, subst}
use Rattle.std.proofs.Common.{append_assoc, length-append, arith}
use Rattle.std.proofs.Math.Seq.{take-append_seam}
use Rattle.sf_value.specs.declared.dialect.Dialect.{Dialect}
use Rattle.sf_value.specs.declared.value.Bare.TheVariants.{Token}
use Rattle.sf_value.specs.declared.value.Field.{Field}
use Rattle.sf_value.specs.declared.value.Kind.{Kind}
use Rattle.sf_value.specs.declared.value.Kind.TheVariants as kind
use Rattle.sf_value.specs.declared.value.Member.TheVariants as member
use Rattle.sf_value.specs.Grammar.Pairs.{settle}
use Rattle.sf_value.specs.Grammar.Items.{item}
use Rattle.sf_value.specs.Grammar.Fields.{SpellsField, list_of, dict_of, flag}
use Rattle.sf_value.specs.Grammar.Lines.{join, Viable}
use Rattle.sf_parse.specs.declared.refusal.Refusal.TheVariants.{Syntax}
use Rattle.sf_parse.specs.Interchange.{AreInterchangeable, HasMember}
use Rattle.sf_parse.specs.Parsers.{IsOnly, Parses}
use Rattle.sf_value.specs.Grammar.Refusals.{IsSyntax}
use Rattle.sf_parse.proofs.Interchange.{refusals_move, comma_viable, members_forgotten}
use Rattle.sf_view.proofs.Members.{only_of}
use Rattle.sf_tool.specs.Lines.{lines_of}
use Rattle.sf_tool.specs.Run.{joined}
use Rattle.sf_tool.specs.Scanning.{SpellsMembers, StopsAfter, StopsAt}

-- the field of these members
field_of : (d : Dialect) (k : Kind) (t : List ℕ) → SpellsMembers d k t
    → (v : Field) × SpellsField d k t v × HasMember v
field_of d kind.Item t h = absurd h
field_of d kind.List t (x, xs, h) = (list_of (x ∷ xs), h, omega arith)
field_of d kind.Dict t (x, xs, h) = (dict_of (settle (x ∷ xs)), (x ∷ xs, refl, h), omega arith)

-- a List or a Dictionary of one member
abbrev one : List ℕ
one = 97 ∷ []

-- where a text has members, it may have this one
one_member : (d : Dialect) (k : Kind) (t : List ℕ) → SpellsMembers d k t → SpellsMembers d k one
one_member d kind.Item t h = absurd h
one_member d kind.List t h = (
  member.Item (item (Token one) []),
  [],
  (
    [],
    one,
    [],
    refl,
    tt,
    (one, [], refl, (one, [], refl, (refl, (refl, tt)), ([], refl, refl)), refl),
    tt,
  ),
)
one_member d kind.Dict t h = (
  (one, flag []),
  [],
  (
    [],
    one,
    [],
    refl,
    tt,
    (one, [], refl, ([], (refl, tt), inr ([], refl, refl, ([], refl, refl))), refl),
    tt,
  ),
)

-- members, a comma and a space
abbrev ahead : List ℕ → List ℕ
ahead t = t ++ 44 ∷ 32 ∷ []

-- they are completed as the one member is
as_one : (d : Dialect) (k : Kind) (t : List ℕ) → SpellsMembers d k t
    → AreInterchangeable d k (ahead t) (ahead one)
as_one d k t h =
    let v = field_of d k t h in
    let w = field_of d k one (one_member d k t h) in
    members_forgotten d k t one (32 ∷ []) (32 ∷ []) v.0 w.0 v.1 v.2 (refl, tt) w.1 w.2 (refl, tt)

one_viable : (d : Dialect) (k : Kind) (t : List ℕ) → SpellsMembers d k t
    → Viable d k (ahead one)
one_viable d k t h =
    let w = field_of d k one (one_member d k t h) in
    comma_viable d k one (32 ∷ []) w.0 w.1 w.2 (refl, tt)

module _ (d : Dialect) (k : Kind) (input rest : List ℕ) (place : ℕ)
    (s : StopsAfter d k input rest place) where
  -- what is left, joined
  abbrev left : List ℕ
  left = join (s.line ∷ s.more)

  whole_is : ahead s.text ++ left ≡ joined input
  whole_is = append_assoc s.text (44 ∷ 32 ∷ []) left ∙ sym s.whole

  one_is : join (one ∷ lines_of rest) ≡ ahead one ++ left
  one_is = ap (λ ls. join (one ∷ ls)) s.left

  -- the one member and what is left are accepted, and so the input is
  pub accepted_after : (v : Field) → IsOnly d k (join (one ∷ lines_of rest)) v
      → (w : Field) × IsOnly d k (joined input) w
  accepted_after v h =
      let Spells : List ℕ → Type 0 = λ t. (w : Field) × SpellsField d k t w in
      let all = (as_one d k s.text s.members left).1 (subst Spells one_is (v, h.spelled)) in
      let w = subst Spells whole_is all in
      (w.0, only_of d k (joined input) w.0 w.1)

  module _ (at : ℕ) (found : Option ℕ) (expected : ℕ) (may_end : Bool)
      (r : IsSyntax d k (join (one ∷ lines_of rest)) at found expected may_end) where
    known : IsSyntax d k (ahead one ++ left) at found expected may_end
    known = subst (λ t. IsSyntax d k t at found expected may_end) one_is r

    -- the refusal is after the one member
    after : 3 ≤ at
    after =
        let l = length-append (ahead one) left in
        known.is_place.longest 3 (omega (arith, l))
        (subst (Viable d k) (sym (take-append_seam (ahead one) left)) (one_viable d k s.text s.members))

    within : place + at ≤ length (joined input) + 3
    within =
        let a = known.is_place.within in
        let b = length-append (ahead one) left in
        let c = ap length whole_is in
        let e = length-append (ahead s.text) left in
        let f = length-append s.text (44 ∷ 32 ∷ []) in
        omega (arith, a, b, c, e, f, s.place_is)

    moved : IsSyntax d k (joined input) (place + at - 3) found expected may_end
    moved =
        let n = at - 3 in
        let e : at ≡ length (ahead one) + n = omega (arith, after) in
        let m = refusals_move d k (ahead s.text) (ahead one) left n found expected may_end
        (as_one d k s.text s.members)
        (subst (λ i. IsSyntax d k (ahead one ++ left) i found expected may_end) e known) in
        let f = length-append s.text (44 ∷ 32 ∷ []) in
        let i : length (ahead s.text) + n ≡ place + at - 3 =
        omega (arith, after, f, s.place_is) in
        subst (λ i. IsSyntax d k (joined input) i found expected may_end) i
        (subst (λ t. IsSyntax d k t (length (ahead s.text) + n) found expected may_end) whole_is m)

-- a refusal of the one member and what is left, moved, is that of the input
pub refused_after : (d : Dialect) (k : Kind) (input rest : List ℕ) (place at : ℕ)
    (found : Option ℕ) (expected : ℕ) (may_end : Bool) → StopsAfter d k input rest place
    → Parses d k (join (one ∷ lines_of rest)) (Err (Syntax at found expected may_end))
    → Parses d k (joined input) (Err (Syntax (place + at - 3) found expected may_end))
refused_after d k input rest place at None expected may_end s r =
    (r.0, moved d k input rest place s at None expected may_end r.1)
refused_after d k input rest place at (Some b) expected may_end s r =
    moved d k input rest place s at (Some b) expected may_end r

-- where such a refusal is
pub refused_within : (d : Dialect) (k : Kind) (input rest : List ℕ) (place at : ℕ)
    (found : Option ℕ) (expected : ℕ) (may_end : Bool) → StopsAfter d k input rest place
    → Parses d k (join (one ∷ lines_of rest)) (Err (Syntax at found expected may_end))
    → (3 ≤ at) × (place + at ≤ length (joined input) + 3)
refused_within d k input rest place at None expected may_end s r = (
  after d k input rest place s at None expected may_end r.1,
  within d k input rest place s at None expected may_end r.1,
)
refused_within d k input rest place at (Some b) expected may_end s r = (
  after d k input rest place s at (Some b) expected may_end r,
  within d k input rest place s at (Some b) expected may_end r,
)

-- the scan did not stop at the first line
pub stopped_after : (d : Dialect) (k : Kind) (input rest : List ℕ) (place : ℕ)
    → StopsAt d k input rest place → (place ≡ 0 → ⊥) → StopsAfter d k input rest place
stopped_after d k input rest place (inl e) n = absurd (n e)
stopped_after d k input rest place (inr s) n = s
