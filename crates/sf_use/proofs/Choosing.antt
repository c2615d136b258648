-- What fields offer, and the choice among targets.
use Rattle.std.proofs.Common.{◌≡◌, ◌⊎◌, ◌↔◌, Bool, ℕ, suc, ◌+◌, ◌<◌, List, [], ◌∷◌, length, drop}
use Rattle.std.proofs.Common.{get_or, Option, Some, None, Ok, Err, inl, inr, sym, ap, ◌∙◌}
use Rattle.std.proofs.Common.{refl, subst, take}
use Rattle.std.proofs.Common.{drop-cons, add-one, arith}
use Rattle.std.specs.Prelude.{◌≢◌, All, IfErr, IfOk, Result}
use Rattle.std.specs.List.{AllByRecursion}
use Rattle.std.proofs.lemmas.List.{get_or_read_under, take_more}
use Rattle.std.proofs.lemmas.List.Elements.{All-push}
use Rattle.http_header.specs.HeaderMap.{ContainsKey}
use Rattle.sf_value.specs.declared.dialect.Dialect.{Dialect}
use Rattle.sf_value.specs.declared.fault.OutOfMemory.{OutOfMemory as NoMemory}
use Rattle.sf_value.specs.declared.value.Dict.{Dict}
use Rattle.sf_value.specs.declared.value.Field.{Field}
use Rattle.sf_value.specs.declared.value.Field.TheVariants as field
use Rattle.sf_value.specs.declared.value.Kind.TheVariants as kind
use Rattle.sf_value.specs.declared.value.Member.{Member}
use Rattle.sf_value.specs.Grammar.Canonical.{canon}
use Rattle.sf_value.specs.Grammar.Fields.{SpellsField}
use Rattle.sf_value.specs.Grammar.Lines.{join}
use Rattle.sf_value.specs.Grammar.Pairs.{Pairs}
use Rattle.sf_value.proofs.CanonicalTexts.{canon_spells}
use Rattle.sf_value.proofs.Validity.{spelled_valid}
use Rattle.sf_parse.specs.declared.refusal.Refusal.TheVariants.{OutOfMemory, Syntax, TooLong}
use Rattle.sf_parse.specs.declared.refusal.Refusal.TheVariants.{ReadFault}
use Rattle.sf_parse.specs.Parsers.{IsOnly}
use Rattle.sf_parse.proofs.GrammarLaws.{one_value}
use Rattle.sf_field.specs.Asking.{AsksIn}
use Rattle.sf_field.specs.Headers.{Headers, lines_under}
use Rattle.sf_field.specs.Lines.{ParsesLines}
use Rattle.sf_field.specs.declared.asking.AskFault.{AskFault}
use Rattle.sf_field.specs.declared.asking.AskFault.TheVariants as fault
use Rattle.sf_field.specs.declared.consumer.UseFault.TheVariants.{NotACache}
use Rattle.sf_field.specs.declared.consumer.UseFault.TheVariants as use_fault
use Rattle.sf_use.specs.Targeted.{policy}
use Rattle.sf_use.specs.TargetedChoice.{UsableIn, IsOfferIn, IsChosenFromIn, IsOfTarget}
use Rattle.sf_use.specs.TargetedChoice.{IsReachedIn, OffersAsAsked, offer_by, unless_empty}
use Rattle.sf_use.specs.TargetedLaws.{SameText, NormalisedIn, OneChoiceIn, ChosenAsCanonicalIn}
use Rattle.sf_use.specs.declared.targeted.Choice.{Choice}
use Rattle.sf_use.specs.declared.targeted.Choice.TheVariants as choice
use Rattle.sf_use.specs.declared.targeted.Policy.{Policy}

-- fields that are Dictionaries are equal where these are
pub same_dict : (d e : Dict) → field.Dict d ≡ field.Dict e → d ≡ e
same_dict d e h = cc

module _ (dialect : Dialect) where
  -- the answer for the field of this name, if its Dictionary can be used, otherwise none
  abbrev pub OffersBy : {A : Type 0} → (Dict → A) → Headers → List ℕ → Option A → Type 0
  OffersBy g h n (Some a) = (d : Dict) × UsableIn dialect h n d × (a ≡ g d)
  OffersBy g h n None = (d : Dict) → UsableIn dialect h n d → ⊥

  -- the offer of the values under the name was asked for with this result
  abbrev pub AsksOffer : {A : Type 0} → (Dict → A) → Headers → List ℕ
      → Result (Option A) AskFault → Type 0
  AsksOffer g h n asked =
      AsksIn dialect kind.Dict (λ v. Ok (offer_by g v)) (lines_under h n) asked

  -- a field that is refused offers nothing
  refused_offer : (h : Headers) (n : List ℕ) (place : ℕ) (found : Option ℕ) (expected : ℕ)
      (may_end : Bool)
      → ParsesLines dialect kind.Dict (lines_under h n) (Err (Syntax place found expected may_end))
      → (d : Dict) → UsableIn dialect h n d → ⊥
  refused_offer h n place None expected may_end r =
      λ d u. r.0.1.unspelled (field.Dict d) u.spelled
  refused_offer h n place (Some b) expected may_end r =
      λ d u. r.0.unspelled (field.Dict d) u.spelled

  -- the field that the values spell is what the name offers
  read_offer : {A : Type 0} (g : Dict → A) (h : Headers) (n : List ℕ) (f : Field) (o : Option A)
      → ContainsKey h n → IsOnly dialect kind.Dict (join (lines_under h n)) f
      → offer_by g f ≡ o → OffersBy g h n o
  read_offer g h n (field.Item i) o there only e = absurd only.spelled
  read_offer g h n (field.List l) o there only e = absurd only.spelled
  read_offer {A = A} g h n (field.Dict d) o there only e = by d.members refl
    where
      by : (ms : Pairs Member) → d.members ≡ ms → OffersBy g h n o
      by [] is =
          let none : o ≡ None = sym e ∙ ap (λ x. unless_empty x (g d)) is in
          let empty : OffersBy g h n None =
          λ c u. u.filled
          (ap (λ x. x.members) (same_dict c d (only.only (field.Dict c) u.spelled)) ∙ is) in
          subst (OffersBy g h n) (sym none) empty
      by (m ∷ ms) is =
          let some : o ≡ Some (g d) = sym e ∙ ap (λ x. unless_empty x (g d)) is in
          let filled : d.members ≢ [] = λ none. (let z : [] ≡ m ∷ ms = sym none ∙ is in cc) in
          subst (OffersBy g h n) (sym some)
          (d, record { present = there; spelled = only.spelled; filled = filled }, refl)

  -- no source of headers fails, and each Dictionary has an answer
  pub of_target : {A : Type 0} (g : Dict → A) (h : Headers) (n : List ℕ)
      (asked : Result (Option A) AskFault) → AsksOffer g h n asked → IfErr asked IsOfTarget
  of_target g h n (Ok o) a = tt
  of_target g h n (Err (fault.Field (ReadFault place))) a = absurd a.0
  of_target g h n (Err (fault.Field OutOfMemory)) a = tt
  of_target g h n (Err (fault.Field (Syntax place found expected may_end))) a = tt
  of_target g h n (Err (fault.Field (TooLong limit))) a = tt
  of_target g h n (Err (fault.Answer (NotACache index))) a =
      let e : Ok (offer_by g a.0) ≡ Err index = a.2 in absurd cc
  of_target g h n (Err (fault.Answer use_fault.OutOfMemory)) a = tt

  -- what the name offers is what was answered for its values
  pub offers : {A : Type 0} (g : Dict → A) (h : Headers) (n : List ℕ)
      (asked : Result (Option A) AskFault) (o : Result (Option A) NoMemory) → ContainsKey h n
      → AsksOffer g h n asked → OffersAsAsked asked o → IfOk o (OffersBy g h n)
  offers g h n (Ok given) o there a m =
      let e : Ok (offer_by g a.0) ≡ Ok given = a.2 in
      let is : offer_by g a.0 ≡ given = cc in
      rw m (read_offer g h n a.0 given there a.1 is)
  offers g h n (Err (fault.Field (Syntax place found expected may_end))) o there a m =
      rw m (refused_offer h n place found expected may_end a)
  offers g h n (Err (fault.Field OutOfMemory)) (Ok given) there a m = absurd cc
  offers g h n (Err (fault.Field OutOfMemory)) (Err e) there a m = tt
  offers g h n (Err (fault.Field (TooLong limit))) (Ok given) there a m = absurd cc
  offers g h n (Err (fault.Field (TooLong limit))) (Err e) there a m = tt
  offers g h n (Err (fault.Field (ReadFault place))) o there a m = absurd m
  offers g h n (Err (fault.Answer f)) (Ok given) there a m = absurd cc
  offers g h n (Err (fault.Answer f)) (Err e) there a m = tt

  -- a target that offers nothing is passed over
  pub pass_over : (index : ℕ) (names : List (List ℕ)) (name : List ℕ) (h : Headers) (c : Choice)
      → index < length names → name ≡ get_or names index name → IsOfferIn dialect h name None
      → IsChosenFromIn dialect (index + 1) (drop (index + 1) names) h c
      → IsChosenFromIn dialect index (drop index names) h c
  pass_over index names name h c lt here offer later =
      let rest : drop index names ≡ get_or names index name ∷ drop (index + 1) names =
      rw add-one (drop-cons names index name lt) in
      subst (λ ns. IsChosenFromIn dialect index ns h c) (sym rest)
      (inr (subst (λ n. IsOfferIn dialect h n None) here offer, later))

  -- one target more is passed over
  pub passed_more : (index : ℕ) (names : List (List ℕ)) (name : List ℕ) (h : Headers)
      → index < length names → name ≡ get_or names index name → IsOfferIn dialect h name None
      → All (λ n. IsOfferIn dialect h n None) (take index names)
      → All (λ n. IsOfferIn dialect h n None) (take (index + 1) names)
  passed_more index names name h lt here offer passed =
      let Silent : List ℕ → Type 0 = λ n. IsOfferIn dialect h n None in
      subst (All Silent) (sym (take_more names index name lt))
      (All-push Silent (take index names) (get_or names index name) passed
      (subst Silent here offer))

  -- a target that is present is read, where none before it has an offer
  pub reached : {C : Type 0} (index : ℕ) (names : List (List ℕ)) (name : List ℕ) (h : Headers)
      → index < length names → name ≡ get_or names index name → ContainsKey h name
      → All (λ n. IsOfferIn dialect h n None) (take index names) → (r : Result C NoMemory)
      → IfErr r (λ e. IsReachedIn dialect names h)
  reached index names name h lt here present passed (Ok choice) = tt
  reached index names name h lt here present passed (Err e) =
      let named : name ≡ get_or names index [] =
      get_or_read_under names index (length names) name [] here lt refl in
      (index, lt, subst (ContainsKey h) named present, passed)

  -- a name has one offer at most
  one_offer : (h : Headers) (n : List ℕ) (p q : Policy) → IsOfferIn dialect h n (Some p)
      → IsOfferIn dialect h n (Some q) → p ≡ q
  one_offer h n p q a b =
      let same = one_value dialect kind.Dict (join (lines_under h n)) (field.Dict a.0)
      (field.Dict b.0) a.1.spelled b.1.spelled in
      a.2 ∙ ap policy (same_dict a.0 b.0 same) ∙ sym b.2

  one_from : (i : ℕ) (names : List (List ℕ)) (h : Headers) (c e : Choice)
      → IsChosenFromIn dialect i names h c → IsChosenFromIn dialect i names h e → c ≡ e
  one_from i [] h c e a b = a ∙ sym b
  one_from i (n ∷ ns) h c e (inl a) (inl b) =
      a.2 ∙ ap (λ p. choice.Field i p) (one_offer h n a.0 b.0 a.1 b.1) ∙ sym b.2
  one_from i (n ∷ ns) h c e (inl a) (inr b) = absurd (b.0 a.1.0 a.1.1)
  one_from i (n ∷ ns) h c e (inr a) (inl b) = absurd (a.0 b.1.0 b.1.1)
  one_from i (n ∷ ns) h c e (inr a) (inr b) = one_from (i + 1) ns h c e a.1 b.1

  pub one_choice : OneChoiceIn dialect
  one_choice targets h c e a b = one_from 0 targets h c e a b

  -- both maps can use the same Dictionaries under the name
  abbrev pub Alike : Headers → Headers → List ℕ → Type 0
  Alike h k n = (d : Dict) → UsableIn dialect h n d ↔ UsableIn dialect k n d

  -- one text, one use
  alike_text : (h k : Headers) (n : List ℕ) → SameText h k n → Alike h k n
  alike_text h k n s d = (
    λ u. record {
      present = s.present.0 u.present;
      spelled = subst (λ t. SpellsField dialect kind.Dict t (field.Dict d)) s.text u.spelled;
      filled = u.filled;
    },
    λ u. record {
      present = s.present.1 u.present;
      spelled = subst (λ t. SpellsField dialect kind.Dict t (field.Dict d)) (sym s.text) u.spelled;
      filled = u.filled;
    },
  )

  -- a text and its canonical text, one use
  alike_canon : (h k : Headers) (n : List ℕ) → NormalisedIn dialect h k n → Alike h k n
  alike_canon h k n s d =
      let t = join (lines_under h n) in
      let P : Field → Type 0 = SpellsField dialect kind.Dict t in
      let Q : Field → Type 0 = SpellsField dialect kind.Dict (join (lines_under k n)) in
      let valid = spelled_valid dialect kind.Dict s.value t s.accepted in
      let text : canon s.value ≡ join (lines_under k n) = sym (ap join s.canonical) in
      let there : Q s.value =
      subst (λ x. SpellsField dialect kind.Dict x s.value) text
      (canon_spells dialect kind.Dict s.value valid) in (
        λ u. record {
          present = s.kept;
          spelled = subst Q
              (one_value dialect kind.Dict t s.value (field.Dict d) s.accepted u.spelled) there;
          filled = u.filled;
        },
        λ u. record {
          present = s.present;
          spelled = subst P
              (one_value dialect kind.Dict (join (lines_under k n)) s.value (field.Dict d)
              there u.spelled) s.accepted;
          filled = u.filled;
        },
      )

  -- alike targets have one choice
  chosen_alike : (i : ℕ) (names : List (List ℕ)) (h k : Headers) → AllByRecursion (Alike h k) names
      → (c : Choice) → IsChosenFromIn dialect i names h c → IsChosenFromIn dialect i names k c
  chosen_alike i [] h k a c x = x
  chosen_alike i (n ∷ ns) h k a c (inl x) = inl (x.0, (x.1.0, (a.0 x.1.0).0 x.1.1, x.1.2), x.2)
  chosen_alike i (n ∷ ns) h k a c (inr x) =
      inr (λ d u. x.0 d ((a.0 d).1 u), chosen_alike (i + 1) ns h k a.1 c x.1)

  -- what holds at each place holds of each in turn
  each_in_turn : {X : Type 0} (P : X → Type 0) (xs : List X) → All P xs → AllByRecursion P xs
  each_in_turn P [] a = tt
  each_in_turn P (x ∷ xs) a =
      (a 0 x (omega arith), each_in_turn P xs (λ k d lt. a (suc k) d (omega arith)))

  alike_each : (h k : Headers) (names : List (List ℕ))
      → AllByRecursion (λ n. SameText h k n ⊎ NormalisedIn dialect h k n) names
      → AllByRecursion (Alike h k) names
  alike_each h k [] a = tt
  alike_each h k (n ∷ ns) a = (alike a.0, alike_each h k ns a.1)
    where
      alike : SameText h k n ⊎ NormalisedIn dialect h k n → Alike h k n
      alike (inl s) = alike_text h k n s
      alike (inr s) = alike_canon h k n s

  turned : (h k : Headers) (n : List ℕ) → Alike h k n → Alike k h n
  turned h k n a d = ((a d).1, (a d).0)

  turned_each : (h k : Headers) (names : List (List ℕ)) → AllByRecursion (Alike h k) names
      → AllByRecursion (Alike k h) names
  turned_each h k [] a = tt
  turned_each h k (n ∷ ns) a = (turned h k n a.0, turned_each h k ns a.1)

  pub chosen_as_canonical : ChosenAsCanonicalIn dialect
  chosen_as_canonical targets these those a c =
      let alike = alike_each these those targets (each_in_turn _ targets a) in (
        chosen_alike 0 targets these those alike c,
        chosen_alike 0 targets those these (turned_each these those targets alike) c,
      )

-- a target of which no name is there is not there
pub absent_target : (h : Headers) (names : List (List ℕ)) (i : ℕ) (name : List ℕ)
    → i < length names → name ≡ get_or names i name → All (λ n. ¬ (ContainsKey h n)) names
    → ¬ (ContainsKey h name)
absent_target h names i name lt is none =
    subst (λ n. ¬ (ContainsKey h n)) (sym is) (none i name lt)
