-- A Dictionary with another priority, member by member.
use Rattle.std.proofs.Common.{◌≡◌, ℕ, ℤ, pos, ◌<◌, ◌≤◌, ◌∷◌, ◌++◌, Bool, true, false, List, []}
use Rattle.std.proofs.Common.{Option, None, Some, refl, sym, ap, subst, ◌∙◌, append-nil}
use Rattle.std.proofs.Common.{append_assoc, arith, rules}
use Rattle.std.specs.Prelude.{codes, IfSome, ◌^◌}
use Rattle.std.specs.Int.RustNames.{FitsSigned}
use Rattle.std.proofs.Common.{w64}
use Rattle.sf_use.specs.Ranges.{IsUrgency}
use Rattle.sf_c.proofs.WrittenHops.{small_fits}
use Rattle.std.specs.List.{IsDistinct}
use Rattle.std.specs.Str.{bytes_eq}
use Rattle.std.proofs.lemmas.Bool.Decides.{nat_tests}
use Rattle.sf_value.proofs.EntryMaps.{settle-push}
use Rattle.sf_value.proofs.Settling.{distinct-settle, key_is}
use Rattle.sf_value.proofs.Validity.{spelled_valid}
use Rattle.sf_value.specs.declared.dialect.Dialect.TheVariants.{Rfc9651}
use Rattle.sf_value.specs.declared.value.Dict.{Dict as Dictionary}
use Rattle.sf_value.specs.declared.value.Field.{Field}
use Rattle.sf_value.specs.declared.value.Field.TheVariants as field
use Rattle.sf_value.specs.declared.value.Kind.TheVariants as kind
use Rattle.sf_value.specs.declared.value.Member.{Member}
use Rattle.sf_value.specs.Grammar.Canonical.{canon, canon_entry, canon_series}
use Rattle.sf_value.specs.Grammar.Pairs.{Pairs, HasDistinctKeys, put}
use Rattle.sf_value.specs.Grammar.Tokens.{IsKey}
use Rattle.sf_value.specs.Grammar.Valid.{Valid, ValidEntries, ValidMember}
use Rattle.sf_value.specs.Grammar.Words.{Each}
use Rattle.sf_parse.specs.Parsers.{IsOnly}
use Rattle.sf_view.specs.declared.view.View.{View}
use Rattle.sf_view.specs.Views.{IsViewed}
use Rattle.sf_view.specs.Parts.{SplitsOff}
use Rattle.sf_view.specs.View.{DescribesEntries, DescribesField, DescribesMember}
use Rattle.sf_value.specs.Devices.{SinkState}
use Rattle.sf_write.proofs.Following.{Remains, remains_less, then}
use Rattle.sf_write.specs.Writing.{Follows}
use Rattle.sf_write.specs.declared.sending.WriteFault.{WriteFault}
use Rattle.std.specs.Fmt.{signed_decimal}
use Rattle.std.specs.Prelude.{Result}
use Rattle.sf_use.specs.declared.priority.Asked.{Asked}
use Rattle.sf_use.specs.PriorityUpdate.{updated}
use Rattle.sf_c.specs.declared.priority.PriorityFlags.{PriorityFlags}
use Rattle.sf_c.specs.declared.status.Status.{Status}
use Rattle.sf_c.specs.declared.status.Status.TheVariants.{Answered, Short, OutOfMemory}
use Rattle.sf_c.specs.Normal.{TextOutput}
use Rattle.sf_c.specs.Priorities.{params_of_flags, urgency_at}
use Rattle.sf_c.specs.PriorityChanges.{ChangesBy}
use Rattle.sf_c.specs.PriorityChanges as change
use Rattle.sf_c.specs.PriorityParts.{changed, incremental_member, inserted, inserted_at}
use Rattle.sf_c.specs.PriorityParts.{only_if, replaced, separator, unless}
use Rattle.sf_c.specs.PriorityParts.{series_text, urgency_member, with_i, with_u}
use Rattle.sf_c.specs.TextBuffers.{PutsText, Writes}
use Rattle.sf_c.proofs.NodeTexts.{changes_priority}

-- a key is not both u and i
not_both : (k : List ℕ) → bytes_eq (codes "u") k ≡ true → bytes_eq (codes "i") k ≡ false
not_both k e =
    subst (λ q. bytes_eq (codes "i") q ≡ false) (key_is (codes "u") k e) (search rules)

-- the first member, and those after it
pub first_inserted : (u : Option ℕ) (i : Option Bool) (p : List ℕ × Member) (ps : Pairs Member)
    → inserted u i (p ∷ ps)
    ≡ changed u i p
    ∷ inserted (unless (bytes_eq (codes "u") p.0) u) (unless (bytes_eq (codes "i") p.0) i) ps
first_inserted u i p ps =
    by u i (bytes_eq (codes "u") p.0) (bytes_eq (codes "i") p.0) refl refl
  where
    by : (u : Option ℕ) (i : Option Bool) (x y : Bool) → bytes_eq (codes "u") p.0 ≡ x
        → bytes_eq (codes "i") p.0 ≡ y
        → inserted u i (p ∷ ps)
        ≡ changed u i p
        ∷ inserted (unless (bytes_eq (codes "u") p.0) u) (unless (bytes_eq (codes "i") p.0) i) ps
    by u i true true e f = let never = not_both p.0 e in absurd cc
    by None None true false e f = rw (e, f)
    by None (Some b) true false e f = rw (e, f)
    by (Some n) None true false e f = rw (e, f)
    by (Some n) (Some b) true false e f = rw (e, f)
    by None None false true e f = rw (e, f)
    by None (Some b) false true e f = rw (e, f)
    by (Some n) None false true e f = rw (e, f)
    by (Some n) (Some b) false true e f = rw (e, f)
    by None None false false e f = rw (e, f)
    by None (Some b) false false e f = rw (e, f)
    by (Some n) None false false e f = rw (e, f)
    by (Some n) (Some b) false false e f = rw (e, f)

-- what is written at a key
changed_is : (u : Option ℕ) (i : Option Bool) (k : List ℕ) (m : Member)
    → changed u i (k, m)
    ≡ replaced (only_if (bytes_eq (codes "u") k) u) (only_if (bytes_eq (codes "i") k) i) (k, m)
changed_is u i k m = by u (bytes_eq (codes "u") k) (bytes_eq (codes "i") k) refl refl
  where
    by : (u : Option ℕ) (x y : Bool) → bytes_eq (codes "u") k ≡ x → bytes_eq (codes "i") k ≡ y
        → changed u i (k, m)
        ≡ replaced (only_if (bytes_eq (codes "u") k) u) (only_if (bytes_eq (codes "i") k) i) (k, m)
    by u true true e f = let never = not_both k e in absurd cc
    by None true false e f = rw (e, f) refl
    by (Some n) true false e f = rw e refl
    by u false true e f = rw (e, f) refl
    by u false false e f = rw (e, f) refl

-- what is set is written only at its key
named_if : {X : Type 0} (name k : List ℕ) (x y : Option X) → y ≡ only_if (bytes_eq name k) x
    → IfSome y (λ _. k ≡ name)
named_if {X = X} name k x y e =
    subst (λ o. IfSome o (λ _. k ≡ name)) (sym e) (by (bytes_eq name k) refl x)
  where
    by : (b : Bool) → bytes_eq name k ≡ b → (z : Option X) → IfSome (only_if b z) (λ _. k ≡ name)
    by true f None = tt
    by true f (Some z) = sym (key_is name k f)
    by false f z = tt

pub first_text : (first : Bool) (p : List ℕ × Member) (ps : Pairs Member)
    → series_text first (p ∷ ps) ≡ separator first ++ (canon_entry p ++ series_text false ps)
first_text true p ps = refl
first_text false p ps = refl

-- without members, what is new
pub new_urgency : (n : ℕ) (i : Option Bool) (first : Bool)
    → series_text first (with_i i (with_u (Some n) []))
    ≡ separator first
    ++ (canon_entry (codes "u", urgency_member n) ++ series_text false (with_i i []))
new_urgency n None first = first_text first (codes "u", urgency_member n) []
new_urgency n (Some b) first =
    first_text first (codes "u", urgency_member n) ((codes "i", incremental_member b) ∷ [])

pub new_incremental : (b : Bool) (first : Bool) → series_text first (with_i (Some b) [])
    ≡ separator first ++ canon_entry (codes "i", incremental_member b)
new_incremental b first =
    first_text first (codes "i", incremental_member b) []
    ∙ ap (λ t. separator first ++ t) (append-nil (canon_entry (codes "i", incremental_member b)))

pub none_new : (first : Bool) → series_text first [] ≡ []
none_new true = refl
none_new false = refl

-- of the members some are written, with what is set, and the others are still to be
pub record Unput (view : View) (R : List ℕ → Type 0) (first : Bool) (u : Option ℕ)
    (i : Option Bool) : Type 0 where
  pub rest : Pairs Member
  pub describes : DescribesEntries Rfc9651 view.text.now view.nodes.now rest
  pub unwritten : R (series_text first (inserted u i rest))

module _ {S : Type 0} {state : S → SinkState} {gives : S → List ℕ → S → Type 0} where
  -- one more is written
  pub unput_less : {start now mid next : S} {before sent separated after : Result ℕ WriteFault}
      {all : List ℕ} (view part others : View) (first : Bool) (u v x : Option ℕ)
      (i j y : Option Bool) (key : List ℕ)
      → Unput view (Remains state gives start now before sent all) first u i
      → (part.text.now ≡ view.text.now) × (others.text.now ≡ view.text.now)
      → ((ps : Pairs Member) → DescribesEntries Rfc9651 view.text.now view.nodes.now ps
      → SplitsOff (λ ns p. DescribesMember Rfc9651 view.text.now p.0 ns p.1)
      (DescribesEntries Rfc9651 view.text.now) ps part.nodes.now others.nodes.now)
      → Follows state gives now mid sent separated (separator first)
      → ((k : List ℕ) (m : Member)
      → DescribesMember Rfc9651 part.text.now k part.nodes.now m
      → IfSome x (λ _. k ≡ codes "u") → IfSome y (λ _. k ≡ codes "i")
      → Follows state gives mid next separated after (canon_entry (replaced x y (k, m))))
      → ((k : List ℕ) (m : Member)
      → DescribesMember Rfc9651 part.text.now k part.nodes.now m → key ≡ k)
      → x ≡ only_if (bytes_eq (codes "u") key) u → y ≡ only_if (bytes_eq (codes "i") key) i
      → v ≡ unless (bytes_eq (codes "u") key) u → j ≡ unless (bytes_eq (codes "i") key) i
      → Unput others (Remains state gives start next before after all) false v j
  unput_less {mid = mid} {next = next} {separated = separated} {after = after}
      view part others first u v x i j y key w text splits apart write named p q a b =
      let h = splits w.rest w.describes in
      let k : List ℕ = h.value.0 in
      let m : Member = h.value.1 in
      let d : DescribesMember Rfc9651 part.text.now k part.nodes.now m = rw text.0 h.first in
      let same : key ≡ k = named k m d in
      let u' : Option ℕ = unless (bytes_eq (codes "u") k) u in
      let i' : Option Bool = unless (bytes_eq (codes "i") k) i in
      let c : u' ≡ v = ap (λ k. unless (bytes_eq (codes "u") k) u) (sym same) ∙ sym a in
      let e : i' ≡ j = ap (λ k. unless (bytes_eq (codes "i") k) i) (sym same) ∙ sym b in
      let x' : x ≡ only_if (bytes_eq (codes "u") k) u =
      p ∙ ap (λ k. only_if (bytes_eq (codes "u") k) u) same in
      let y' : y ≡ only_if (bytes_eq (codes "i") k) i =
      q ∙ ap (λ k. only_if (bytes_eq (codes "i") k) i) same in
      let is : replaced x y (k, m) ≡ changed u i h.value =
      ap (λ o. replaced o y (k, m)) x'
      ∙ ap (λ o. replaced (only_if (bytes_eq (codes "u") k) u) o (k, m)) y'
      ∙ sym (changed_is u i k m) in
      let written : Follows state gives mid next separated after (canon_entry (changed u i h.value)) =
      subst (λ z. Follows state gives mid next separated after (canon_entry z)) is
      (write k m d (named_if (codes "u") k u x x') (named_if (codes "i") k i y y')) in
      let chunk : List ℕ = separator first ++ canon_entry (changed u i h.value) in
      let split : series_text first (inserted u i w.rest)
      ≡ chunk ++ series_text false (inserted v j h.others) =
      ap (λ ps. series_text first (inserted u i ps)) h.parts
      ∙ ap (series_text first) (first_inserted u i h.value h.others)
      ∙ first_text first (changed u i h.value) (inserted u' i' h.others)
      ∙ sym (append_assoc (separator first) (canon_entry (changed u i h.value))
      (series_text false (inserted u' i' h.others)))
      ∙ ap (λ x. chunk ++ series_text false (inserted x i' h.others)) c
      ∙ ap (λ y. chunk ++ series_text false (inserted v y h.others)) e in
      record {
        rest = h.others;
        describes = rw text.1 h.rest;
        unwritten = remains_less w.unwritten split (then apart written);
      }

  -- all are written
  pub unput_none : {start now end : S} {before sent r : Result ℕ WriteFault} {all : List ℕ}
      (view : View) (first : Bool) (u : Option ℕ) (i : Option Bool)
      → Unput view (Remains state gives start now before sent all) first u i
      → ((ps : Pairs Member) → DescribesEntries Rfc9651 view.text.now view.nodes.now ps → ps ≡ [])
      → Follows state gives now end sent r (series_text first (inserted u i []))
      → Follows state gives start end before r all
  unput_none {now = now} {end = end} {sent = sent} {r = r} view first u i w none write =
      w.unwritten.finish end r
      (subst (λ ps. Follows state gives now end sent r (series_text first (inserted u i ps)))
      (sym (none w.rest w.describes)) write)

pub urgency_fits : (z : ℤ) (n : ℕ) → z ≡ pos n → IsUrgency n → FitsSigned w64 z
urgency_fits z n e h = small_fits z (rw e (omega (arith, h)))

pub urgency_text : (n : ℕ) → canon_entry (codes "u", urgency_member n)
    ≡ codes "u=" ++ signed_decimal (pos n)
urgency_text n = ap (λ t. codes "u=" ++ t) (append-nil (signed_decimal (pos n)))

-- under distinct keys to put is to insert
put_is : (ps : Pairs Member) (k : List ℕ) (m : Member) → HasDistinctKeys ps
    → put ps k m ≡ inserted_at ps k m
unfolding IsDistinct
put_is [] k m d = refl
put_is (p ∷ ps) k m d = by (bytes_eq k p.0) refl (put_is ps k m d.1)
  where
    by : (x : Bool) → bytes_eq k p.0 ≡ x → put ps k m ≡ inserted_at ps k m
        → put (p ∷ ps) k m ≡ inserted_at (p ∷ ps) k m
    by true e rest = settle-push (p ∷ ps) k m d ∙ rw e refl
    by false e rest =
        settle-push (p ∷ ps) k m d
        ∙ rw e (ap (λ r. p ∷ r) (sym (settle-push ps k m d.1) ∙ rest))

distinct_at : (ps : Pairs Member) (k : List ℕ) (m : Member) → HasDistinctKeys ps
    → HasDistinctKeys (inserted_at ps k m)
distinct_at ps k m d =
    subst HasDistinctKeys (put_is ps k m d) (distinct-settle (ps ++ (k, m) ∷ []))

updated_urgency : (u : Option ℕ) (d : Dictionary) → HasDistinctKeys d.members
    → (updated (record { urgency = u; incremental = None }) d).members ≡ with_u u d.members
updated_urgency None d h = refl
updated_urgency (Some n) d h = put_is d.members (codes "u") (urgency_member n) h

distinct_u : (u : Option ℕ) (ps : Pairs Member) → HasDistinctKeys ps → HasDistinctKeys (with_u u ps)
distinct_u None ps h = h
distinct_u (Some n) ps h = distinct_at ps (codes "u") (urgency_member n) h

pub updated_is : (a : Asked) (d : Dictionary) → HasDistinctKeys d.members
    → (updated a d).members ≡ inserted a.urgency a.incremental d.members
updated_is a d h = by a.incremental
  where
    u : (updated (record { urgency = a.urgency; incremental = None }) d).members
        ≡ with_u a.urgency d.members
    u = updated_urgency a.urgency d h

    by : (i : Option Bool)
        → (updated (record { urgency = a.urgency; incremental = i }) d).members
        ≡ with_i i (with_u a.urgency d.members)
    by None = u
    by (Some b) =
        ap (λ ps. put ps (codes "i") (incremental_member b)) u
        ∙ put_is (with_u a.urgency d.members) (codes "i") (incremental_member b)
        (distinct_u a.urgency d.members h)

pub change_text : (a : Asked) (d : Dictionary) → HasDistinctKeys d.members
    → canon (field.Dict (updated a d))
    ≡ series_text true (inserted a.urgency a.incremental d.members)
change_text a d h = ap (canon_series canon_entry) (updated_is a d h)

-- valid members stay valid
abbrev IsValidEntry : List ℕ × Member → Type 0
IsValidEntry p = IsKey p.0 × ValidMember Rfc9651 p.1

each_insert : (ps : Pairs Member) (k : List ℕ) (m : Member) → Each IsValidEntry ps → IsKey k
    → ValidMember Rfc9651 m → Each IsValidEntry (inserted_at ps k m)
each_insert [] k m h e v = ((e, v), tt)
each_insert (p ∷ ps) k m h e v = by (bytes_eq k p.0) refl (each_insert ps k m h.1 e v)
  where
    by : (x : Bool) → bytes_eq k p.0 ≡ x → Each IsValidEntry (inserted_at ps k m)
        → Each IsValidEntry (inserted_at (p ∷ ps) k m)
    by true f rest = rw f ((h.0.0, v), h.1)
    by false f rest = rw f (h.0, rest)

valid_urgency : (n : ℕ) → n ≤ 7 → ValidMember Rfc9651 (urgency_member n)
unfolding IsDistinct
valid_urgency n h = let small : n < 10 ^ 15 = omega (arith, h) in (small, (tt, tt))

valid_incremental : (b : Bool) → ValidMember Rfc9651 (incremental_member b)
unfolding IsDistinct
valid_incremental b = (tt, (tt, tt))

valid_u : (u : Option ℕ) (ps : Pairs Member) → ((n : ℕ) → u ≡ Some n → n ≤ 7)
    → Each IsValidEntry ps → Each IsValidEntry (with_u u ps)
valid_u None ps r h = h
valid_u (Some n) ps r h =
    each_insert ps (codes "u") (urgency_member n) h (search rules) (valid_urgency n (r n refl))

valid_i : (i : Option Bool) (ps : Pairs Member) → Each IsValidEntry ps
    → Each IsValidEntry (with_i i ps)
valid_i None ps h = h
valid_i (Some b) ps h =
    each_insert ps (codes "i") (incremental_member b) h (search rules) (valid_incremental b)

distinct_i : (i : Option Bool) (ps : Pairs Member) → HasDistinctKeys ps
    → HasDistinctKeys (with_i i ps)
distinct_i None ps h = h
distinct_i (Some b) ps h = distinct_at ps (codes "i") (incremental_member b) h

in_range : (says n m : ℕ) → urgency_at says n ≡ Some m → m ≤ 7
in_range says n m e = grind (arith, nat_tests)

valid_updated : (p : PriorityFlags) (d : Dictionary) → ValidEntries Rfc9651 d.members
    → ValidEntries Rfc9651 (updated (params_of_flags p) d).members
valid_updated p d v =
    let a = params_of_flags p in
    subst (ValidEntries Rfc9651) (sym (updated_is a d v.1)) (
      valid_i a.incremental (with_u a.urgency d.members)
          (valid_u a.urgency d.members (λ n e. in_range p.has_urgency p.urgency n e) v.0),
      distinct_i a.incremental (with_u a.urgency d.members) (distinct_u a.urgency d.members v.1),
    )

-- the Dictionary that a view shows
pub record ViewedDict (t : List ℕ) (v : View) : Type 0 where
  pub dict : Dictionary
  pub only : IsOnly Rfc9651 kind.Dict t (field.Dict dict)
  pub valid : ValidEntries Rfc9651 dict.members
  pub describes : DescribesEntries Rfc9651 v.text.now v.nodes.now dict.members

pub viewed_dict : (t : List ℕ) (v : View) → IsViewed Rfc9651 kind.Dict t v → ViewedDict t v
viewed_dict t v h =
    by h.value h.only h.describes (spelled_valid Rfc9651 kind.Dict h.value t h.only.spelled)
  where
    by : (w : Field) → IsOnly Rfc9651 kind.Dict t w → DescribesField Rfc9651 t v.nodes.now w
        → Valid Rfc9651 kind.Dict w → ViewedDict t v
    by (field.Dict d) only describes valid = record {
      dict = d;
      only = only;
      valid = valid;
      describes = rw h.text describes;
    }
    by w only describes valid = absurd valid

pub puts_change : (old new : TextOutput) (t : List ℕ) (p : PriorityFlags) (v : View) (s : Status)
    → (h : ViewedDict t v)
    → Writes (change.text_buffer old) (change.text_buffer new)
    (canon (field.Dict (updated (params_of_flags p) h.dict))) (Some s)
    → new.refusal ≡ old.refusal → ChangesBy old new t p (Some s)
puts_change old new t p v Answered h w e =
    changes_priority old new t p h.dict Answered h.only (valid_updated p h.dict h.valid) w e
puts_change old new t p v Short h w e =
    changes_priority old new t p h.dict Short h.only (valid_updated p h.dict h.valid) w e
puts_change old new t p v OutOfMemory h w e =
    let b = ap (λ x. x.buffer) w in
    let r = ap (λ x. x.required) w in
    λ i. record { buffer = b i; required = r i; refusal = e i }
puts_change old new t p v s h w e = absurd w

-- the text of a Dictionary with what is set
pub puts_changed : (old new : TextOutput) (t : List ℕ) (p : PriorityFlags) (d : Dictionary)
    (s : Status) → IsOnly Rfc9651 kind.Dict t (field.Dict d)
    → PutsText (change.text_buffer old) (change.text_buffer new)
    (canon (field.Dict (updated (params_of_flags p) d))) (Some s)
    → new.refusal ≡ old.refusal → ChangesBy old new t p (Some s)
puts_changed old new t p d s only w e =
    changes_priority old new t p d s only
    (valid_updated p d (spelled_valid Rfc9651 kind.Dict (field.Dict d) t only.spelled)) w e
