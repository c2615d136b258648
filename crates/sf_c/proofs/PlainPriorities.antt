-- Priority fields with the members u and i alone.
use Rattle.std.proofs.Common.{◌≡◌, ℕ, pos, negsuc, Bool, true, false, List, [], ◌∷◌, ◌++◌, map}
use Rattle.std.proofs.Common.{Option, Some, None, refl, sym, ap, ◌∙◌, subst, append_assoc}
use Rattle.std.proofs.Common.{inl, inr}
use Rattle.std.specs.Prelude.{◌||◌, ◌&&◌, nat_eq, nat_le, if◌then◌else◌, is_some, not}
use Rattle.std.specs.Option.{option_or}
use Rattle.std.specs.List.{list_any}
use Rattle.std.proofs.lemmas.List.{append-nil, map-append}
use Rattle.std.proofs.lemmas.List.Folds.{list_any-append}
use Rattle.sf_value.specs.Ascii.{comma, semicolon, equals}
use Rattle.sf_value.specs.declared.dialect.Dialect.{Dialect}
use Rattle.sf_value.specs.declared.dialect.Dialect.TheVariants.{Rfc9651}
use Rattle.sf_value.specs.declared.value.Bare.{Bare}
use Rattle.sf_value.specs.declared.value.Bare.TheVariants.{Integer, Boolean}
use Rattle.sf_value.specs.declared.value.Dict.{Dict as Dictionary}
use Rattle.sf_value.specs.declared.value.Kind.TheVariants as kind
use Rattle.sf_value.specs.declared.value.Field.TheVariants as field
use Rattle.sf_value.specs.declared.value.Member.{Member}
use Rattle.sf_value.specs.declared.value.Member.TheVariants as member
use Rattle.sf_value.specs.Grammar.Pairs.{Pairs, put, settle}
use Rattle.sf_value.specs.Grammar.Parameters.{SpellsParams}
use Rattle.sf_value.specs.Grammar.InnerLists.{SpellsMember}
use Rattle.sf_value.specs.Grammar.Series.{SpellsCommas, SpellsWhole}
use Rattle.sf_value.specs.Grammar.Fields.{SpellsEntry, SpellsField}
use Rattle.sf_value.proofs.Settling.{settle_settle}
use Rattle.sf_parse.specs.Parsers.{IsOnly}
use Rattle.sf_parse.proofs.GrammarLaws.{one_value}
use Rattle.sf_view.specs.declared.cursor.DictCursor.{DictCursor}
use Rattle.sf_view.specs.declared.cursor.EntryView.{EntryView}
use Rattle.sf_view.specs.Cursors.{RemainsInDict, ReadsNextEntry, boolean_in, integer_in}
use Rattle.sf_view.specs.Reads.{ShowsMember}
use Rattle.sf_use.specs.PriorityUpdate.{updated}
use Rattle.sf_use.specs.Priority.{bare_member}
use Rattle.sf_use.specs.Scanning.{urgency_by}
use Rattle.sf_use.specs.declared.priority.Asked.{Asked}
use Rattle.sf_c.specs.declared.plain_priority.PlainPriority.{PlainPriority}
use Rattle.sf_c.specs.Priorities.{dict_of_params}
use Rattle.sf_c.specs.PlainPriorities.{IsPlain, dict_of_plain, in_order, plain, plain_members}

abbrev pub no_members : Dictionary
no_members = record { members = [] }

-- no semicolon is in the text
abbrev pub HasNone : List ℕ → Type 0
HasNone t = list_any (λ y. nat_eq y semicolon) t ≡ false

neither : (x y : Bool) → (x || y) ≡ false → (x ≡ false) × (y ≡ false)
neither false y e = (refl, e)
neither true y e = absurd cc

apart : (xs ys : List ℕ) → HasNone (xs ++ ys) → HasNone xs × HasNone ys
apart xs ys h =
    neither (list_any (λ y. nat_eq y semicolon) xs) (list_any (λ y. nat_eq y semicolon) ys)
    (sym (list_any-append (λ y. nat_eq y semicolon) xs ys) ∙ h)

later : (x : ℕ) (xs : List ℕ) → HasNone (x ∷ xs) → HasNone xs
later x xs h = (apart (x ∷ []) xs h).1

-- such a text has no parameters
no_params : (d : Dialect) (t : List ℕ) (ps : Pairs Bare) → HasNone t → SpellsParams d t ps
    → ps ≡ []
no_params d t ps h ([], e, s) = e
no_params d t ps h (p ∷ raw, e, (prefix, suffix, split, (gap, value, is, spaces, key, more), others)) =
    let none : HasNone (prefix ++ suffix) = subst HasNone split h in
    let first : HasNone (semicolon ∷ (gap ++ (p.0 ++ value))) =
    subst HasNone is (apart prefix suffix none).0 in
    absurd cc

plain_item : (d : Dialect) (t : List ℕ) (m : Member) → HasNone t → SpellsMember d t m → plain m ≡ m
plain_item d t (member.Item i) h (prefix, suffix, split, bare, params) =
    let none : HasNone suffix = (apart prefix suffix (subst HasNone split h)).1 in
    ap (λ ps. member.Item (record { bare = i.bare; params = ps }))
    (sym (no_params d suffix i.params none params))
plain_item d t (member.Inner l) h s = refl

-- a member with its key, without its parameters
abbrev pub plain_entry : List ℕ × Member → List ℕ × Member
plain_entry p = (p.0, plain p.1)

entry_plain : (d : Dialect) (t : List ℕ) (p : List ℕ × Member) → HasNone t → SpellsEntry d t p
    → plain_entry p ≡ p
entry_plain d t p h (suffix, key, inl (split, s)) =
    let none : HasNone (p.0 ++ equals ∷ suffix) = subst HasNone split h in
    let after : HasNone suffix = later equals suffix (apart p.0 (equals ∷ suffix) none).1 in
    ap (λ m. (p.0, m)) (plain_item d suffix p.1 after s)
entry_plain d t p h (suffix, key, inr (ps, is, split, s)) =
    let none : HasNone suffix = (apart p.0 suffix (subst HasNone split h)).1 in
    let flag : p.1 ≡ bare_member (Boolean true) =
    is ∙ ap (λ qs. member.Item (record { bare = Boolean true; params = qs }))
    (no_params d suffix ps none s) in
    ap (λ m. (p.0, m)) (ap plain flag ∙ sym flag)

commas_plain : (d : Dialect) (t : List ℕ) (ps : Pairs Member) → HasNone t
    → SpellsCommas (SpellsEntry d) t ps → map plain_entry ps ≡ ps
commas_plain d t [] h s = refl
commas_plain d t (p ∷ ps) h (before, behind, prefix, suffix, split, x, y, s, others) =
    let a = later comma (behind ++ (prefix ++ suffix))
    (apart before (comma ∷ (behind ++ (prefix ++ suffix))) (subst HasNone split h)).1 in
    let b = apart prefix suffix (apart behind (prefix ++ suffix) a).1 in
    let one = entry_plain d prefix p b.0 s in
    let more = commas_plain d suffix ps b.1 others in
    ap (λ q. q ∷ map plain_entry ps) one ∙ ap (λ qs. p ∷ qs) more

whole_plain : (d : Dialect) (t : List ℕ) (ps : Pairs Member) → HasNone t
    → SpellsWhole (SpellsEntry d) t ps → map plain_entry ps ≡ ps
whole_plain d t [] h s = refl
whole_plain d t (p ∷ ps) h (gap, body, tail, split, x, (prefix, suffix, is, s, others), y) =
    let a = (apart body tail (apart gap (body ++ tail) (subst HasNone split h)).1).0 in
    let b = apart prefix suffix (subst HasNone is a) in
    let one = entry_plain d prefix p b.0 s in
    let more = commas_plain d suffix ps b.1 others in
    ap (λ q. q ∷ map plain_entry ps) one ∙ ap (λ qs. p ∷ qs) more

-- some members were read, and without parameters they are settled to these; whatever members
-- remain, the text spells those that were read and them
pub record PlainSoFar (text : List ℕ) (c : DictCursor) (p : PlainPriority) : Type 0 where
  pub dialect : c.dialect ≡ Rfc9651
  pub members : Pairs Member
  pub plain : settle (map plain_entry members) ≡ plain_members p
  pub reads : (ps : Pairs Member) → RemainsInDict c ps
      → SpellsWhole (SpellsEntry Rfc9651) text (members ++ ps)

pub none_read : (text : List ℕ) (c : DictCursor) (p : PlainPriority) → c.dialect ≡ Rfc9651
    → ((ps : Pairs Member) → RemainsInDict c ps → SpellsWhole (SpellsEntry Rfc9651) text ps)
    → plain_members p ≡ [] → PlainSoFar text c p
none_read text c p d h e = record { dialect = d; members = []; plain = sym e; reads = h }

pub member_read : (text : List ℕ) (c e : DictCursor) (v : EntryView) (p q : PlainPriority)
    → PlainSoFar text c p → e.dialect ≡ c.dialect → ReadsNextEntry c e (Some v)
    → ((d : Dialect) (m : Member) → ShowsMember d v.bare m
    → plain_members q ≡ put (plain_members p) v.key.now (plain m))
    → PlainSoFar text e q
member_read text c e v p q s same (m, shown, remains) h =
    let one : Pairs Member = (v.key.now, plain m) ∷ [] in record {
      dialect = same ∙ s.dialect;
      members = s.members ++ (v.key.now, m) ∷ [];
      plain =
          ap settle (map-append plain_entry s.members ((v.key.now, m) ∷ []))
          ∙ sym (settle_settle (map plain_entry s.members) one)
          ∙ ap (λ ps. settle (ps ++ one)) s.plain
          ∙ sym (h c.dialect m shown);
      reads = λ ps r.
          subst (SpellsWhole (SpellsEntry Rfc9651) text)
          (sym (append_assoc s.members ((v.key.now, m) ∷ []) ps))
          (s.reads ((v.key.now, m) ∷ ps) (remains ps r));
    }

pub all_read : (text : List ℕ) (c e : DictCursor) (o : Option EntryView) (p : PlainPriority)
    → PlainSoFar text c p → HasNone text → ReadsNextEntry c e o → o ≡ None → IsPlain text p
all_read text c e o p s h n none =
    let left : RemainsInDict c [] = subst (ReadsNextEntry c e) none n in
    let whole : SpellsWhole (SpellsEntry Rfc9651) text s.members =
    subst (SpellsWhole (SpellsEntry Rfc9651) text) (append-nil s.members) (s.reads [] left) in
    let same : plain_members p ≡ settle s.members =
    sym s.plain ∙ ap settle (whole_plain Rfc9651 text s.members h whole) in
    let spelled : SpellsField Rfc9651 kind.Dict text (field.Dict (dict_of_plain p)) =
    (s.members, same, whole) in
    record {
      spelled = spelled;
      only = λ w i. one_value Rfc9651 kind.Dict text w (field.Dict (dict_of_plain p)) i spelled;
    }

-- a member with an urgency or a flag
pub urgency_plain : (m : Member) (n : ℕ) → urgency_by (integer_in m) ≡ Some n
    → plain m ≡ bare_member (Integer (pos n))
urgency_plain (member.Inner l) n e = absurd cc
urgency_plain (member.Item i) n e = by i.bare e
  where
    within : (k : ℕ) (b : Bool) → (if b then Some k else None) ≡ Some n → k ≡ n
    within k true e = cc
    within k false e = absurd cc

    by : (x : Bare) → urgency_by (integer_in (bare_member x)) ≡ Some n
        → bare_member x ≡ bare_member (Integer (pos n))
    by (Integer (pos k)) e =
        ap (λ j. bare_member (Integer (pos j))) (within k (nat_le k 7) e)
    by (Integer (negsuc k)) e = absurd cc
    by x e = absurd cc

pub incremental_plain : (m : Member) (b : Bool) → boolean_in m ≡ Some b
    → plain m ≡ bare_member (Boolean b)
incremental_plain (member.Inner l) b e = absurd cc
incremental_plain (member.Item i) b e = by i.bare e
  where
    by : (x : Bare) → boolean_in (bare_member x) ≡ Some b → bare_member x ≡ bare_member (Boolean b)
    by (Boolean c) e = cc
    by x e = absurd cc

-- what is set is put at its key, or goes last: so i is first if it was there without u
order_is : (b : Bool) (u : Option ℕ) (i : Option Bool) (v : Option ℕ) (j : Option Bool)
    → in_order (is_some i && (not (is_some u) || b)) (option_or v u) (option_or j i)
    ≡ (updated (record { urgency = v; incremental = j })
    (record { members = in_order b u i })).members
order_is false None None None None = refl
order_is false None None None (Some j) = refl
order_is false None None (Some v) None = refl
order_is false None None (Some v) (Some j) = refl
order_is false None (Some i) None None = refl
order_is false None (Some i) None (Some j) = refl
order_is false None (Some i) (Some v) None = refl
order_is false None (Some i) (Some v) (Some j) = refl
order_is false (Some u) None None None = refl
order_is false (Some u) None None (Some j) = refl
order_is false (Some u) None (Some v) None = refl
order_is false (Some u) None (Some v) (Some j) = refl
order_is false (Some u) (Some i) None None = refl
order_is false (Some u) (Some i) None (Some j) = refl
order_is false (Some u) (Some i) (Some v) None = refl
order_is false (Some u) (Some i) (Some v) (Some j) = refl
order_is true None None None None = refl
order_is true None None None (Some j) = refl
order_is true None None (Some v) None = refl
order_is true None None (Some v) (Some j) = refl
order_is true None (Some i) None None = refl
order_is true None (Some i) None (Some j) = refl
order_is true None (Some i) (Some v) None = refl
order_is true None (Some i) (Some v) (Some j) = refl
order_is true (Some u) None None None = refl
order_is true (Some u) None None (Some j) = refl
order_is true (Some u) None (Some v) None = refl
order_is true (Some u) None (Some v) (Some j) = refl
order_is true (Some u) (Some i) None None = refl
order_is true (Some u) (Some i) None (Some j) = refl
order_is true (Some u) (Some i) (Some v) None = refl
order_is true (Some u) (Some i) (Some v) (Some j) = refl

flipped : (x y : Bool) → x ≡ not y → y ≡ not x
flipped x true e = sym (ap not e)
flipped x false e = sym (ap not e)

pub changed_is : (p q : PlainPriority) (a : Asked) (some none : Bool)
    → q.urgency ≡ option_or a.urgency p.urgency
    → q.incremental ≡ option_or a.incremental p.incremental
    → q.is_reversed ≡ (some && (none || p.is_reversed)) → some ≡ is_some p.incremental
    → is_some p.urgency ≡ not none → dict_of_plain q ≡ updated a (dict_of_plain p)
changed_is p q a some none e f g h k =
    let u : Option ℕ = option_or a.urgency p.urgency in
    let i : Option Bool = option_or a.incremental p.incremental in
    let first : q.is_reversed ≡ (is_some p.incremental && (not (is_some p.urgency) || p.is_reversed)) =
    g ∙ ap (λ x. x && (none || p.is_reversed)) h
    ∙ ap (λ y. is_some p.incremental && (y || p.is_reversed))
    (flipped (is_some p.urgency) none k) in
    ap (λ ps. record { members = ps })
    (ap (λ x. in_order q.is_reversed x q.incremental) e
    ∙ ap (λ x. in_order q.is_reversed u x) f
    ∙ ap (λ x. in_order x u i) first
    ∙ order_is p.is_reversed p.urgency p.incremental a.urgency a.incremental)

-- no members are in an empty text
pub none_in : (text : List ℕ) → text ≡ [] → IsOnly Rfc9651 kind.Dict text (field.Dict no_members)
none_in text e =
    let spelled : SpellsField Rfc9651 kind.Dict text (field.Dict no_members) = ([], refl, rw e tt) in
    record {
      spelled = spelled;
      only = λ w i. one_value Rfc9651 kind.Dict text w (field.Dict no_members) i spelled;
    }

-- what is set is then all that there is
pub updated_none : (a : Asked) → updated a no_members ≡ dict_of_params a
updated_none a = by a.urgency a.incremental
  where
    by : (u : Option ℕ) (i : Option Bool)
        → updated (record { urgency = u; incremental = i }) no_members
        ≡ dict_of_params (record { urgency = u; incremental = i })
    by None None = refl
    by None (Some b) = refl
    by (Some n) None = refl
    by (Some n) (Some b) = refl
