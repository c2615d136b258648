-- Members, Items and parameters as parts that are read one after another.
use Rattle.std.proofs.Common.{◌≡◌, ℕ, suc, ◌+◌, ◌≤◌, List, [], ◌∷◌, ◌++◌, length, drop, None, Err, Option, Some, take}
use Rattle.std.proofs.Common.{refl, sym, ap, ◌∙◌, subst, arith, append-nil, append_assoc, false, ◌-◌}
use Rattle.std.proofs.lemmas.Map.{NonePasses, none_passes_from_lookup}
use Rattle.std.specs.Str.{bytes_eq}
use Rattle.sf_value.specs.declared.dialect.Dialect.{Dialect}
use Rattle.sf_value.specs.declared.value.Bare.{Bare}
use Rattle.sf_value.specs.declared.value.Inner.{Inner}
use Rattle.sf_value.specs.declared.value.Item.{Item}
use Rattle.sf_value.specs.declared.value.Member.{Member}
use Rattle.sf_value.specs.Grammar.Pairs.{Pairs, HasDistinctKeys, settle, value_at}
use Rattle.sf_value.specs.Grammar.Tokens.{IsKey}
use Rattle.sf_value.specs.Grammar.Valid.{ValidBare, ValidItem, ValidMember}
use Rattle.sf_value.proofs.EntryMaps.{IsAbsent, IsAbsent-before, insert_entry-absent, settle-push}
use Rattle.sf_value.proofs.EntryMaps.{AreEntries-none}
use Rattle.sf_value.proofs.Settling.{distinct-settle}
use Rattle.sf_view.specs.declared.node.Node.{Node}
use Rattle.sf_view.specs.declared.node_types.Role.{Role}
use Rattle.sf_view.specs.declared.node_types.Role.TheVariants as role_is
use Rattle.sf_view.specs.NodeTypes.{role_number}
use Rattle.sf_view.specs.View.{slice_at, DescribesParams, DescribesItem, DescribesItems}
use Rattle.sf_view.specs.declared.building.NoField.{NoField}
use Rattle.sf_view.specs.declared.building.NoField.TheVariants.{OutOfMemory, Invalid}
use Rattle.sf_view.specs.Finding.{IsHop}
use Rattle.sf_view.specs.View.{DescribesBare, DescribesMember, DescribesMembers, DescribesEntries}
use Rattle.sf_view.specs.Building.{AreParams, AreMembers, AreEntries, IsInside, IsInner, IsMember}
use Rattle.sf_view.specs.Building.{IsItem, IsParam, Reads, first_key, shift_fault, Gives, StartsItem}
use Rattle.sf_view.specs.Building.{IsWrongAt}
use Rattle.sf_view.proofs.Hops.{Opens, opens, item_opens, param_opens, DescribesParam}
use Rattle.sf_view.proofs.Wholes.{Parts, Alike, PartLaws, Whole, After, opens_key, hop_key}
use Rattle.sf_view.proofs.Wholes.{nothing_left, wrong_tail, SoFar, after_wrong, first_same}

-- nothing comes after the parts
abbrev pub NoMore : List Node → Type 0
NoMore tail = tail ≡ []

pub no_more : (n : Node) (tail more : List Node) → NoMore tail → tail ≡ n ∷ more → ⊥
no_more n tail more z e = let k : [] ≡ n ∷ more = sym z ∙ e in absurd cc

none_opens : (source k : List ℕ) (tail ns more : List Node) → Opens source k ns → NoMore tail
    → tail ≡ ns ++ more → ⊥
none_opens source k tail ns more o z e =
    no_more o.first tail (o.more ++ more) z (e ∙ ap (λ y. y ++ more) o.begins)

-- any two are alike, and any list is kept
abbrev pub AnyTwo : {X : Type 0} → X → X → Type 0
AnyTwo x y = Unit {0}

abbrev pub AnyList : {X : Type 0} → List X → Type 0
AnyList xs = Unit {0}

-- parts with the same key
abbrev pub SameKey : {V : Type 0} → List ℕ × V → List ℕ × V → Type 0
SameKey p q = p.0 ≡ q.0

-- the members of a List
pub members_parts : (d : Dialect) (source : List ℕ) (ns : List Node) (ms : List Member)
    → DescribesMembers d source ns ms → Parts (DescribesMember d source []) ns ms
members_parts d source ns [] e = e
members_parts d source ns (m ∷ ms) (f, b, e, t, r) = (f, b, e, t, members_parts d source b ms r)

pub parts_members : (d : Dialect) (source : List ℕ) (ns : List Node) (ms : List Member)
    → Parts (DescribesMember d source []) ns ms → DescribesMembers d source ns ms
parts_members d source ns [] e = e
parts_members d source ns (m ∷ ms) (f, b, e, t, r) = (f, b, e, t, parts_members d source b ms r)

pub member_laws : (d : Dialect) (source : List ℕ)
    → PartLaws source (DescribesMember d source []) NoMore (AnyTwo {X = Member})
member_laws d source = record {
  opened = λ ns m t. ([], opens d source [] ns m t);
  alike = λ ns m n t u. tt;
  stop = λ tail ns more m z t e. none_opens source [] tail ns more (opens d source [] ns m t) z e;
}

abbrev pub WholeList : Dialect → List ℕ → List Node → List Member → Type 0
WholeList d source = Whole (DescribesMember d source []) (ValidMember d) AnyList NoMore

pub whole_list : (d : Dialect) (source : List ℕ) (ns : List Node) (ms : List Member)
    → AreMembers d source ns ms → (ns' : List Member) × WholeList d source ns ns'
whole_list d source ns ms h = (
  ms,
  record {
    body = ns;
    tail = [];
    split = sym (append-nil ns);
    parts = members_parts d source ns ms h.0;
    valid = h.1;
    kept = tt;
    ends = refl;
  },
)

-- the members of a Dictionary
abbrev pub Entry : Dialect → List ℕ → List Node → List ℕ × Member → Type 0
Entry d source ns p = DescribesMember d source p.0 ns p.1

abbrev pub ValidEntry : Dialect → List ℕ × Member → Type 0
ValidEntry d p = IsKey p.0 × ValidMember d p.1

pub entries_parts : (d : Dialect) (source : List ℕ) (ns : List Node) (ps : Pairs Member)
    → DescribesEntries d source ns ps → Parts (Entry d source) ns ps
entries_parts d source ns [] e = e
entries_parts d source ns (p ∷ ps) (f, b, e, t, r) = (f, b, e, t, entries_parts d source b ps r)

pub parts_entries : (d : Dialect) (source : List ℕ) (ns : List Node) (ps : Pairs Member)
    → Parts (Entry d source) ns ps → DescribesEntries d source ns ps
parts_entries d source ns [] e = e
parts_entries d source ns (p ∷ ps) (f, b, e, t, r) = (f, b, e, t, parts_entries d source b ps r)

heads : (m n : Node) (ms ns : List Node) → m ∷ ms ≡ n ∷ ns → m ≡ n
heads m n ms ns e = cc

one_key : (source j k : List ℕ) (ns : List Node) → Opens source j ns → Opens source k ns → j ≡ k
one_key source j k ns o p =
    let one : o.first ≡ p.first = heads o.first p.first o.more p.more (sym o.begins ∙ p.begins) in
    sym o.key ∙ ap (λ y. slice_at y.key_at y.key_length source) one ∙ p.key

pub entry_laws : (d : Dialect) (source : List ℕ)
    → PartLaws source (Entry d source) NoMore (SameKey {V = Member})
entry_laws d source = record {
  opened = λ ns p t. (p.0, opens d source p.0 ns p.1 t);
  alike = λ ns p q t u.
      one_key source p.0 q.0 ns (opens d source p.0 ns p.1 t) (opens d source q.0 ns q.1 u);
  stop = λ tail ns more p z t e.
      none_opens source p.0 tail ns more (opens d source p.0 ns p.1 t) z e;
}

abbrev pub WholeDict : Dialect → List ℕ → List Node → Pairs Member → Type 0
WholeDict d source = Whole (Entry d source) (ValidEntry d) (HasDistinctKeys {V = Member}) NoMore

pub whole_dict : (d : Dialect) (source : List ℕ) (ns : List Node) (ps : Pairs Member)
    → AreEntries d source ns ps → (qs : Pairs Member) × WholeDict d source ns qs
whole_dict d source ns ps h = (
  ps,
  record {
    body = ns;
    tail = [];
    split = sym (append-nil ns);
    parts = entries_parts d source ns ps h.0;
    valid = h.1.0;
    kept = h.1.1;
    ends = refl;
  },
)

-- parameters
abbrev pub Param : Dialect → List ℕ → Role → List Node → List ℕ × Bare → Type 0
Param d source r ns p = DescribesParam d source r p.0 ns p.1

abbrev pub ValidParam : Dialect → List ℕ × Bare → Type 0
ValidParam d p = IsKey p.0 × ValidBare d p.1

pub params_parts : (d : Dialect) (source : List ℕ) (r : Role) (ns : List Node) (ps : Pairs Bare)
    → DescribesParams d source r ns ps → Parts (Param d source r) ns ps
params_parts d source r ns [] e = e
params_parts d source r ns (p ∷ ps) (n, ms, e, h, more) =
    (n ∷ [], ms, e, (n, refl, h), params_parts d source r ms ps more)

pub parts_params : (d : Dialect) (source : List ℕ) (r : Role) (ns : List Node) (ps : Pairs Bare)
    → Parts (Param d source r) ns ps → DescribesParams d source r ns ps
parts_params d source r ns [] e = e
parts_params d source r ns (p ∷ ps) (f, b, e, (n, g, h), more) =
    (n, b, e ∙ ap (λ y. y ++ b) g, h, parts_params d source r b ps more)

pub param_laws : (d : Dialect) (source : List ℕ) (r : Role)
    → PartLaws source (Param d source r) NoMore (SameKey {V = Bare})
param_laws d source r = record {
  opened = λ ns p t. (p.0, param_opens d source r p.0 ns p.1 t);
  alike = λ ns p q t u.
      one_key source p.0 q.0 ns (param_opens d source r p.0 ns p.1 t)
      (param_opens d source r q.0 ns q.1 u);
  stop = λ tail ns more p z t e.
      none_opens source p.0 tail ns more (param_opens d source r p.0 ns p.1 t) z e;
}

abbrev pub WholeParams : Dialect → List ℕ → Role → List Node → Pairs Bare → Type 0
WholeParams d source r = Whole (Param d source r) (ValidParam d) (HasDistinctKeys {V = Bare}) NoMore

pub whole_params : (d : Dialect) (source : List ℕ) (r : Role) (ns : List Node) (ps : Pairs Bare)
    → AreParams d source r ns ps → (qs : Pairs Bare) × WholeParams d source r ns qs
whole_params d source r ns ps h = (
  ps,
  record {
    body = ns;
    tail = [];
    split = sym (append-nil ns);
    parts = params_parts d source r ns ps h.0;
    valid = h.1.0;
    kept = h.1.1;
    ends = refl;
  },
)

-- the Items of an Inner List, and its parameters after them
abbrev pub InnerItem : Dialect → List ℕ → List Node → Item → Type 0
InnerItem d source ns i = DescribesItem d source role_is.InnerItem [] ns i

abbrev pub ParamsEnd : Dialect → List ℕ → List Node → Type 0
ParamsEnd d source tail = (ps : Pairs Bare) × AreParams d source role_is.InnerParameter tail ps

pub items_parts : (d : Dialect) (source : List ℕ) (ns : List Node) (is : List Item)
    → DescribesItems d source ns is → Parts (InnerItem d source) ns is
items_parts d source ns [] e = e
items_parts d source ns (i ∷ is) (f, b, e, t, r) = (f, b, e, t, items_parts d source b is r)

-- parameters of an Inner List begin with no Item's node
pub params_role : (d : Dialect) (source : List ℕ) (n : Node) (tail more : List Node)
    → ParamsEnd d source tail → tail ≡ n ∷ more → n.role ≡ role_number role_is.InnerParameter
params_role d source n tail more ([], (h, v)) e =
    let k : [] ≡ n ∷ more = sym h ∙ e in absurd cc
params_role d source n tail more (p ∷ ps, ((m, ms, f, h, r), v)) e =
    let one : m ≡ n = heads m n ms more (sym f ∙ e) in
    ap (λ y. y.role) (sym one) ∙ h.role

pub item_role : (d : Dialect) (source : List ℕ) (n : Node) (ns more : List Node) (i : Item)
    → InnerItem d source ns i → ns ≡ n ∷ more → n.role ≡ role_number role_is.InnerItem
item_role d source n ns more i (m, ms, f, h, r) e =
    let one : m ≡ n = heads m n ms more (sym f ∙ e) in
    ap (λ y. y.role) (sym one) ∙ h.role

pub no_params : (d : Dialect) (source : List ℕ) (n : Node) → n.role ≡ role_number role_is.InnerItem
    → (tail more : List Node) → ParamsEnd d source tail → tail ≡ n ∷ more → ⊥
no_params d source n h tail more z e =
    let k : role_number role_is.InnerItem ≡ role_number role_is.InnerParameter =
    sym h ∙ params_role d source n tail more z e in absurd cc

pub inside_laws : (d : Dialect) (source : List ℕ)
    → PartLaws source (InnerItem d source) (ParamsEnd d source) (AnyTwo {X = Item})
inside_laws d source = record {
  opened = λ ns i t. ([], item_opens d source role_is.InnerItem [] ns i t);
  alike = λ ns i j t u. tt;
  stop = λ tail ns more i z t e.
      let o = item_opens d source role_is.InnerItem [] ns i t in
      no_params d source o.first (item_role d source o.first ns o.more i t o.begins) tail
      (o.more ++ more) z (e ∙ ap (λ y. y ++ more) o.begins);
}

abbrev pub WholeInside : Dialect → List ℕ → List Node → List Item → Type 0
WholeInside d source = Whole (InnerItem d source) (ValidItem d) AnyList (ParamsEnd d source)

pub whole_inside : (d : Dialect) (source : List ℕ) (ns : List Node) (l : Inner)
    → IsInside d source ns l → (is : List Item) × WholeInside d source ns is
whole_inside d source ns l (items, params, e, t, r, v) = (
  l.items,
  record {
    body = items;
    tail = params;
    split = e;
    parts = items_parts d source items l.items t;
    valid = v.0;
    kept = tt;
    ends = (l.params, (r, v.1));
  },
)

-- a key that is there before is not there again
pub key_once : {V : Type 0} (all before xs : Pairs V) (p : List ℕ × V) → Alike SameKey all before
    → HasDistinctKeys (before ++ p ∷ xs) → value_at p.0 all ≡ None
key_once {V} all before xs p a d = by all before a (IsAbsent-before before xs p d)
  where
    by : (all before : Pairs V) → Alike SameKey all before → IsAbsent p.0 before
        → value_at p.0 all ≡ None
    by [] before a h = refl
    by (q ∷ all) [] a h = absurd a
    by (q ∷ all) (r ∷ before) a h =
        let apart : bytes_eq p.0 q.0 ≡ false =
        subst (λ y. bytes_eq p.0 y ≡ false) (sym a.0) h.0 in
        rw apart (by all before a.1 h.1)

-- a new key goes last
absent : {V : Type 0} (k : List ℕ) (all : Pairs V) → value_at k all ≡ None → IsAbsent k all
absent {V} k all e = by all (none_passes_from_lookup (bytes_eq k) all e)
  where
    by : (all : Pairs V) → NonePasses (bytes_eq k) all → IsAbsent k all
    by [] h = tt
    by (p ∷ all) h = (h.0, by all h.1)

pub pushed : {V : Type 0} (all more : Pairs V) (k : List ℕ) (v : V) → HasDistinctKeys all
    → value_at k all ≡ None → more ≡ settle (all ++ (k, v) ∷ []) → more ≡ all ++ (k, v) ∷ []
pushed all more k v d n e =
    e ∙ settle-push all k v d ∙ insert_entry-absent k v all (absent k all n)

pub distinct_pushed : {V : Type 0} (all more : Pairs V) (k : List ℕ) (v : V)
    → more ≡ settle (all ++ (k, v) ∷ []) → HasDistinctKeys more
distinct_pushed all more k v e =
    subst HasDistinctKeys (sym e) (distinct-settle (all ++ (k, v) ∷ []))

-- parts as they are read, whatever their keys
pub as_member : (d : Dialect) (source : List ℕ) (ns : List Node) (m : Member)
    → DescribesMember d source [] ns m → ValidMember d m → (y : Member) × IsMember d source ns y
as_member d source ns m t v = (
  m,
  (
    subst (λ y. DescribesMember d source y ns m)
        (sym (opens_key source [] ns (opens d source [] ns m t))) t,
    v,
  ),
)

pub as_entry : (d : Dialect) (source : List ℕ) (ns : List Node) (p : List ℕ × Member)
    → Entry d source ns p → ValidEntry d p → (y : Member) × IsMember d source ns y
as_entry d source ns p t v = (
  p.1,
  (
    subst (λ y. DescribesMember d source y ns p.1)
        (sym (opens_key source p.0 ns (opens d source p.0 ns p.1 t))) t,
    v.1,
  ),
)

pub as_item : (d : Dialect) (source : List ℕ) (ns : List Node) (i : Item)
    → InnerItem d source ns i → ValidItem d i
    → (y : Item) × IsItem d source role_is.InnerItem ns y
as_item d source ns i t v = (
  i,
  (
    subst (λ y. DescribesItem d source role_is.InnerItem y ns i)
        (sym (opens_key source [] ns (item_opens d source role_is.InnerItem [] ns i t))) t,
    v,
  ),
)

-- a part with the key that was hopped over
pub member_at : (d : Dialect) (source k : List ℕ) (nodes prefix later : List Node) (m : Member)
    → IsHop source nodes k prefix later → IsMember d source prefix m → DescribesMember d source k prefix m
member_at d source k nodes prefix later m h t =
    subst (λ y. DescribesMember d source y prefix m) (hop_key source k nodes prefix later h) t.0

pub item_at : (d : Dialect) (source k : List ℕ) (nodes prefix later : List Node) (i : Item)
    → IsHop source nodes k prefix later → IsItem d source role_is.InnerItem prefix i
    → DescribesItem d source role_is.InnerItem k prefix i
item_at d source k nodes prefix later i h t =
    subst (λ y. DescribesItem d source role_is.InnerItem y prefix i)
    (hop_key source k nodes prefix later h) t.0

pub param_at : (d : Dialect) (source k : List ℕ) (r : Role) (nodes prefix later : List Node) (x : Bare)
    → IsHop source nodes k prefix later → IsParam d source r prefix x → DescribesParam d source r k prefix x
param_at d source k r nodes prefix later x h (n, e, t) =
    let same : slice_at n.key_at n.key_length source ≡ k =
    sym (ap (first_key source) e) ∙ hop_key source k nodes prefix later h in
    (n, e, subst (λ y. DescribesBare d source r y 1 n x) same t.0)

-- the nodes that were hopped over are one node, if a parameter begins with the first of them
pub one_param : (d : Dialect) (source k : List ℕ) (r : Role) (nodes prefix later : List Node)
    (h : IsHop source nodes k prefix later) (fs : List Node) (p : List ℕ × Bare)
    → Param d source r (h.first ∷ fs) p → ValidBare d p.1 → IsParam d source r prefix p.1
one_param d source k r nodes prefix later h fs p (n, e, t) v =
    let one : h.first ≡ n = heads h.first n fs [] e in
    let size : h.first.size ≡ 1 = ap (λ y. y.size) one ∙ t.size in
    let l : length h.more ≡ 0 =
    (let a = h.size in let b = ap length h.begins in omega arith) in
    let is : prefix ≡ n ∷ [] =
    h.begins ∙ ap (λ y. y ∷ h.more) one ∙ ap (λ y. n ∷ y) (nothing_left h.more l) in
    (n, is, (subst (λ y. DescribesBare d source r y 1 n p.1) (sym t.key) t, v))

-- no parameters are read of no nodes
pub no_nodes : (d : Dialect) (source : List ℕ) (r : Role) → AreParams d source r [] []
no_nodes d source r = (refl, (tt, (AreEntries-none {V = Bare}).distinct))

-- parameters that are wrong after the node of an Item, and what is wrong inside an Inner List
pub item_wrong : (d : Dialect) (source : List ℕ) (r : Role) (nodes : List Node) (e : NoField)
    → 1 ≤ length nodes → Reads (AreParams d source role_is.Parameter) (drop 1 nodes) (Err e)
    → Reads (IsItem d source r) nodes (Err (shift_fault 1 e))
item_wrong d source r nodes OutOfMemory l w = tt
item_wrong d source r [] (Invalid i) l w = absurd (let k : ⊥ = omega arith in k)
item_wrong d source r (n ∷ ms) (Invalid i) l w =
    wrong_tail (AreParams d source role_is.Parameter) (IsItem d source r) n ms i (1 + i) inner []
    (no_nodes d source role_is.Parameter) refl w
  where
    inner : (more : List Node) (y : Item) → IsItem d source r (n ∷ more) y
        → (x : Pairs Bare) × AreParams d source role_is.Parameter more x
    inner more y ((m, ms, e, h, q), v) =
        let same : ms ≡ more = cc in
        (y.params, (subst (λ z. DescribesParams d source role_is.Parameter z y.params) same q, v.1))

pub inner_wrong : (d : Dialect) (source : List ℕ) (nodes : List Node) (e : NoField)
    → 1 ≤ length nodes → Reads (IsInside d source) (drop 1 nodes) (Err e)
    → Reads (IsInner d source) nodes (Err (shift_fault 1 e))
inner_wrong d source nodes OutOfMemory l w = tt
inner_wrong d source [] (Invalid i) l w = absurd (let k : ⊥ = omega arith in k)
inner_wrong d source (n ∷ ms) (Invalid i) l w =
    wrong_tail (IsInside d source) (IsInner d source) n ms i (1 + i) inner none empty refl w
  where
    inner : (more : List Node) (y : Inner) → IsInner d source (n ∷ more) y
        → (x : Inner) × IsInside d source more x
    inner more y ((m, items, params, e, h, r, q), v) =
        let same : more ≡ items ++ params = cc in
        (y, (items, params, same, r, q, v))

    none : Inner
    none = record { items = []; params = [] }

    empty : IsInside d source [] none
    empty = ([], [], refl, refl, refl, (tt, (tt, (AreEntries-none {V = Bare}).distinct)))

pub gives_none : {X : Type 0} (P : X → Type 0) (o : Option X) → Gives P o → o ≡ None
    → (x : X) → P x → ⊥
gives_none P o g e = let k = subst (Gives P) e g in k

pub gives_some : {X : Type 0} (P : X → Type 0) (o : Option X) (x : X) → Gives P o → o ≡ Some x → P x
gives_some P o x g e = let k = subst (Gives P) e g in k

-- the first node of the rest is one of an Item
pub starts_some : (rest : List Node) → StartsItem rest → 1 ≤ length rest
starts_some [] s = absurd s
starts_some (n ∷ rest) s = omega arith

pub starts_role : (rest more : List Node) (n : Node) → StartsItem rest → rest ≡ n ∷ more
    → n.role ≡ role_number role_is.InnerItem
starts_role rest more n s e = let k = subst StartsItem e s in k

-- the parameters after the Items of an Inner List are wrong
params_stuck : (d : Dialect) (source : List ℕ) (n : Node) (more others : List Node) (i : ℕ)
    (all left : List Item) → (n.role ≡ role_number role_is.InnerItem → ⊥)
    → IsWrongAt (AreParams d source role_is.InnerParameter) (n ∷ more) i
    → length others ≡ length (n ∷ more) → take (suc i) others ≡ take (suc i) (n ∷ more)
    → After (InnerItem d source) (ValidItem d) AnyList (ParamsEnd d source) AnyTwo all others left
    → ⊥
params_stuck d source n more others i all left bad w same agree h = by left h.body h.parts h.split
  where
    by : (left : List Item) (body : List Node) → Parts (InnerItem d source) body left
        → others ≡ body ++ h.tail → ⊥
    by [] body p e =
        let is : others ≡ h.tail = e ∙ ap (λ y. y ++ h.tail) p in
        w.stuck others same agree h.ends.0
        (subst (λ y. AreParams d source role_is.InnerParameter y h.ends.0) (sym is) h.ends.1)
    by (x ∷ xs) body (f, b, g, p, r) e =
        let o = item_opens d source role_is.InnerItem [] f x p in
        let s = first_same others more n i same agree in
        let both : o.first ∷ (o.more ++ (b ++ h.tail)) ≡ n ∷ s.0 =
        sym (ap (λ y. y ++ (b ++ h.tail)) o.begins)
        ∙ sym (append_assoc f b h.tail)
        ∙ sym (ap (λ y. y ++ h.tail) g)
        ∙ sym e
        ∙ s.1 in
        let one : o.first ≡ n = heads o.first n (o.more ++ (b ++ h.tail)) s.0 both in
        bad
        (subst (λ y. y.role ≡ role_number role_is.InnerItem) one
        (item_role d source o.first f o.more x p o.begins))

pub inside_end : (d : Dialect) (source : List ℕ) (nodes rest : List Node) (all : List Item)
    (e : NoField) → SoFar (InnerItem d source) (ValidItem d) nodes rest all
    → (StartsItem rest → ⊥) → Reads (AreParams d source role_is.InnerParameter) rest (Err e)
    → Reads (IsInside d source) nodes (Err (shift_fault (length nodes - length rest) e))
inside_end d source nodes rest all OutOfMemory so none w = tt
inside_end d source nodes [] all (Invalid i) so none w =
    absurd (w.stuck [] refl refl [] (no_nodes d source role_is.InnerParameter))
inside_end d source nodes (n ∷ more) all (Invalid i) so none w =
    after_wrong source (InnerItem d source) (ValidItem d) AnyList (ParamsEnd d source) AnyTwo
    (inside_laws d source) (IsInside d source) (whole_inside d source) nodes (n ∷ more) all i
    (length nodes - length (n ∷ more) + i) so (omega arith) refl
    (record {
      within = w.within;
      stuck = λ others same agree left h.
          params_stuck d source n more others i all left none w same agree h;
    })
