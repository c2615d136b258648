-- Nodes describe one value: no two fields of a kind have the same nodes with the same source.
use Rattle.std.proofs.Common.{◌≡◌, ℕ, ◌+◌, ℤ, pos, zero, Bool, true, false, ◌==◌}
use Rattle.std.proofs.Common.{List as Seq, [], ◌∷◌, ◌++◌, length, refl, sym, ap, ◌∙◌, subst}
use Rattle.std.proofs.Common.{cond, append-nil}
use Rattle.sf_value.specs.declared.dialect.Dialect.{Dialect}
use Rattle.sf_value.specs.declared.value.Bare.{Bare}
use Rattle.sf_value.specs.declared.value.Bare.TheVariants.{Integer, Decimal, Text, Token}
use Rattle.sf_value.specs.declared.value.Bare.TheVariants.{Blob, Boolean, Date, Shown}
use Rattle.sf_value.specs.declared.value.Item.{Item}
use Rattle.sf_value.specs.declared.value.Inner.{Inner}
use Rattle.sf_value.specs.declared.value.Member.{Member}
use Rattle.sf_value.specs.declared.value.Member.TheVariants as member
use Rattle.sf_value.specs.declared.value.Field.{Field}
use Rattle.sf_value.specs.declared.value.Field.TheVariants as field
use Rattle.sf_value.specs.declared.value.Kind.TheVariants as kind
use Rattle.sf_value.specs.Grammar.BareItems.{SpellsBare}
use Rattle.sf_value.specs.Grammar.Fields.{SpellsField, kind_of, list_of, dict_of}
use Rattle.sf_value.specs.Grammar.Items.{item}
use Rattle.sf_value.specs.Grammar.Pairs.{Pairs}
use Rattle.sf_parse.specs.Laws.{OneValue}
use Rattle.sf_view.specs.declared.node.Node.{Node}
use Rattle.sf_view.specs.declared.node_types.Role.{Role}
use Rattle.sf_view.specs.declared.node_types.Role.TheVariants as roles
use Rattle.sf_view.specs.NodeTypes.{type_number, is_coded}
use Rattle.sf_view.specs.View.{slice_at, type_of, number_of, text_of, DescribesText, DescribesBare}
use Rattle.sf_view.specs.View.{DescribesParams, DescribesItem, DescribesItems, DescribesInner}
use Rattle.sf_view.specs.View.{DescribesMember, DescribesMembers, DescribesEntries, DescribesField}
use Rattle.sf_view.specs.Finding.{IsHop, IsSplitAtParams}
use Rattle.sf_view.proofs.Hops.{Opens, SamePart, item_opens, opens, same_part}
use Rattle.sf_view.proofs.Splitting.{all_params, inside_items, bare_type, inner_is}

-- the Boolean of a number
abbrev truth : ℤ → Bool
truth (pos zero) = false
truth n = true

-- the bare item of a type, a number and bytes
abbrev bare_by : ℕ → ℤ → Seq ℕ → Bare
bare_by n z s =
    cond (n == 22) (Integer z)
    (cond (n == 23) (Decimal z)
    (cond (n == 24) (Text s)
    (cond (n == 25) (Token s)
    (cond (n == 26) (Blob s)
    (cond (n == 27) (Boolean (truth z))
    (cond (n == 28) (Date z) (Shown s)))))))

bare_is : (x : Bare) → bare_by (type_number (type_of x)) (number_of x) (text_of x) ≡ x
bare_is (Boolean true) = refl
bare_is (Boolean false) = refl
bare_is x = refl

-- the bare item that a text spells is the only one: as an Item it is the only field
abbrev bare_in : Bare → Field → Bare
bare_in x (field.Item i) = i.bare
bare_in x v = x

spelled_alone : (d : Dialect) (t : Seq ℕ) (x : Bare) → SpellsBare d t x
    → SpellsField d kind.Item t (field.Item (item x []))
spelled_alone d t x h = (
  [],
  t,
  [],
  sym (append-nil t),
  tt,
  (t, [], sym (append-nil t), h, ([], refl, refl)),
  tt,
)

spelled_once : OneValue → (d : Dialect) (t : Seq ℕ) (x y : Bare) → SpellsBare d t x
    → SpellsBare d t y → x ≡ y
spelled_once one d t x y h k =
    ap (bare_in x)
    (one d kind.Item t (field.Item (item x [])) (field.Item (item y [])) (spelled_alone d t x h)
    (spelled_alone d t y k))

-- a node describes one bare item
one_bare : OneValue → (d : Dialect) (source : Seq ℕ) (r r' : Role) (k k' : Seq ℕ) (s s' : ℕ)
    (n : Node) (x y : Bare) → DescribesBare d source r k s n x → DescribesBare d source r' k' s' n y
    → x ≡ y
one_bare one d source r r' k k' s s' n x y h j = by (is_coded n.coded) h.text j.text
  where
    raw : Seq ℕ
    raw = slice_at n.text_at n.text_length source

    by : (b : Bool) → DescribesText d b raw x → DescribesText d b raw y → x ≡ y
    by true t u = spelled_once one d raw x y t u
    by false t u =
        sym (bare_is x)
        ∙ ap (λ z. bare_by z (number_of x) (text_of x)) (sym h.node_type ∙ j.node_type)
        ∙ ap (λ z. bare_by (type_number (type_of y)) z (text_of x)) (sym h.number ∙ j.number)
        ∙ ap (bare_by (type_number (type_of y)) (number_of y)) (sym t ∙ u)
        ∙ bare_is y

-- the first node, and the others
heads_node : (n m : Node) (ns ms : Seq Node) → n ∷ ns ≡ m ∷ ms → (n ≡ m) × (ns ≡ ms)
heads_node n m ns ms e = (ap (first n) e, ap others e)
  where
    first : Node → Seq Node → Node
    first d [] = d
    first d (x ∷ xs) = x

    others : Seq Node → Seq Node
    others [] = []
    others (x ∷ xs) = xs

no_nodes : (ns ms : Seq Node) (n : Node) → ns ≡ [] → ns ≡ n ∷ ms → ⊥
no_nodes ns ms n e f = let g : [] ≡ n ∷ ms = sym e ∙ f in absurd cc

no_part : (source k : Seq ℕ) (ns prefix suffix : Seq Node) → ns ≡ [] → ns ≡ prefix ++ suffix
    → Opens source k prefix → ⊥
no_part source k ns prefix suffix e f o =
    no_nodes ns (o.more ++ suffix) o.first e (f ∙ ap (λ y. y ++ suffix) o.begins)

one_params : OneValue → (d : Dialect) (source : Seq ℕ) (r r' : Role) (ns : Seq Node)
    (ps qs : Pairs Bare) → DescribesParams d source r ns ps → DescribesParams d source r' ns qs
    → ps ≡ qs
one_params one d source r r' ns [] [] e f = refl
one_params one d source r r' ns [] (q ∷ qs) e (n, ms, f, t, more) = absurd (no_nodes ns ms n e f)
one_params one d source r r' ns (p ∷ ps) [] (n, ms, e, t, more) f = absurd (no_nodes ns ms n f e)
one_params one d source r r' ns ((k, x) ∷ ps) ((l, y) ∷ qs) (n, ms, e, t, more)
    (m, os, f, u, rest) =
    let both = heads_node n m ms os (sym e ∙ f) in
    let same : DescribesBare d source r k 1 m x
    = subst (λ z. DescribesBare d source r k 1 z x) both.0 t in
    let key : k ≡ l = sym same.key ∙ u.key in
    let value = one_bare one d source r r' k l 1 1 m x y same u in
    let others = one_params one d source r r' os ps qs
    (subst (λ z. DescribesParams d source r z ps) both.1 more) rest in
    rw (key, value, others) refl

same_item : (i j : Item) → i.bare ≡ j.bare → i.params ≡ j.params → i ≡ j
same_item i j a b = ap (λ x. item x i.params) a ∙ ap (λ ps. item j.bare ps) b

one_item : OneValue → (d : Dialect) (source : Seq ℕ) (r r' : Role) (k k' : Seq ℕ) (ns : Seq Node)
    (i j : Item) → DescribesItem d source r k ns i → DescribesItem d source r' k' ns j → i ≡ j
one_item one d source r r' k k' ns i j (n, ms, e, t, more) (m, os, f, u, rest) =
    let both = heads_node n m ms os (sym e ∙ f) in
    let same : DescribesBare d source r k (1 + length ms) m i.bare
    = subst (λ z. DescribesBare d source r k (1 + length ms) z i.bare) both.0 t in
    same_item i j
    (one_bare one d source r r' k k' (1 + length ms) (1 + length os) m i.bare j.bare same u)
    (one_params one d source roles.Parameter roles.Parameter os i.params j.params
    (subst (λ z. DescribesParams d source roles.Parameter z i.params) both.1 more) rest)

-- the same nodes begin with one part
one_prefix : (source j k : Seq ℕ) (ns prefix suffix own rest : Seq Node) → Opens source j prefix
    → Opens source k own → ns ≡ prefix ++ suffix → ns ≡ own ++ rest → SamePart j k prefix suffix own rest
one_prefix source j k ns prefix suffix own rest o q e f =
    let hop : IsHop source ns j prefix suffix = record {
      first = o.first;
      more = o.more;
      begins = o.begins;
      split = e;
      key = sym o.key;
      size = o.size;
    } in
    same_part source k ns own rest j prefix suffix q f hop

one_items : OneValue → (d : Dialect) (source : Seq ℕ) (ns : Seq Node) (is js : Seq Item)
    → DescribesItems d source ns is → DescribesItems d source ns js → is ≡ js
one_items one d source ns [] [] e f = refl
one_items one d source ns [] (j ∷ js) e (own, rest, f, u, w) =
    absurd
    (no_part source [] ns own rest e f (item_opens d source roles.InnerItem [] own j u))
one_items one d source ns (i ∷ is) [] (prefix, suffix, e, t, q) f =
    absurd
    (no_part source [] ns prefix suffix f e (item_opens d source roles.InnerItem [] prefix i t))
one_items one d source ns (i ∷ is) (j ∷ js) (prefix, suffix, e, t, q) (own, rest, f, u, w) =
    let s = one_prefix source [] [] ns prefix suffix own rest
    (item_opens d source roles.InnerItem [] prefix i t)
    (item_opens d source roles.InnerItem [] own j u) e f in
    let first = one_item one d source roles.InnerItem roles.InnerItem [] [] own i j
    (subst (λ z. DescribesItem d source roles.InnerItem [] z i) s.here t) u in
    let others = one_items one d source rest is js
    (subst (λ z. DescribesItems d source z is) s.others q) w in
    rw (first, others) refl

abbrev inner_of : Seq Item → Pairs Bare → Inner
inner_of is ps = record { items = is; params = ps }

one_inner : OneValue → (d : Dialect) (source k k' : Seq ℕ) (ns : Seq Node) (l m : Inner)
    → DescribesInner d source k ns l → DescribesInner d source k' ns m → l ≡ m
one_inner one d source k k' ns l m (n, items, params, e, t, q, r) u =
    let split : IsSplitAtParams ns items params = record {
      opening = n;
      split = e;
      is_inner = t.node_type;
      before = inside_items d source items l.items q;
      behind = all_params d source params l.params r;
    } in
    let other = inner_is d source k' ns m items params split u in
    let a = one_items one d source items l.items m.items q other.inside in
    let b = one_params one d source roles.InnerParameter roles.InnerParameter params l.params
    m.params r other.behind in
    ap (λ is. inner_of is l.params) a ∙ ap (λ ps. inner_of m.items ps) b

-- an Item is no Inner List
not_both : (d : Dialect) (source : Seq ℕ) (r : Role) (k k' : Seq ℕ) (ns : Seq Node) (i : Item)
    (l : Inner) → DescribesItem d source r k ns i → DescribesInner d source k' ns l → ⊥
not_both d source r k k' ns i l (n, ms, e, t, more) (m, items, params, f, u, q, w) =
    let both = heads_node n m ms (items ++ params) (sym e ∙ f) in
    bare_type i.bare (sym t.node_type ∙ ap (λ y. y.node_type) both.0 ∙ u.node_type)

one_member : OneValue → (d : Dialect) (source k k' : Seq ℕ) (ns : Seq Node) (x y : Member)
    → DescribesMember d source k ns x → DescribesMember d source k' ns y → x ≡ y
one_member one d source k k' ns (member.Item i) (member.Item j) t u =
    ap member.Item (one_item one d source roles.Member roles.Member k k' ns i j t u)
one_member one d source k k' ns (member.Inner l) (member.Inner m) t u =
    ap member.Inner (one_inner one d source k k' ns l m t u)
one_member one d source k k' ns (member.Item i) (member.Inner m) t u =
    absurd (not_both d source roles.Member k k' ns i m t u)
one_member one d source k k' ns (member.Inner l) (member.Item j) t u =
    absurd (not_both d source roles.Member k' k ns j l u t)

one_members : OneValue → (d : Dialect) (source : Seq ℕ) (ns : Seq Node) (xs ys : Seq Member)
    → DescribesMembers d source ns xs → DescribesMembers d source ns ys → xs ≡ ys
one_members one d source ns [] [] e f = refl
one_members one d source ns [] (y ∷ ys) e (own, rest, f, u, w) =
    absurd (no_part source [] ns own rest e f (opens d source [] own y u))
one_members one d source ns (x ∷ xs) [] (prefix, suffix, e, t, q) f =
    absurd (no_part source [] ns prefix suffix f e (opens d source [] prefix x t))
one_members one d source ns (x ∷ xs) (y ∷ ys) (prefix, suffix, e, t, q) (own, rest, f, u, w) =
    let s = one_prefix source [] [] ns prefix suffix own rest (opens d source [] prefix x t)
    (opens d source [] own y u) e f in
    let first = one_member one d source [] [] own x y
    (subst (λ z. DescribesMember d source [] z x) s.here t) u in
    let others = one_members one d source rest xs ys
    (subst (λ z. DescribesMembers d source z xs) s.others q) w in
    rw (first, others) refl

one_entries : OneValue → (d : Dialect) (source : Seq ℕ) (ns : Seq Node) (ps qs : Pairs Member)
    → DescribesEntries d source ns ps → DescribesEntries d source ns qs → ps ≡ qs
one_entries one d source ns [] [] e f = refl
one_entries one d source ns [] ((l, y) ∷ qs) e (own, rest, f, u, w) =
    absurd (no_part source l ns own rest e f (opens d source l own y u))
one_entries one d source ns ((k, x) ∷ ps) [] (prefix, suffix, e, t, q) f =
    absurd (no_part source k ns prefix suffix f e (opens d source k prefix x t))
one_entries one d source ns ((k, x) ∷ ps) ((l, y) ∷ qs) (prefix, suffix, e, t, q)
    (own, rest, f, u, w) =
    let s = one_prefix source k l ns prefix suffix own rest (opens d source k prefix x t)
    (opens d source l own y u) e f in
    let key = s.key in
    let value = one_member one d source k l own x y
    (subst (λ z. DescribesMember d source k z x) s.here t) u in
    let others = one_entries one d source rest ps qs
    (subst (λ z. DescribesEntries d source z ps) s.others q) w in
    rw (key, value, others) refl

-- two fields of a kind that the same nodes describe
pub one_field : OneValue → (d : Dialect) (source : Seq ℕ) (ns : Seq Node) (v w : Field)
    → kind_of v ≡ kind_of w → DescribesField d source ns v → DescribesField d source ns w → v ≡ w
one_field one d source ns (field.Item i) (field.Item j) h t u =
    ap field.Item (one_item one d source roles.Member roles.Member [] [] ns i j t u)
one_field one d source ns (field.List l) (field.List m) h t u =
    ap list_of (one_members one d source ns l.members m.members t u)
one_field one d source ns (field.Dict l) (field.Dict m) h t u =
    ap dict_of (one_entries one d source ns l.members m.members t u)
one_field one d source ns (field.Item i) (field.List m) h t u =
    let never : kind.Item ≡ kind.List = h in absurd cc
one_field one d source ns (field.Item i) (field.Dict m) h t u =
    let never : kind.Item ≡ kind.Dict = h in absurd cc
one_field one d source ns (field.List l) (field.Item j) h t u =
    let never : kind.List ≡ kind.Item = h in absurd cc
one_field one d source ns (field.List l) (field.Dict m) h t u =
    let never : kind.List ≡ kind.Dict = h in absurd cc
one_field one d source ns (field.Dict l) (field.Item j) h t u =
    let never : kind.Dict ≡ kind.Item = h in absurd cc
one_field one d source ns (field.Dict l) (field.List m) h t u =
    let never : kind.Dict ≡ kind.List = h in absurd cc
