-- Nodes that mean the same with another source describe the same.
use Rattle.std.proofs.Common.{◌≡◌, ℕ, ◌+◌, List, [], ◌∷◌, ◌++◌, length, refl, sym, ap, ◌∙◌, subst}
use Rattle.std.proofs.Common.{arith, length-append}
use Rattle.sf_value.specs.declared.dialect.Dialect.{Dialect}
use Rattle.sf_value.specs.declared.value.Bare.{Bare}
use Rattle.sf_value.specs.declared.value.Item.{Item}
use Rattle.sf_value.specs.declared.value.Inner.{Inner}
use Rattle.sf_value.specs.declared.value.Member.{Member}
use Rattle.sf_value.specs.declared.value.Member.TheVariants as member
use Rattle.sf_value.specs.declared.value.Field.{Field}
use Rattle.sf_value.specs.declared.value.Field.TheVariants as field
use Rattle.sf_value.specs.Grammar.Pairs.{Pairs}
use Rattle.sf_view.specs.declared.node.Node.{Node}
use Rattle.sf_view.specs.declared.node_types.Role.{Role}
use Rattle.sf_view.specs.declared.node_types.Role.TheVariants as role_is
use Rattle.sf_view.specs.NodeTypes.{is_coded}
use Rattle.sf_view.specs.View.{DescribesText, DescribesBare, DescribesParams, DescribesItem}
use Rattle.sf_view.specs.View.{DescribesItems, DescribesOpening, DescribesInner, DescribesMember}
use Rattle.sf_view.specs.View.{DescribesMembers, DescribesEntries, DescribesField}
use Rattle.sf_c.specs.Decodings.{Means, EachMeans}
use Rattle.sf_nodes.proofs.Slices.{slice_at-append}

-- a node describes the same with more bytes after its source
pub bare_stays : (d : Dialect) (source more : List ℕ) (r : Role) (k : List ℕ) (size : ℕ) (n : Node)
    (x : Bare) → DescribesBare d source r k size n x → DescribesBare d (source ++ more) r k size n x
bare_stays d source more r k size n x h =
    let longer = length-append source more in
    let key = h.key_within in
    let text = h.text_within in
    record {
      role = h.role;
      size = h.size;
      key_within = omega arith;
      key = slice_at-append n.key_at n.key_length source more h.key_within ∙ h.key;
      node_type = h.node_type;
      number = h.number;
      text_within = omega arith;
      text =
          subst (λ y. DescribesText d (is_coded n.coded) y x)
          (sym (slice_at-append n.text_at n.text_length source more h.text_within)) h.text;
    }

pub opening_stays : (source more k : List ℕ) (size : ℕ) (n : Node)
    → DescribesOpening source k size n → DescribesOpening (source ++ more) k size n
opening_stays source more k size n h =
    let longer = length-append source more in
    let key = h.key_within in
    record {
      role = h.role;
      size = h.size;
      key_within = omega arith;
      key = slice_at-append n.key_at n.key_length source more h.key_within ∙ h.key;
      node_type = h.node_type;
      number = h.number;
      empty = h.empty;
    }

means_more : (old new more : List ℕ) (n m : Node) → Means old new n m
    → Means old (new ++ more) n m
means_more old new more n m h = record {
  bare = λ d r k size x t. bare_stays d new more r k size m x (h.bare d r k size x t);
  opening = λ k size t. opening_stays new more k size m (h.opening k size t);
}

pub each_more : (old new more : List ℕ) (ns ms : List Node) → EachMeans old new ns ms
    → EachMeans old (new ++ more) ns ms
each_more old new more [] [] h = tt
each_more old new more (n ∷ ns) (m ∷ ms) h =
    (means_more old new more n m h.0, each_more old new more ns ms h.1)
each_more old new more ns ms h = absurd h

pub each_push : (old new : List ℕ) (ns ms : List Node) (n m : Node) → EachMeans old new ns ms
    → Means old new n m → EachMeans old new (ns ++ n ∷ []) (ms ++ m ∷ [])
each_push old new [] [] n m h t = (t, tt)
each_push old new (a ∷ ns) (b ∷ ms) n m h t = (h.0, each_push old new ns ms n m h.1 t)
each_push old new ns ms n m h t = absurd h

each_length : (old new : List ℕ) (ns ms : List Node) → EachMeans old new ns ms
    → length ns ≡ length ms
each_length old new [] [] h = refl
each_length old new (n ∷ ns) (m ∷ ms) h = omega (arith, each_length old new ns ms h.1)
each_length old new ns ms h = absurd h

-- the others, if there are no nodes, the first of them, or two lists of them
each_none : (old new : List ℕ) (ns ms : List Node) → ns ≡ [] → EachMeans old new ns ms → ms ≡ []
each_none old new ns [] e h = refl
each_none old new ns (m ∷ ms) e h = absurd (rw e at h)

record First (old new : List ℕ) (n : Node) (ns ms : List Node) : Type 0 where
  first : Node
  others : List Node
  split : ms ≡ first ∷ others
  means : Means old new n first
  rest : EachMeans old new ns others

each_first : (old new : List ℕ) (all : List Node) (n : Node) (ns ms : List Node) → all ≡ n ∷ ns
    → EachMeans old new all ms → First old new n ns ms
each_first old new all n ns [] e h = absurd (rw e at h)
each_first old new all n ns (m ∷ ms) e h =
    let k = rw e at h in
    record { first = m; others = ms; split = refl; means = k.0; rest = k.1 }

record Halves (old new : List ℕ) (prefix suffix ms : List Node) : Type 0 where
  left : List Node
  right : List Node
  split : ms ≡ left ++ right
  before : EachMeans old new prefix left
  behind : EachMeans old new suffix right

halves : (old new : List ℕ) (prefix suffix ms : List Node) → EachMeans old new (prefix ++ suffix) ms
    → Halves old new prefix suffix ms
halves old new [] suffix ms h =
    record { left = []; right = ms; split = refl; before = tt; behind = h }
halves old new (n ∷ prefix) suffix [] h = absurd h
halves old new (n ∷ prefix) suffix (m ∷ ms) h =
    let r = halves old new prefix suffix ms h.1 in
    record {
      left = m ∷ r.left;
      right = r.right;
      split = ap (λ y. m ∷ y) r.split;
      before = (h.0, r.before);
      behind = r.behind;
    }

each_halves : (old new : List ℕ) (all prefix suffix ms : List Node) → all ≡ prefix ++ suffix
    → EachMeans old new all ms → Halves old new prefix suffix ms
each_halves old new all prefix suffix ms e h = halves old new prefix suffix ms (rw e at h)

-- the parts of a field
params_carry : (d : Dialect) (old new : List ℕ) (r : Role) (ns ms : List Node) (ps : Pairs Bare)
    → DescribesParams d old r ns ps → EachMeans old new ns ms → DescribesParams d new r ms ps
params_carry d old new r ns ms [] e h = each_none old new ns ms e h
params_carry d old new r ns ms (p ∷ ps) (n, rest, e, t, q) h =
    let f = each_first old new ns n rest ms e h in (
      f.first,
      f.others,
      f.split,
      f.means.bare d r p.0 1 p.1 t,
      params_carry d old new r rest f.others ps q f.rest,
    )

item_carry : (d : Dialect) (old new : List ℕ) (r : Role) (k : List ℕ) (ns ms : List Node) (i : Item)
    → DescribesItem d old r k ns i → EachMeans old new ns ms → DescribesItem d new r k ms i
item_carry d old new r k ns ms i (n, rest, e, t, q) h =
    let f = each_first old new ns n rest ms e h in
    let same = each_length old new rest f.others f.rest in (
      f.first,
      f.others,
      f.split,
      subst (λ s. DescribesBare d new r k (1 + s) f.first i.bare) same
          (f.means.bare d r k (1 + length rest) i.bare t),
      params_carry d old new role_is.Parameter rest f.others i.params q f.rest,
    )

items_carry : (d : Dialect) (old new : List ℕ) (ns ms : List Node) (is : List Item)
    → DescribesItems d old ns is → EachMeans old new ns ms → DescribesItems d new ms is
items_carry d old new ns ms [] e h = each_none old new ns ms e h
items_carry d old new ns ms (i ∷ is) (prefix, suffix, e, t, q) h =
    let f = each_halves old new ns prefix suffix ms e h in (
      f.left,
      f.right,
      f.split,
      item_carry d old new role_is.InnerItem [] prefix f.left i t f.before,
      items_carry d old new suffix f.right is q f.behind,
    )

inner_carry : (d : Dialect) (old new k : List ℕ) (ns ms : List Node) (l : Inner)
    → DescribesInner d old k ns l → EachMeans old new ns ms → DescribesInner d new k ms l
inner_carry d old new k ns ms l (n, items, params, e, t, q, r) h =
    let f = each_first old new ns n (items ++ params) ms e h in
    let g = halves old new items params f.others f.rest in
    let same = each_length old new (items ++ params) f.others f.rest ∙ ap length g.split in (
      f.first,
      g.left,
      g.right,
      f.split ∙ ap (λ y. f.first ∷ y) g.split,
      subst (λ s. DescribesOpening new k (1 + s) f.first) same
          (f.means.opening k (1 + length (items ++ params)) t),
      items_carry d old new items g.left l.items q g.before,
      params_carry d old new role_is.InnerParameter params g.right l.params r g.behind,
    )

member_carry : (d : Dialect) (old new k : List ℕ) (ns ms : List Node) (x : Member)
    → DescribesMember d old k ns x → EachMeans old new ns ms → DescribesMember d new k ms x
member_carry d old new k ns ms (member.Item i) t h =
    item_carry d old new role_is.Member k ns ms i t h
member_carry d old new k ns ms (member.Inner l) t h = inner_carry d old new k ns ms l t h

members_carry : (d : Dialect) (old new : List ℕ) (ns ms : List Node) (xs : List Member)
    → DescribesMembers d old ns xs → EachMeans old new ns ms → DescribesMembers d new ms xs
members_carry d old new ns ms [] e h = each_none old new ns ms e h
members_carry d old new ns ms (x ∷ xs) (prefix, suffix, e, t, q) h =
    let f = each_halves old new ns prefix suffix ms e h in (
      f.left,
      f.right,
      f.split,
      member_carry d old new [] prefix f.left x t f.before,
      members_carry d old new suffix f.right xs q f.behind,
    )

entries_carry : (d : Dialect) (old new : List ℕ) (ns ms : List Node) (ps : Pairs Member)
    → DescribesEntries d old ns ps → EachMeans old new ns ms → DescribesEntries d new ms ps
entries_carry d old new ns ms [] e h = each_none old new ns ms e h
entries_carry d old new ns ms (p ∷ ps) (prefix, suffix, e, t, q) h =
    let f = each_halves old new ns prefix suffix ms e h in (
      f.left,
      f.right,
      f.split,
      member_carry d old new p.0 prefix f.left p.1 t f.before,
      entries_carry d old new suffix f.right ps q f.behind,
    )

pub field_carry : (d : Dialect) (old new : List ℕ) (ns ms : List Node) (v : Field)
    → DescribesField d old ns v → EachMeans old new ns ms → DescribesField d new ms v
field_carry d old new ns ms (field.Item i) t h =
    item_carry d old new role_is.Member [] ns ms i t h
field_carry d old new ns ms (field.List l) t h = members_carry d old new ns ms l.members t h
field_carry d old new ns ms (field.Dict m) t h = entries_carry d old new ns ms m.members t h
