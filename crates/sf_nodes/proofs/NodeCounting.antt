-- How many nodes and bytes there are: of the parts of a value, and of nodes that describe one.
use Rattle.std.proofs.Common.{◌≡◌, ℕ, ◌+◌, List, [], ◌∷◌, ◌++◌, length, refl, ap, ◌∙◌, arith}
use Rattle.std.proofs.Common.{length-append}
use Rattle.sf_value.specs.declared.dialect.Dialect.{Dialect}
use Rattle.sf_value.specs.declared.value.Bare.{Bare}
use Rattle.sf_value.specs.declared.value.Item.{Item}
use Rattle.sf_value.specs.declared.value.Member.{Member}
use Rattle.sf_value.specs.declared.value.Member.TheVariants as member
use Rattle.sf_value.specs.declared.value.Field.{Field}
use Rattle.sf_value.specs.declared.value.Field.TheVariants as field
use Rattle.sf_value.specs.Grammar.Pairs.{Pairs}
use Rattle.sf_view.specs.declared.node.Node.{Node}
use Rattle.sf_view.specs.declared.node_types.Role.{Role}
use Rattle.sf_view.specs.declared.node_types.Role.TheVariants as roles
use Rattle.sf_view.specs.View.{DescribesParams, DescribesItem, DescribesItems}
use Rattle.sf_view.specs.View.{DescribesMember, DescribesMembers, DescribesEntries, DescribesField}
use Rattle.sf_nodes.specs.NodeContents.{NodeContent, content_size}
use Rattle.sf_nodes.specs.Nodes.{params_content, item_content, items_content, member_content}
use Rattle.sf_nodes.specs.Nodes.{members_content, entries_content, field_content}
use Rattle.sf_nodes.specs.NodeCounts.{item_nodes, items_nodes, member_nodes, members_nodes}
use Rattle.sf_nodes.specs.NodeCounts.{entries_nodes, field_nodes, params_bytes, item_bytes}
use Rattle.sf_nodes.specs.NodeCounts.{items_bytes, member_bytes, members_bytes, entries_bytes}
use Rattle.sf_nodes.specs.NodeCounts.{field_bytes}
use Rattle.sf_nodes.proofs.ContentLemmas.{content_size-append}

-- parts are so many, with so many bytes
record Counted (ts : List NodeContent) (count size : ℕ) : Type 0 where
  nodes : length ts ≡ count
  bytes : content_size ts ≡ size

counted_append : (ts us : List NodeContent) (n m b c : ℕ) → Counted ts n b → Counted us m c
    → Counted (ts ++ us) (n + m) (b + c)
counted_append ts us n m b c h k =
    let e = length-append ts us in
    let f = content_size-append ts us in
    let p = h.nodes in
    let q = h.bytes in
    let r = k.nodes in
    let s = k.bytes in
    record { nodes = omega arith; bytes = omega arith }

params_counted : (r : Role) (ps : Pairs Bare)
    → Counted (params_content r ps) (length ps) (params_bytes ps)
params_counted r [] = record { nodes = refl; bytes = refl }
params_counted r (p ∷ ps) =
    let h = params_counted r ps in
    let n = h.nodes in
    let b = h.bytes in
    record { nodes = omega arith; bytes = omega arith }

item_counted : (r : Role) (k : List ℕ) (i : Item)
    → Counted (item_content r k i) (item_nodes i) (length k + item_bytes i)
item_counted r k i =
    let h = params_counted roles.Parameter i.params in
    let n = h.nodes in
    let b = h.bytes in
    record { nodes = omega arith; bytes = omega arith }

items_counted : (is : List Item) → Counted (items_content is) (items_nodes is) (items_bytes is)
items_counted [] = record { nodes = refl; bytes = refl }
items_counted (i ∷ is) =
    let h = counted_append (item_content roles.InnerItem [] i) (items_content is) _ _ _ _
    (item_counted roles.InnerItem [] i) (items_counted is) in
    let n = h.nodes in
    let b = h.bytes in
    record { nodes = omega arith; bytes = omega arith }

member_counted : (k : List ℕ) (m : Member)
    → Counted (member_content k m) (member_nodes m) (length k + member_bytes m)
member_counted k (member.Item i) = item_counted roles.Member k i
member_counted k (member.Inner l) =
    let h = counted_append (items_content l.items)
    (params_content roles.InnerParameter l.params) _ _ _ _ (items_counted l.items)
    (params_counted roles.InnerParameter l.params) in
    let n = h.nodes in
    let b = h.bytes in
    record { nodes = omega arith; bytes = omega arith }

members_counted : (ms : List Member)
    → Counted (members_content ms) (members_nodes ms) (members_bytes ms)
members_counted [] = record { nodes = refl; bytes = refl }
members_counted (m ∷ ms) =
    let h = counted_append (member_content [] m) (members_content ms) _ _ _ _ (member_counted [] m)
    (members_counted ms) in
    let n = h.nodes in
    let b = h.bytes in
    record { nodes = omega arith; bytes = omega arith }

entries_counted : (ps : Pairs Member)
    → Counted (entries_content ps) (entries_nodes ps) (entries_bytes ps)
entries_counted [] = record { nodes = refl; bytes = refl }
entries_counted (p ∷ ps) =
    counted_append (member_content p.0 p.1) (entries_content ps) _ _ _ _ (member_counted p.0 p.1)
    (entries_counted ps)

field_counted : (v : Field) → Counted (field_content v) (field_nodes v) (field_bytes v)
field_counted (field.Item i) =
    let h = item_counted roles.Member [] i in
    let n = h.nodes in
    let b = h.bytes in
    record { nodes = omega arith; bytes = omega arith }
field_counted (field.List l) = members_counted l.members
field_counted (field.Dict m) = entries_counted m.members

pub content_nodes : (v : Field) → length (field_content v) ≡ field_nodes v
content_nodes v = (field_counted v).nodes

pub content_bytes : (v : Field) → content_size (field_content v) ≡ field_bytes v
content_bytes v = (field_counted v).bytes

-- nodes that describe a value are as many as it has
params_many : (d : Dialect) (source : List ℕ) (r : Role) (ns : List Node) (ps : Pairs Bare)
    → DescribesParams d source r ns ps → length ns ≡ length ps
params_many d source r ns [] e = ap length e
params_many d source r ns (p ∷ ps) (n, ms, e, t, q) =
    let h = params_many d source r ms ps q in
    let same = ap length e in
    omega arith

item_many : (d : Dialect) (source : List ℕ) (r : Role) (k : List ℕ) (ns : List Node) (i : Item)
    → DescribesItem d source r k ns i → length ns ≡ item_nodes i
item_many d source r k ns i (n, ms, e, t, q) =
    let h = params_many d source roles.Parameter ms i.params q in
    let same = ap length e in
    omega arith

items_many : (d : Dialect) (source : List ℕ) (ns : List Node) (is : List Item)
    → DescribesItems d source ns is → length ns ≡ items_nodes is
items_many d source ns [] e = ap length e
items_many d source ns (i ∷ is) (prefix, suffix, e, t, q) =
    let h = item_many d source roles.InnerItem [] prefix i t in
    let k = items_many d source suffix is q in
    let same = ap length e ∙ length-append prefix suffix in
    omega arith

member_many : (d : Dialect) (source k : List ℕ) (ns : List Node) (m : Member)
    → DescribesMember d source k ns m → length ns ≡ member_nodes m
member_many d source k ns (member.Item i) t = item_many d source roles.Member k ns i t
member_many d source k ns (member.Inner l) (n, items, params, e, t, q, r) =
    let h = items_many d source items l.items q in
    let j = params_many d source roles.InnerParameter params l.params r in
    let same = ap length e in
    let both = length-append items params in
    omega arith

members_many : (d : Dialect) (source : List ℕ) (ns : List Node) (ms : List Member)
    → DescribesMembers d source ns ms → length ns ≡ members_nodes ms
members_many d source ns [] e = ap length e
members_many d source ns (m ∷ ms) (prefix, suffix, e, t, q) =
    let h = member_many d source [] prefix m t in
    let k = members_many d source suffix ms q in
    let same = ap length e ∙ length-append prefix suffix in
    omega arith

entries_many : (d : Dialect) (source : List ℕ) (ns : List Node) (ps : Pairs Member)
    → DescribesEntries d source ns ps → length ns ≡ entries_nodes ps
entries_many d source ns [] e = ap length e
entries_many d source ns (p ∷ ps) (prefix, suffix, e, t, q) =
    let h = member_many d source p.0 prefix p.1 t in
    let k = entries_many d source suffix ps q in
    let same = ap length e ∙ length-append prefix suffix in
    omega arith

pub field_many : (d : Dialect) (source : List ℕ) (ns : List Node) (v : Field)
    → DescribesField d source ns v → length ns ≡ field_nodes v
field_many d source ns (field.Item i) t = item_many d source roles.Member [] ns i t
field_many d source ns (field.List l) t = members_many d source ns l.members t
field_many d source ns (field.Dict m) t = entries_many d source ns m.members t
