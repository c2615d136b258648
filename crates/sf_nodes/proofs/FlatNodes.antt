-- The nodes of the parts of a value describe that value.
use Rattle.std.proofs.Common.{◌≡◌, ℕ, ◌+◌, pos, List, [], ◌∷◌, ◌++◌, length, map, refl, sym, ap}
use Rattle.std.proofs.Common.{ap₂, ◌∙◌, ◌<◌, ◌^◌, subst, arith, length-append, take, drop, inr}
use Rattle.std.proofs.lemmas.List.{map-append, length-map}
use Rattle.std.proofs.Math.Seq.{drop-append_seam, take-append_seam}
use Rattle.sf_value.specs.declared.dialect.Dialect.{Dialect}
use Rattle.sf_value.specs.declared.value.Bare.{Bare}
use Rattle.sf_value.specs.declared.value.Item.{Item}
use Rattle.sf_value.specs.declared.value.Inner.{Inner}
use Rattle.sf_value.specs.declared.value.Member.{Member}
use Rattle.sf_value.specs.declared.value.Member.TheVariants as member
use Rattle.sf_value.specs.declared.value.Field.{Field}
use Rattle.sf_value.specs.declared.value.Field.TheVariants as field
use Rattle.sf_value.specs.Grammar.Pairs.{Pairs}
use Rattle.sf_value.specs.Grammar.Words.{Each}
use Rattle.sf_view.specs.declared.node.Node.{Node}
use Rattle.sf_view.specs.declared.node_types.NodeType.TheVariants as types
use Rattle.sf_view.specs.declared.node_types.Role.{Role}
use Rattle.sf_view.specs.declared.node_types.Role.TheVariants as roles
use Rattle.sf_view.specs.NodeTypes.{role_number, type_number}
use Rattle.sf_view.specs.View.{DescribesBare, DescribesParams, DescribesItem, DescribesItems}
use Rattle.sf_view.specs.View.{DescribesOpening, DescribesInner, DescribesMember, DescribesMembers}
use Rattle.sf_view.specs.View.{DescribesEntries, DescribesField}
use Rattle.sf_nodes.specs.declared.parts.Part.{Part}
use Rattle.sf_nodes.specs.NodeBytes.{IsDecoded, IsInOne}
use Rattle.sf_nodes.specs.NodeContents.{NodeContent, content_by, content_size, node_of, IsWithin}
use Rattle.sf_nodes.specs.NodeContents.{AreWithin, HoldsUp, IsPartSmall}
use Rattle.sf_nodes.specs.Nodes.{bare_content, params_content, item_content, items_content}
use Rattle.sf_nodes.specs.Nodes.{inside_content, inner_content}
use Rattle.sf_nodes.specs.Nodes.{member_content, members_content, entries_content, field_content}
use Rattle.sf_nodes.proofs.NodeSteps.{length_params}
use Rattle.sf_nodes.proofs.Slices.{slice_at_after, slice_at_length}

-- the first part, and the others
heads_equal : (t u : NodeContent) (ts us : List NodeContent) → t ∷ ts ≡ u ∷ us → (t ≡ u) × (ts ≡ us)
heads_equal t u ts us e = (ap (first t) e, ap others e)
  where
    first : NodeContent → List NodeContent → NodeContent
    first d [] = d
    first d (x ∷ xs) = x

    others : List NodeContent → List NodeContent
    others [] = []
    others (x ∷ xs) = xs

no_parts : (t : NodeContent) (ts : List NodeContent) → [] ≡ t ∷ ts → ⊥
no_parts t ts e = absurd cc

-- a part describes a bare item, or an Inner List
bare_node : (d : Dialect) (source bytes : List ℕ) (r : Role) (k : List ℕ) (size : ℕ) (x : Bare)
    (p : Part) → content_by bytes p ≡ bare_content r k size x → IsWithin bytes p
    → DescribesBare d (source ++ bytes) r k size (node_of (length source) p) x
bare_node d source bytes r k size x p e w =
    let longer = length-append source bytes in
    let key = w.0 in
    let text = w.1 in
    record {
      role = ap (λ t. role_number t.role) e;
      size = ap (λ t. t.size) e;
      key_within = omega arith;
      key = slice_at_after source bytes p.key_at p.key_length ∙ ap (λ t. t.key) e;
      node_type = ap (λ t. type_number t.node_type) e;
      number = ap (λ t. t.number) e;
      text_within = omega arith;
      text = slice_at_after source bytes p.text_at p.text_length ∙ ap (λ t. t.text) e;
    }

abbrev opening_content : List ℕ → ℕ → NodeContent
opening_content k size = record {
  role = roles.Member;
  node_type = types.InnerList;
  number = pos 0;
  key = k;
  text = [];
  size = size;
}

opening_node : (source bytes k : List ℕ) (size : ℕ) (p : Part)
    → content_by bytes p ≡ opening_content k size → IsWithin bytes p
    → DescribesOpening (source ++ bytes) k size (node_of (length source) p)
opening_node source bytes k size p e w =
    let longer = length-append source bytes in
    let key = w.0 in
    record {
      role = ap (λ t. role_number t.role) e;
      size = ap (λ t. t.size) e;
      key_within = omega arith;
      key = slice_at_after source bytes p.key_at p.key_length ∙ ap (λ t. t.key) e;
      node_type = ap (λ t. type_number t.node_type) e;
      number = ap (λ t. t.number) e;
      empty =
          sym (slice_at_length p.text_at p.text_length bytes w.1)
          ∙ ap (λ t. length t.text) e;
    }

-- the parts of one list, and those after it
record SplitParts (bytes : List ℕ) (ws : List Part) (ts us : List NodeContent) : Type 0 where
  prefix : List Part
  suffix : List Part
  split : ws ≡ prefix ++ suffix
  these : map (content_by bytes) prefix ≡ ts
  those : map (content_by bytes) suffix ≡ us
  within : AreWithin bytes prefix
  behind : AreWithin bytes suffix

split_parts : (bytes : List ℕ) (ws : List Part) (ts us : List NodeContent)
    → map (content_by bytes) ws ≡ ts ++ us → AreWithin bytes ws → SplitParts bytes ws ts us
split_parts bytes ws [] us e w = record {
  prefix = [];
  suffix = ws;
  split = refl;
  these = refl;
  those = e;
  within = tt;
  behind = w;
}
split_parts bytes [] (t ∷ ts) us e w = absurd (no_parts t (ts ++ us) e)
split_parts bytes (p ∷ ws) (t ∷ ts) us e w =
    let both = heads_equal (content_by bytes p) t (map (content_by bytes) ws) (ts ++ us) e in
    let f = split_parts bytes ws ts us both.1 w.1 in
    record {
      prefix = p ∷ f.prefix;
      suffix = f.suffix;
      split = ap (λ y. p ∷ y) f.split;
      these = ap₂ (λ u us. u ∷ us) both.0 f.these;
      those = f.those;
      within = (w.0, f.within);
      behind = f.behind;
    }

-- as many nodes as parts
as_many : (start : ℕ) (bytes : List ℕ) (ws : List Part) (ts : List NodeContent)
    → map (content_by bytes) ws ≡ ts → length (map (node_of start) ws) ≡ length ts
as_many start bytes ws ts e =
    let a = length-map ws (node_of start) in
    let b = length-map ws (content_by bytes) in
    let c = ap length e in
    omega arith

nodes_split : (start : ℕ) (ws prefix suffix : List Part) → ws ≡ prefix ++ suffix
    → map (node_of start) ws ≡ map (node_of start) prefix ++ map (node_of start) suffix
nodes_split start ws prefix suffix e =
    ap (map (node_of start)) e ∙ map-append (node_of start) prefix suffix

params_nodes : (d : Dialect) (source bytes : List ℕ) (r : Role) (ws : List Part) (ps : Pairs Bare)
    → map (content_by bytes) ws ≡ params_content r ps → AreWithin bytes ws
    → DescribesParams d (source ++ bytes) r (map (node_of (length source)) ws) ps
params_nodes d source bytes r [] [] e w = refl
params_nodes d source bytes r (p ∷ ws) [] e w = absurd (no_parts _ _ (sym e))
params_nodes d source bytes r [] (q ∷ qs) e w = absurd (no_parts _ _ e)
params_nodes d source bytes r (p ∷ ws) (q ∷ qs) e w =
    let both = heads_equal _ _ _ _ e in (
      node_of (length source) p,
      map (node_of (length source)) ws,
      refl,
      bare_node d source bytes r q.0 1 q.1 p both.0 w.0,
      params_nodes d source bytes r ws qs both.1 w.1,
    )

item_nodes : (d : Dialect) (source bytes : List ℕ) (r : Role) (k : List ℕ) (ws : List Part)
    (i : Item) → map (content_by bytes) ws ≡ item_content r k i → AreWithin bytes ws
    → DescribesItem d (source ++ bytes) r k (map (node_of (length source)) ws) i
item_nodes d source bytes r k [] i e w = absurd (no_parts _ _ e)
item_nodes d source bytes r k (p ∷ ws) i e w =
    let both = heads_equal _ _ _ _ e in
    let many : length i.params ≡ length (map (node_of (length source)) ws) =
    sym (as_many (length source) bytes ws (params_content roles.Parameter i.params) both.1
    ∙ length_params roles.Parameter i.params) in (
      node_of (length source) p,
      map (node_of (length source)) ws,
      refl,
      subst
          (λ s. DescribesBare d (source ++ bytes) r k (1 + s) (node_of (length source) p) i.bare)
          many
          (bare_node d source bytes r k (1 + length i.params) i.bare p both.0 w.0),
      params_nodes d source bytes roles.Parameter ws i.params both.1 w.1,
    )

items_nodes : (d : Dialect) (source bytes : List ℕ) (ws : List Part) (is : List Item)
    → map (content_by bytes) ws ≡ items_content is → AreWithin bytes ws
    → DescribesItems d (source ++ bytes) (map (node_of (length source)) ws) is
items_nodes d source bytes [] [] e w = refl
items_nodes d source bytes (p ∷ ws) [] e w = absurd (no_parts _ _ (sym e))
items_nodes d source bytes ws (i ∷ is) e w =
    let f = split_parts bytes ws (item_content roles.InnerItem [] i) (items_content is) e w in (
      map (node_of (length source)) f.prefix,
      map (node_of (length source)) f.suffix,
      nodes_split (length source) ws f.prefix f.suffix f.split,
      item_nodes d source bytes roles.InnerItem [] f.prefix i f.these f.within,
      items_nodes d source bytes f.suffix is f.those f.behind,
    )

inner_nodes : (d : Dialect) (source bytes k : List ℕ) (ws : List Part) (l : Inner)
    → map (content_by bytes) ws ≡ inner_content k l → AreWithin bytes ws
    → DescribesInner d (source ++ bytes) k (map (node_of (length source)) ws) l
inner_nodes d source bytes k [] l e w = absurd (no_parts _ _ e)
inner_nodes d source bytes k (p ∷ ws) l e w =
    let both = heads_equal _ _ _ _ e in
    let f = split_parts bytes ws (items_content l.items) (params_content roles.InnerParameter l.params)
    both.1 w.1 in
    let split = nodes_split (length source) ws f.prefix f.suffix f.split in
    let many : length (inside_content l)
    ≡ length (map (node_of (length source)) f.prefix ++ map (node_of (length source)) f.suffix) =
    sym (as_many (length source) bytes ws (inside_content l) both.1) ∙ ap length split in (
      node_of (length source) p,
      map (node_of (length source)) f.prefix,
      map (node_of (length source)) f.suffix,
      ap (λ y. node_of (length source) p ∷ y) split,
      subst (λ s. DescribesOpening (source ++ bytes) k (1 + s) (node_of (length source) p)) many
          (opening_node source bytes k (1 + length (inside_content l)) p both.0 w.0),
      items_nodes d source bytes f.prefix l.items f.these f.within,
      params_nodes d source bytes roles.InnerParameter f.suffix l.params f.those f.behind,
    )

member_nodes : (d : Dialect) (source bytes k : List ℕ) (ws : List Part) (m : Member)
    → map (content_by bytes) ws ≡ member_content k m → AreWithin bytes ws
    → DescribesMember d (source ++ bytes) k (map (node_of (length source)) ws) m
member_nodes d source bytes k ws (member.Item i) e w =
    item_nodes d source bytes roles.Member k ws i e w
member_nodes d source bytes k ws (member.Inner l) e w = inner_nodes d source bytes k ws l e w

members_nodes : (d : Dialect) (source bytes : List ℕ) (ws : List Part) (ms : List Member)
    → map (content_by bytes) ws ≡ members_content ms → AreWithin bytes ws
    → DescribesMembers d (source ++ bytes) (map (node_of (length source)) ws) ms
members_nodes d source bytes [] [] e w = refl
members_nodes d source bytes (p ∷ ws) [] e w = absurd (no_parts _ _ (sym e))
members_nodes d source bytes ws (m ∷ ms) e w =
    let f = split_parts bytes ws (member_content [] m) (members_content ms) e w in (
      map (node_of (length source)) f.prefix,
      map (node_of (length source)) f.suffix,
      nodes_split (length source) ws f.prefix f.suffix f.split,
      member_nodes d source bytes [] f.prefix m f.these f.within,
      members_nodes d source bytes f.suffix ms f.those f.behind,
    )

entries_nodes : (d : Dialect) (source bytes : List ℕ) (ws : List Part) (ps : Pairs Member)
    → map (content_by bytes) ws ≡ entries_content ps → AreWithin bytes ws
    → DescribesEntries d (source ++ bytes) (map (node_of (length source)) ws) ps
entries_nodes d source bytes [] [] e w = refl
entries_nodes d source bytes (p ∷ ws) [] e w = absurd (no_parts _ _ (sym e))
entries_nodes d source bytes ws (q ∷ qs) e w =
    let f = split_parts bytes ws (member_content q.0 q.1) (entries_content qs) e w in (
      map (node_of (length source)) f.prefix,
      map (node_of (length source)) f.suffix,
      nodes_split (length source) ws f.prefix f.suffix f.split,
      member_nodes d source bytes q.0 f.prefix q.1 f.these f.within,
      entries_nodes d source bytes f.suffix qs f.those f.behind,
    )

pub field_nodes : (d : Dialect) (source bytes : List ℕ) (ws : List Part) (v : Field)
    → map (content_by bytes) ws ≡ field_content v → AreWithin bytes ws
    → DescribesField d (source ++ bytes) (map (node_of (length source)) ws) v
field_nodes d source bytes ws (field.Item i) e w =
    item_nodes d source bytes roles.Member [] ws i e w
field_nodes d source bytes ws (field.List l) e w = members_nodes d source bytes ws l.members e w
field_nodes d source bytes ws (field.Dict m) e w = entries_nodes d source bytes ws m.members e w

-- the offsets of nodes are small if the last byte has one that is
pub parts_small : (start : ℕ) (bytes : List ℕ) (ws : List Part) → AreWithin bytes ws
    → start + length bytes < 2 ^ 32 → Each (IsPartSmall start) ws
parts_small start bytes [] w h = tt
parts_small start bytes (p ∷ ws) w h =
    let key = w.0.0 in
    let text = w.0.1 in
    ((omega arith, omega arith), parts_small start bytes ws w.1 h)

-- items that are put at the start of a buffer leave those after them unchanged
pub put_others : (bytes buffer new : List ℕ) (n : ℕ) → n ≡ length bytes
    → new ≡ bytes ++ drop (length bytes) buffer → drop n new ≡ drop n buffer
put_others bytes buffer new n e put =
    ap (drop n) put
    ∙ ap (λ k. drop k (bytes ++ drop (length bytes) buffer)) e
    ∙ drop-append_seam bytes (drop (length bytes) buffer)
    ∙ ap (λ k. drop k buffer) (sym e)

-- what was written describes the value, wherever the text ends
pub record Written (start : ℕ) (ts : List NodeContent) (new : List ℕ) (ns : List Node)
    : Type 0 where
  pub describes : (d : Dialect) (source : List ℕ) (v : Field) → length source ≡ start
      → ts ≡ field_content v
      → DescribesField d (source ++ take (content_size ts) new) (take (length ts) ns) v
  pub decoded : Each IsDecoded (take (length ts) ns)
  pub in_one : Each (IsInOne start) (take (length ts) ns)

all_decoded : (start : ℕ) (ws : List Part) → Each IsDecoded (map (node_of start) ws)
all_decoded start [] = tt
all_decoded start (p ∷ ws) = (refl, all_decoded start ws)

all_after : (start : ℕ) (ws : List Part) → Each (IsInOne start) (map (node_of start) ws)
all_after start [] = tt
all_after start (p ∷ ws) = ((inr (omega arith), inr (omega arith)), all_after start ws)

pub written : (start : ℕ) (ts : List NodeContent) (ws : List Part) (bytes buffer new : List ℕ)
    (ns : List Node) → map (content_by bytes) ws ≡ ts → HoldsUp bytes ws
    → new ≡ bytes ++ drop (length bytes) buffer
    → take (length ws) ns ≡ map (node_of start) ws → Written start ts new ns
written start ts ws bytes buffer new ns described h put e =
    let size : content_size ts ≡ length bytes = sym (h.1 ∙ ap content_size described) in
    let each = length-map ws (content_by bytes) in
    let count : length ts ≡ length ws = sym (ap length described) ∙ each in
    let there : take (content_size ts) new ≡ bytes =
    ap (λ k. take k new) size
    ∙ ap (take (length bytes)) put
    ∙ take-append_seam bytes (drop (length bytes) buffer) in
    let these : take (length ts) ns ≡ map (node_of start) ws = ap (λ k. take k ns) count ∙ e in
    record {
      describes = λ d source v at is.
          subst (λ y. DescribesField d (source ++ y) (take (length ts) ns) v) (sym there)
          (subst (λ y. DescribesField d (source ++ bytes) y v)
          (ap (λ n. map (node_of n) ws) at ∙ sym these)
          (field_nodes d source bytes ws v (described ∙ is) h.0));
      decoded = subst (Each IsDecoded) (sym these) (all_decoded start ws);
      in_one = subst (Each (IsInOne start)) (sym these) (all_after start ws);
    }
