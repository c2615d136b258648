-- What holds for the node of a bare item, and for that of an Inner List, holds for each node of a
-- field.
use Rattle.std.proofs.Common.{◌≡◌, ℕ, ◌+◌, ◌≤◌, ◌<◌, ◌⊎◌, List, [], ◌∷◌, ◌++◌, sym, subst, arith}
use Rattle.std.proofs.Common.{inl, inr, length, take, get_or, Bool, true, ◌&&◌, ◌==◌}
use Rattle.std.proofs.lemmas.Bool.{cases_lt, eqb-true}
use Rattle.std.proofs.lemmas.List.{take_more}
use Rattle.sf_value.specs.declared.dialect.Dialect.{Dialect}
use Rattle.sf_value.specs.declared.value.Bare.{Bare}
use Rattle.sf_value.specs.declared.value.Item.{Item}
use Rattle.sf_value.specs.declared.value.Inner.{Inner}
use Rattle.sf_value.specs.declared.value.Member.{Member}
use Rattle.sf_value.specs.declared.value.Member.TheVariants as member
use Rattle.sf_value.specs.declared.value.Field.{Field}
use Rattle.sf_value.specs.declared.value.Field.TheVariants as field
use Rattle.sf_value.specs.Grammar.Pairs.{Pairs}
use Rattle.sf_value.specs.Grammar.Words.{Each}
use Rattle.sf_view.specs.declared.node.Node.{Node}
use Rattle.sf_view.specs.declared.node_types.Role.{Role}
use Rattle.sf_view.specs.declared.node_types.Role.TheVariants as role_is
use Rattle.sf_view.specs.View.{DescribesBare, DescribesParams, DescribesItem, DescribesItems}
use Rattle.sf_view.specs.View.{DescribesOpening, DescribesInner, DescribesMember}
use Rattle.sf_view.specs.View.{DescribesMembers, DescribesEntries, DescribesField}
use Rattle.sf_nodes.specs.NodeBytes.{IsDecoded, IsInOne, IsOnOneSide}
use Rattle.std.proofs.lemmas.Bool.{and_parts}
use Rattle.sf_view.proofs.Wholes.{each_snoc}

-- what each node of a part has
pub record OfEach (d : Dialect) (t : List ℕ) (P : Node → Type 0) : Type 0 where
  pub bare : (r : Role) (k : List ℕ) (m : ℕ) (n : Node) (x : Bare) → DescribesBare d t r k m n x
      → P n
  pub opening : (k : List ℕ) (m : ℕ) (n : Node) → DescribesOpening t k m n → P n

each_join : (P : Node → Type 0) (xs ys : List Node) → Each P xs → Each P ys → Each P (xs ++ ys)
each_join P [] ys h t = t
each_join P (x ∷ xs) ys h t = (h.0, each_join P xs ys h.1 t)

each_params : (d : Dialect) (t : List ℕ) (P : Node → Type 0) → OfEach d t P → (r : Role)
    (ns : List Node) (ps : Pairs Bare) → DescribesParams d t r ns ps → Each P ns
each_params d t P o r ns [] e = subst (Each P) (sym e) tt
each_params d t P o r ns (p ∷ ps) (n, ms, e, h, q) =
    subst (Each P) (sym e) (o.bare r p.0 1 n p.1 h, each_params d t P o r ms ps q)

each_item : (d : Dialect) (t : List ℕ) (P : Node → Type 0) → OfEach d t P → (r : Role)
    (k : List ℕ) (ns : List Node) (i : Item) → DescribesItem d t r k ns i → Each P ns
each_item d t P o r k ns i (n, ms, e, h, q) =
    subst (Each P) (sym e)
    (o.bare r k _ n i.bare h, each_params d t P o role_is.Parameter ms i.params q)

each_items : (d : Dialect) (t : List ℕ) (P : Node → Type 0) → OfEach d t P → (ns : List Node)
    (is : List Item) → DescribesItems d t ns is → Each P ns
each_items d t P o ns [] e = subst (Each P) (sym e) tt
each_items d t P o ns (i ∷ is) (prefix, suffix, e, h, q) =
    subst (Each P) (sym e)
    (each_join P prefix suffix (each_item d t P o role_is.InnerItem [] prefix i h)
    (each_items d t P o suffix is q))

each_inner : (d : Dialect) (t : List ℕ) (P : Node → Type 0) → OfEach d t P → (k : List ℕ)
    (ns : List Node) (l : Inner) → DescribesInner d t k ns l → Each P ns
each_inner d t P o k ns l (n, items, params, e, h, q, r) =
    subst (Each P) (sym e) (
      o.opening k _ n h,
      each_join P items params (each_items d t P o items l.items q)
          (each_params d t P o role_is.InnerParameter params l.params r),
    )

each_member : (d : Dialect) (t : List ℕ) (P : Node → Type 0) → OfEach d t P → (k : List ℕ)
    (ns : List Node) (x : Member) → DescribesMember d t k ns x → Each P ns
each_member d t P o k ns (member.Item i) h = each_item d t P o role_is.Member k ns i h
each_member d t P o k ns (member.Inner l) h = each_inner d t P o k ns l h

each_of_members : (d : Dialect) (t : List ℕ) (P : Node → Type 0) → OfEach d t P → (ns : List Node)
    (xs : List Member) → DescribesMembers d t ns xs → Each P ns
each_of_members d t P o ns [] e = subst (Each P) (sym e) tt
each_of_members d t P o ns (x ∷ xs) (prefix, suffix, e, h, q) =
    subst (Each P) (sym e)
    (each_join P prefix suffix (each_member d t P o [] prefix x h)
    (each_of_members d t P o suffix xs q))

each_of_entries : (d : Dialect) (t : List ℕ) (P : Node → Type 0) → OfEach d t P → (ns : List Node)
    (ps : Pairs Member) → DescribesEntries d t ns ps → Each P ns
each_of_entries d t P o ns [] e = subst (Each P) (sym e) tt
each_of_entries d t P o ns (p ∷ ps) (prefix, suffix, e, h, q) =
    subst (Each P) (sym e)
    (each_join P prefix suffix (each_member d t P o p.0 prefix p.1 h)
    (each_of_entries d t P o suffix ps q))

each_of_field : (d : Dialect) (t : List ℕ) (P : Node → Type 0) → OfEach d t P → (ns : List Node)
    (v : Field) → DescribesField d t ns v → Each P ns
each_of_field d t P o ns (field.Item i) h = each_item d t P o role_is.Member [] ns i h
each_of_field d t P o ns (field.List l) h = each_of_members d t P o ns l.members h
each_of_field d t P o ns (field.Dict m) h = each_of_entries d t P o ns m.members h

-- no bytes are on one side of any place
none_on_one_side : (place at count : ℕ) → count ≡ 0 → IsOnOneSide place at count
none_on_one_side place at count e = by (cases_lt at place)
  where
    by : (at < place) ⊎ (place ≤ at) → IsOnOneSide place at count
    by (inl h) = inl (omega arith)
    by (inr h) = inr h

-- each node of a field points into the text
pub each_in_text : (d : Dialect) (t : List ℕ) (ns : List Node) (v : Field) → DescribesField d t ns v
    → Each (IsInOne (length t)) ns
each_in_text d t ns v h =
    each_of_field d t (IsInOne (length t)) (record {
      bare = λ r k m n x g. (inl g.key_within, inl g.text_within);
      opening = λ k m n g. (
        inl g.key_within,
        none_on_one_side (length t) n.text_at n.text_length g.empty,
      );
    }) ns v h

-- one node more, where a flag says whether none so far is coded
pub uncoded_more : (ns : List Node) (i : ℕ) (n : Node) (none : Bool)
    → (none ≡ true → Each IsDecoded (take i ns)) → i < length ns
    → (none && (get_or ns i n).coded == 0) ≡ true → Each IsDecoded (take (i + 1) ns)
uncoded_more ns i n none h w e =
    let t = and_parts none ((get_or ns i n).coded == 0) e in
    subst (Each IsDecoded) (sym (take_more ns i n w))
    (each_snoc IsDecoded (take i ns) (get_or ns i n) (h t.0) (eqb-true (get_or ns i n).coded 0 t.1))
