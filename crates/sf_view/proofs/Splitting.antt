-- The parts of a view, in order.
use Rattle.std.proofs.Common.{◌≡◌, ◌≢◌, ℕ, List, [], ◌∷◌, ◌++◌}
use Rattle.std.proofs.Common.{refl, sym, ap₂, ◌∙◌, subst, arith}
use Rattle.sf_value.specs.declared.dialect.Dialect.{Dialect}
use Rattle.sf_value.specs.declared.value.Bare.{Bare}
use Rattle.sf_value.specs.declared.value.Bare.TheVariants.{Integer}
use Rattle.sf_value.specs.declared.value.Inner.{Inner}
use Rattle.sf_value.specs.declared.value.Item.{Item}
use Rattle.sf_value.specs.declared.value.Member.{Member}
use Rattle.sf_value.specs.Grammar.Pairs.{Pairs}
use Rattle.sf_value.specs.Grammar.Words.{Each}
use Rattle.sf_view.specs.declared.node.Node.{Node}
use Rattle.sf_view.specs.declared.node_types.NodeType.TheVariants as type_is
use Rattle.sf_view.specs.declared.node_types.Role.{Role}
use Rattle.sf_view.specs.declared.node_types.Role.TheVariants as role_is
use Rattle.sf_view.specs.NodeTypes.{type_number}
use Rattle.sf_view.specs.View.{type_of, DescribesParams, DescribesItem}
use Rattle.sf_view.specs.View.{DescribesItems, DescribesInner, DescribesMember, DescribesMembers}
use Rattle.sf_view.specs.View.{DescribesEntries}
use Rattle.sf_view.specs.Finding.{IsHop, NoHop, NoKey, IsInside, IsAtParams}
use Rattle.sf_view.specs.Finding.{IsSplitAtParams, IsNoInner}
use Rattle.sf_view.specs.Parts.{SplitsOff}
use Rattle.sf_view.proofs.Hops.{Opens, opens, item_opens, param_opens, same_part, no_part, some_hop}

pub members_split : (d : Dialect) (source : List ℕ) (nodes : List Node) (ms : List Member) (k : List ℕ)
    (prefix later : List Node) → IsHop source nodes k prefix later
    → DescribesMembers d source nodes ms
    → SplitsOff (DescribesMember d source []) (DescribesMembers d source) ms prefix later
members_split d source nodes [] k prefix later h t =
    absurd (some_hop source k nodes prefix later h t)
members_split d source nodes (m ∷ ms) k prefix later h (own, suffix, e, t, r) =
    let o = same_part source [] nodes own suffix k prefix later (opens d source [] own m t) e h in
    record {
      value = m;
      others = ms;
      parts = refl;
      first = subst (λ y. DescribesMember d source [] y m) (sym o.here) t;
      rest = subst (λ y. DescribesMembers d source y ms) (sym o.others) r;
    }

pub members_end : (d : Dialect) (source : List ℕ) (nodes : List Node) (ms : List Member)
    → NoHop source nodes → DescribesMembers d source nodes ms → ms ≡ []
members_end d source nodes [] n t = refl
members_end d source nodes (m ∷ ms) n (own, suffix, e, t, r) =
    absurd (no_part source [] nodes own suffix (opens d source [] own m t) e n)

pub entries_split : (d : Dialect) (source : List ℕ) (nodes : List Node) (ps : Pairs Member)
    (k : List ℕ) (prefix later : List Node) → IsHop source nodes k prefix later
    → DescribesEntries d source nodes ps
    → SplitsOff (λ ns p. DescribesMember d source p.0 ns p.1) (DescribesEntries d source) ps prefix
    later
entries_split d source nodes [] k prefix later h t =
    absurd (some_hop source k nodes prefix later h t)
entries_split d source nodes (p ∷ ps) k prefix later h (own, suffix, e, t, r) =
    let o = same_part source p.0 nodes own suffix k prefix later (opens d source p.0 own p.1 t) e h in
    record {
      value = p;
      others = ps;
      parts = refl;
      first = subst (λ y. DescribesMember d source p.0 y p.1) (sym o.here) t;
      rest = subst (λ y. DescribesEntries d source y ps) (sym o.others) r;
    }

pub entries_end : (d : Dialect) (source : List ℕ) (nodes : List Node) (ps : Pairs Member)
    → NoHop source nodes → DescribesEntries d source nodes ps → ps ≡ []
entries_end d source nodes [] n t = refl
entries_end d source nodes (p ∷ ps) n (own, suffix, e, t, r) =
    absurd (no_part source p.0 nodes own suffix (opens d source p.0 own p.1 t) e n)

pub items_split : (d : Dialect) (source : List ℕ) (nodes : List Node) (is : List Item) (k : List ℕ)
    (prefix later : List Node) → IsHop source nodes k prefix later
    → DescribesItems d source nodes is
    → SplitsOff (DescribesItem d source role_is.InnerItem []) (DescribesItems d source) is prefix later
items_split d source nodes [] k prefix later h t =
    absurd (some_hop source k nodes prefix later h t)
items_split d source nodes (i ∷ is) k prefix later h (own, suffix, e, t, r) =
    let o =
    same_part source [] nodes own suffix k prefix later
    (item_opens d source role_is.InnerItem [] own i t) e h in
    record {
      value = i;
      others = is;
      parts = refl;
      first = subst (λ y. DescribesItem d source role_is.InnerItem [] y i) (sym o.here) t;
      rest = subst (λ y. DescribesItems d source y is) (sym o.others) r;
    }

pub items_end : (d : Dialect) (source : List ℕ) (nodes : List Node) (is : List Item)
    → NoHop source nodes → DescribesItems d source nodes is → is ≡ []
items_end d source nodes [] n t = refl
items_end d source nodes (i ∷ is) n (own, suffix, e, t, r) =
    absurd (no_part source [] nodes own suffix (item_opens d source role_is.InnerItem [] own i t) e n)

pub params_split : (d : Dialect) (source : List ℕ) (role : Role) (nodes : List Node) (ps : Pairs Bare)
    (k : List ℕ) (prefix later : List Node) → IsHop source nodes k prefix later
    → DescribesParams d source role nodes ps
    → SplitsOff (λ ns p. DescribesParams d source role ns (p ∷ [])) (DescribesParams d source role) ps
    prefix later
params_split d source role nodes [] k prefix later h t =
    absurd (some_hop source k nodes prefix later h t)
params_split d source role nodes (p ∷ ps) k prefix later h (n, ms, e, t, r) =
    let own = n ∷ [] in
    let o =
    same_part source p.0 nodes own ms k prefix later
    (param_opens d source role p.0 own p.1 (n, refl, t)) e h in
    record {
      value = p;
      others = ps;
      parts = refl;
      first = (n, [], o.here, t, refl);
      rest = subst (λ y. DescribesParams d source role y ps) (sym o.others) r;
    }

pub params_end : (d : Dialect) (source : List ℕ) (role : Role) (nodes : List Node) (ps : Pairs Bare)
    → NoHop source nodes → DescribesParams d source role nodes ps → ps ≡ []
params_end d source role nodes [] n t = refl
params_end d source role nodes (p ∷ ps) n (m, ms, e, t, r) =
    absurd (no_part source p.0 nodes (m ∷ []) ms
    (param_opens d source role p.0 (m ∷ []) p.1 (m, refl, t)) e n)

pub no_key : (source j : List ℕ) (nodes : List Node) → Opens source j nodes
    → NoKey source nodes → ⊥
no_key source j nodes o n =
    let n' : NoKey source (o.first ∷ o.more) = subst (NoKey source) o.begins n in
    let w = o.within in
    omega arith

-- the nodes of parameters, and of Items
pub all_params : (d : Dialect) (source : List ℕ) (nodes : List Node) (ps : Pairs Bare)
    → DescribesParams d source role_is.InnerParameter nodes ps → IsAtParams nodes
all_params d source nodes [] e = subst IsAtParams (sym e) tt
all_params d source nodes (p ∷ ps) (n, ms, e, t, r) = subst IsAtParams (sym e) t.role

inside_params : (d : Dialect) (source : List ℕ) (nodes : List Node) (ps : Pairs Bare)
    → DescribesParams d source role_is.Parameter nodes ps → Each IsInside nodes
inside_params d source nodes [] e = subst (Each IsInside) (sym e) tt
inside_params d source nodes (p ∷ ps) (n, ms, e, t, r) =
    let own = t.role in
    subst (Each IsInside) (sym e) ((λ f. omega arith), inside_params d source ms ps r)

each_append : (xs ys : List Node) → Each IsInside xs → Each IsInside ys → Each IsInside (xs ++ ys)
each_append [] ys a b = b
each_append (x ∷ xs) ys a b = (a.0, each_append xs ys a.1 b)

pub inside_items : (d : Dialect) (source : List ℕ) (nodes : List Node) (is : List Item)
    → DescribesItems d source nodes is → Each IsInside nodes
inside_items d source nodes [] e = subst (Each IsInside) (sym e) tt
inside_items d source nodes (i ∷ is) (prefix, suffix, e, (n, ms, f, t, q), r) =
    let own = t.role in
    subst (Each IsInside) (sym e)
    (each_append prefix suffix
    (subst (Each IsInside) (sym f) ((λ g. omega arith), inside_params d source ms i.params q))
    (inside_items d source suffix is r))

-- there is one place between Items and parameters
one_seam : (xs ps ys qs : List Node) → xs ++ ps ≡ ys ++ qs → Each IsInside xs → IsAtParams ps
    → Each IsInside ys → IsAtParams qs → (xs ≡ ys) × (ps ≡ qs)
one_seam [] ps [] qs e a p b q = (refl, e)
one_seam [] ps (y ∷ ys) qs e a p b q = absurd (b.0 (subst IsAtParams e p))
one_seam (x ∷ xs) ps [] qs e a p b q = absurd (a.0 (subst IsAtParams (sym e) q))
one_seam (x ∷ xs) ps (y ∷ ys) qs e a p b q =
    let h : x ≡ y = cc in
    let t : xs ++ ps ≡ ys ++ qs = cc in
    let r = one_seam xs ps ys qs t a.1 p b.1 q in
    (ap₂ (λ u v. u ∷ v) h r.0, r.1)

-- the Items and the parameters of an Inner List
pub record InnerIs (d : Dialect) (source : List ℕ) (l : Inner) (items params : List Node)
    : Type 0 where
  pub inside : DescribesItems d source items l.items
  pub behind : DescribesParams d source role_is.InnerParameter params l.params

pub inner_is : (d : Dialect) (source k : List ℕ) (nodes : List Node) (l : Inner)
    (items params : List Node) → IsSplitAtParams nodes items params
    → DescribesInner d source k nodes l → InnerIs d source l items params
inner_is d source k nodes l items params s (n, is, ps, e, h, r, q) =
    let both : s.opening ∷ (items ++ params) ≡ n ∷ (is ++ ps) = sym s.split ∙ e in
    let tails : items ++ params ≡ is ++ ps = cc in
    let o =
    one_seam items params is ps tails s.before s.behind (inside_items d source is l.items r)
    (all_params d source ps l.params q) in
    record {
      inside = subst (λ y. DescribesItems d source y l.items) (sym o.0) r;
      behind =
          subst (λ y. DescribesParams d source role_is.InnerParameter y l.params) (sym o.1) q;
    }

pub no_inner : (d : Dialect) (source k : List ℕ) (nodes : List Node) (l : Inner)
    → IsNoInner nodes → DescribesInner d source k nodes l → ⊥
no_inner d source k nodes l i (n, is, ps, e, h, r, q) =
    subst IsNoInner e i h.node_type

-- an Item is no Inner List
pub bare_type : (x : Bare) → type_number (type_of x) ≢ type_number type_is.InnerList
bare_type (Integer n) e = omega arith
bare_type x e = omega arith
