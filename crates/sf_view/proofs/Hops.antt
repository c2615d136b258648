-- A hop over the nodes of a member.
use Rattle.std.proofs.Common.{◌≡◌, ℕ, ◌+◌, ◌≤◌, true, false, List, [], ◌∷◌, ◌++◌}
use Rattle.std.proofs.Common.{length, take, drop, Some, None, refl, sym, ap, ◌∙◌, subst}
use Rattle.std.proofs.Common.{arith, length-append}
use Rattle.std.proofs.Math.Seq.{take-append_seam, drop-append_seam}
use Rattle.std.specs.Str.{bytes_eq}
use Rattle.sf_value.specs.declared.dialect.Dialect.{Dialect}
use Rattle.sf_value.specs.declared.value.Item.{Item}
use Rattle.sf_value.specs.declared.value.Member.{Member}
use Rattle.sf_value.specs.declared.value.Member.TheVariants as member
use Rattle.sf_value.specs.Grammar.Pairs.{Pairs, value_at}
use Rattle.sf_value.proofs.Settling.{same_key}
use Rattle.sf_value.specs.declared.value.Bare.{Bare}
use Rattle.sf_view.specs.declared.node.Node.{Node}
use Rattle.sf_view.specs.declared.node_types.Role.{Role}
use Rattle.sf_view.specs.declared.node_types.Role.TheVariants as role_is
use Rattle.sf_view.specs.View.{slice_at, DescribesMember, DescribesPairs, DescribesBare, DescribesParams, DescribesItem}
use Rattle.sf_view.specs.Finding.{IsHop, NoHop}

-- what the first node of a member says
pub record Opens (source k : List ℕ) (prefix : List Node) : Type 0 where
  pub first : Node
  pub more : List Node
  pub begins : prefix ≡ first ∷ more
  pub size : length prefix ≡ first.size
  pub within : first.key_at + first.key_length ≤ length source
  pub key : slice_at first.key_at first.key_length source ≡ k

pub item_opens : (d : Dialect) (source : List ℕ) (r : Role) (k : List ℕ) (prefix : List Node)
    (i : Item) → DescribesItem d source r k prefix i → Opens source k prefix
item_opens d source r k prefix i (n, ms, e, h, more) = record {
  first = n;
  more = ms;
  begins = e;
  size = let l = ap length e in let s = h.size in omega arith;
  within = h.key_within;
  key = h.key;
}

pub opens : (d : Dialect) (source k : List ℕ) (prefix : List Node) (m : Member)
    → DescribesMember d source k prefix m → Opens source k prefix
opens d source k prefix (member.Item i) t = item_opens d source role_is.Member k prefix i t
opens d source k prefix (member.Inner l) (n, is, ps, e, h, r, q) = record {
  first = n;
  more = is ++ ps;
  begins = e;
  size = let l = ap length e in let s = h.size in omega arith;
  within = h.key_within;
  key = h.key;
}

-- a parameter, as a part of one node
abbrev pub DescribesParam : Dialect → List ℕ → Role → List ℕ → List Node → Bare → Type 0
DescribesParam d source r k ns x = (n : Node) × (ns ≡ n ∷ []) × DescribesBare d source r k 1 n x

pub param_opens : (d : Dialect) (source : List ℕ) (r : Role) (k : List ℕ) (prefix : List Node)
    (x : Bare) → DescribesParam d source r k prefix x → Opens source k prefix
param_opens d source r k prefix x (n, e, h) = record {
  first = n;
  more = [];
  begins = e;
  size = let l = ap length e in let s = h.size in omega arith;
  within = h.key_within;
  key = h.key;
}

-- parameters as parts
pub param_parts : (d : Dialect) (source : List ℕ) (r : Role) (ns : List Node) (ps : Pairs Bare)
    → DescribesParams d source r ns ps → DescribesPairs (DescribesParam d source r) ns ps
param_parts d source r ns [] e = e
param_parts d source r ns (p ∷ ps) (n, ms, e, h, more) =
    (n ∷ [], ms, e, (n, refl, h), param_parts d source r ms ps more)

-- each part opens with a node of its key and span
abbrev pub AllOpen : {X : Type 0} → List ℕ → (List ℕ → List Node → X → Type 0) → Type 0
AllOpen {X} source P = (k : List ℕ) (prefix : List Node) (x : X) → P k prefix x → Opens source k prefix

heads : (m n : Node) (ms ns : List Node) → m ∷ ms ≡ n ∷ ns → m ≡ n
heads m n ms ns e = cc

-- the part that was hopped over is the one that nodes describe
pub record SamePart (k own_key : List ℕ) (prefix later own suffix : List Node) : Type 0 where
  pub key : k ≡ own_key
  pub here : prefix ≡ own
  pub others : later ≡ suffix

pub same_part : (source j : List ℕ) (nodes own suffix : List Node) (k : List ℕ)
    (prefix later : List Node) → Opens source j own → nodes ≡ own ++ suffix
    → IsHop source nodes k prefix later → SamePart k j prefix later own suffix
same_part source j nodes own suffix k prefix later o e h =
    let both : prefix ++ later ≡ own ++ suffix = sym h.split ∙ e in
    let one : h.first ≡ o.first =
    heads h.first o.first (h.more ++ later) (o.more ++ suffix)
    (ap (λ y. y ++ later) (sym h.begins) ∙ both ∙ ap (λ y. y ++ suffix) o.begins) in
    let size : length prefix ≡ length own = h.size ∙ ap (λ y. y.size) one ∙ sym o.size in
    record {
      key = h.key ∙ ap (λ y. slice_at y.key_at y.key_length source) one ∙ o.key;
      here =
          sym (take-append_seam prefix later)
          ∙ ap (λ y. take y (prefix ++ later)) size
          ∙ ap (take (length own)) both
          ∙ take-append_seam own suffix;
      others =
          sym (drop-append_seam prefix later)
          ∙ ap (λ y. drop y (prefix ++ later)) size
          ∙ ap (drop (length own)) both
          ∙ drop-append_seam own suffix;
    }

-- where nodes describe a part there is one to hop over
pub no_part : (source j : List ℕ) (nodes own suffix : List Node) → Opens source j own
    → nodes ≡ own ++ suffix → NoHop source nodes → ⊥
no_part source j nodes own suffix o e n =
    let e' : nodes ≡ o.first ∷ (o.more ++ suffix) = e ∙ ap (λ y. y ++ suffix) o.begins in
    let n' : NoHop source (o.first ∷ (o.more ++ suffix)) = subst (NoHop source) e' n in
    let sizes = ap length o.begins in
    let all = length-append o.more suffix in
    let s = o.size in
    n' o.within (omega arith) (omega arith)

-- the same nodes and the same rest
pub record Hopped {X : Type 0} (P : List ℕ → List Node → X → Type 0) (k : List ℕ)
    (prefix later : List Node) (p : List ℕ × X) (ps : Pairs X) : Type 0 where
  pub key : k ≡ p.0
  pub describes : P p.0 prefix p.1
  pub rest : DescribesPairs P later ps

pub hopped : {X : Type 0} (P : List ℕ → List Node → X → Type 0) (source : List ℕ)
    → AllOpen source P → (nodes : List Node) (k : List ℕ) (prefix later : List Node)
    (p : List ℕ × X) (ps : Pairs X)
    → IsHop source nodes k prefix later → DescribesPairs P nodes (p ∷ ps)
    → Hopped P k prefix later p ps
hopped P source opened nodes k prefix later p ps h (own, suffix, e, t, r) =
    let o = same_part source p.0 nodes own suffix k prefix later (opened p.0 own p.1 t) e h in
    record {
      key = o.key;
      describes = subst (λ y. P p.0 y p.1) (sym o.here) t;
      rest = subst (λ y. DescribesPairs P y ps) (sym o.others) r;
    }

-- where no part begins there is none
pub none_left : {X : Type 0} (P : List ℕ → List Node → X → Type 0) (source : List ℕ)
    → AllOpen source P → (nodes : List Node) (ps : Pairs X)
    → NoHop source nodes → DescribesPairs P nodes ps → ps ≡ []
none_left P source opened nodes [] n t = refl
none_left P source opened nodes (p ∷ ps) n (own, suffix, e, t, r) =
    absurd (no_part source p.0 nodes own suffix (opened p.0 own p.1 t) e n)

-- the rest holds the key as all does
pub record Left {X : Type 0} (P : List ℕ → List Node → X → Type 0) (key : List ℕ) (ps : Pairs X)
    (rest : List Node) : Type 0 where
  pub pairs : Pairs X
  pub describes : DescribesPairs P rest pairs
  pub same : value_at key ps ≡ value_at key pairs

-- a part with this key
pub record Found {X : Type 0} (P : List ℕ → List Node → X → Type 0) (key : List ℕ) (ps : Pairs X)
    (ns : List Node) : Type 0 where
  pub value : X
  pub there : value_at key ps ≡ Some value
  pub describes : P key ns value

pub left_all : {X : Type 0} (P : List ℕ → List Node → X → Type 0) (key : List ℕ) (ps : Pairs X)
    (nodes : List Node) → DescribesPairs P nodes ps → Left P key ps nodes
left_all P key ps nodes t = record { pairs = ps; describes = t; same = refl }

pub left_none : {X : Type 0} (P : List ℕ → List Node → X → Type 0) (source : List ℕ)
    → AllOpen source P → (key : List ℕ) (ps : Pairs X) (rest : List Node)
    → Left P key ps rest → NoHop source rest → value_at key ps ≡ None
left_none P source opened key ps rest l n =
    l.same ∙ ap (value_at key) (none_left P source opened rest l.pairs n l.describes)

pub some_hop : (source : List ℕ) (k : List ℕ) (nodes prefix later : List Node)
    → IsHop source nodes k prefix later → nodes ≡ [] → ⊥
some_hop source k nodes prefix later h e =
    let e' : [] ≡ h.first ∷ (h.more ++ later) =
    sym e ∙ h.split ∙ ap (λ y. y ++ later) h.begins in
    cc

pub left_more : {X : Type 0} (P : List ℕ → List Node → X → Type 0) (source : List ℕ)
    → AllOpen source P → (key : List ℕ) (ps : Pairs X) (rest : List Node)
    (k : List ℕ) (prefix later : List Node) → Left P key ps rest
    → IsHop source rest k prefix later → bytes_eq key k ≡ false → Left P key ps later
left_more {X} P source opened key ps rest k prefix later l h n = by l.pairs l.describes l.same
  where
    by : (qs : Pairs X) → DescribesPairs P rest qs → value_at key ps ≡ value_at key qs
        → Left P key ps later
    by [] t e = absurd (some_hop source k rest prefix later h t)
    by (q ∷ qs) t e =
        let o = hopped P source opened rest k prefix later q qs h t in
        let other : bytes_eq key q.0 ≡ false = subst (λ y. bytes_eq key y ≡ false) o.key n in
        record {
          pairs = qs;
          describes = o.rest;
          same = e ∙ (let s : value_at key (q ∷ qs) ≡ value_at key qs = rw other refl in s);
        }

pub left_found : {X : Type 0} (P : List ℕ → List Node → X → Type 0) (source : List ℕ)
    → AllOpen source P → (key : List ℕ) (ps : Pairs X) (rest : List Node)
    (k : List ℕ) (prefix later : List Node) → Left P key ps rest
    → IsHop source rest k prefix later → key ≡ k → Found P key ps prefix
left_found {X} P source opened key ps rest k prefix later l h is = by l.pairs l.describes l.same
  where
    by : (qs : Pairs X) → DescribesPairs P rest qs → value_at key ps ≡ value_at key qs
        → Found P key ps prefix
    by [] t e = absurd (some_hop source k rest prefix later h t)
    by (q ∷ qs) t e =
        let o = hopped P source opened rest k prefix later q qs h t in
        let this : key ≡ q.0 = is ∙ o.key in
        let same : bytes_eq key q.0 ≡ true = subst (λ y. bytes_eq key y ≡ true) this (same_key key) in
        record {
          value = q.1;
          there = e ∙ (let s : value_at key (q ∷ qs) ≡ Some q.1 = rw same refl in s);
          describes = subst (λ y. P y prefix q.1) (sym this) o.describes;
        }
