-- Inner Lists that are scanned, and the nodes that describe them.
use Rattle.std.proofs.Common.{◌≡◌, ℕ, pos, ◌+◌, ◌-◌, ◌<◌, ◌≤◌, true, false, List, [], ◌∷◌, ◌++◌}
use Rattle.std.proofs.Common.{length, set, refl, sym, ap, ◌∙◌, subst, arith, append_assoc}
use Rattle.std.proofs.Common.{append-nil, length-append, inl, inr}
use Rattle.sf_value.specs.declared.dialect.Dialect.{Dialect}
use Rattle.sf_value.specs.declared.value.Item.{Item}
use Rattle.sf_value.specs.declared.value.Bare.TheVariants.{Boolean}
use Rattle.sf_value.specs.declared.value.Member.TheVariants as member
use Rattle.sf_value.specs.Grammar.Words.{Every}
use Rattle.sf_value.specs.Grammar.Classes.{is_sp}
use Rattle.sf_value.specs.Grammar.Items.{SpellsItem}
use Rattle.sf_value.specs.Grammar.InnerLists.{SpellsItems, inner}
use Rattle.sf_value.specs.Grammar.Fields.{flag}
use Rattle.sf_value.proofs.Runs.{every_append}
use Rattle.sf_view.specs.declared.bare_part.Part.{Part}
use Rattle.sf_view.specs.declared.item.KeyPlace.{KeyPlace}
use Rattle.sf_view.specs.declared.node.Node.{Node}
use Rattle.sf_view.specs.declared.node_types.NodeType.TheVariants as type_is
use Rattle.sf_view.specs.declared.node_types.Role.TheVariants as role_is
use Rattle.sf_view.specs.View.{slice_at, DescribesBare, DescribesItem, DescribesItems, DescribesMember}
use Rattle.sf_view.specs.Scans.{ScansKey, ScansItem, ScansItems, ItemsSoFar}
use Rattle.sf_value.specs.Runs.{Skips}
use Rattle.sf_view.specs.Scans.{ScansParams, ScansRest, ScansMember, ScansEntry}
use Rattle.sf_view.specs.Scans.{node_from, sized, opening_of}
use Rattle.sf_view.proofs.Ends.{end_further, end_slice, end_within}
use Rattle.sf_view.proofs.Scanned.{number_describes}
use Rattle.sf_view.proofs.Params.{node_describes}
use Rattle.sf_view.proofs.Putting.{puts_none, puts_then, puts_first}

-- spaces before Items
pub spaces_before : (d : Dialect) (least low : ℕ) (gap suffix : List ℕ) (is : List Item)
    → Every is_sp gap → low ≤ least + length gap → SpellsItems d least suffix is
    → SpellsItems d low (gap ++ suffix) is
spaces_before d least low gap suffix [] h k s = every_append is_sp gap suffix h s
spaces_before d least low gap suffix (i ∷ is) h k (g, f, b, e, sp, l, x, r) = (
  gap ++ g,
  f,
  b,
  ap (λ y. gap ++ y) e ∙ sym (append_assoc gap g (f ++ b)),
  every_append is_sp gap g h sp,
  (let n = length-append gap g in omega arith),
  x,
  r,
)

-- an Item before Items that a space comes before
pub item_before : (d : Dialect) (f suffix : List ℕ) (i : Item) (is : List Item) → SpellsItem d f i
    → SpellsItems d 1 suffix is → SpellsItems d 0 (f ++ suffix) (i ∷ is)
item_before d f suffix i is x r = ([], f, suffix, refl, tt, omega arith, x, r)

describes_more : (d : Dialect) (source : List ℕ) (ns ms : List Node) (is : List Item) (i : Item)
    → DescribesItems d source ns is → DescribesItem d source role_is.InnerItem [] ms i
    → DescribesItems d source (ns ++ ms) (is ++ i ∷ [])
describes_more d source ns ms [] i e t =
    (ms, [], ap (λ y. y ++ ms) e ∙ sym (append-nil ms), t, refl)
describes_more d source ns ms (j ∷ is) i (prefix, suffix, e, h, r) t = (
  prefix,
  suffix ++ ms,
  ap (λ y. y ++ ms) e ∙ append_assoc prefix suffix ms,
  h,
  describes_more d source suffix ms is i r t,
)

pub items_none : (d : Dialect) (source text rest : List ℕ) (old : List Node) (at : ℕ)
    → Skips is_sp text rest → at ≤ length old → ItemsSoFar d source text rest old old at at
items_none d source text rest old at b h = record {
  prefix = b.prefix;
  values = [];
  nodes = [];
  split = b.split;
  glue = λ e suffix more s. spaces_before d 0 0 b.prefix suffix more b.each (omega arith) s;
  puts = puts_none old at h;
  describes = λ e. refl;
}

pub items_more : (d : Dialect) (source text rest after more left : List ℕ) (place : KeyPlace)
    (old mid new : List Node) (at between count : ℕ)
    → ItemsSoFar d source text rest old mid at between
    → ScansItem d source rest after role_is.InnerItem place mid new between count
    → place.at ≡ 0 → place.length ≡ 0 → after ≡ 32 ∷ more → Skips is_sp more left
    → ItemsSoFar d source text left old new at count
items_more d source text rest after more left place old mid new at between count s x zero none e b =
    let gap = 32 ∷ b.prefix in
    let step = x.prefix ++ gap in
    let far : after ≡ gap ++ left = e ∙ ap (λ y. 32 ∷ y) b.split in
    record {
      prefix = s.prefix ++ step;
      values = s.values ++ x.value ∷ [];
      nodes = s.nodes ++ x.nodes;
      split =
          s.split
          ∙ ap (λ y. s.prefix ++ y)
          (x.split ∙ ap (λ y. x.prefix ++ y) far ∙ sym (append_assoc x.prefix gap left))
          ∙ sym (append_assoc s.prefix step left);
      glue = λ i suffix is h.
          let j = end_further source text s.prefix rest i s.split in
          let spaced = spaces_before d 0 1 gap suffix is (refl, b.each) (omega arith) h in
          let one = item_before d x.prefix (gap ++ suffix) x.value is (x.spelled j) spaced in
          let all = s.glue i (x.prefix ++ (gap ++ suffix)) (x.value ∷ is) one in
          subst (λ y. SpellsItems d 0 y ((s.values ++ x.value ∷ []) ++ is))
          (ap (λ y. s.prefix ++ y) (sym (append_assoc x.prefix gap suffix))
          ∙ sym (append_assoc s.prefix step suffix))
          (subst (SpellsItems d 0 (s.prefix ++ (x.prefix ++ (gap ++ suffix))))
          (sym (append_assoc s.values (x.value ∷ []) is)) all);
      puts = puts_then old mid new at between count s.nodes x.nodes s.puts x.puts;
      describes = λ i.
          let j = end_further source text s.prefix rest i s.split in
          describes_more d source s.nodes x.nodes s.values x.value (s.describes i)
          (item_there d source x.nodes x.value place zero none (x.describes j));
    }
  where
    item_there : (d : Dialect) (source : List ℕ) (ms : List Node) (i : Item) (place : KeyPlace)
        → place.at ≡ 0 → place.length ≡ 0
        → (place.at + place.length ≤ length source
        → DescribesItem d source role_is.InnerItem (slice_at place.at place.length source) ms i)
        → DescribesItem d source role_is.InnerItem [] ms i
    item_there d source ms i place zero none t =
        subst (λ y. DescribesItem d source role_is.InnerItem y ms i) (ap (λ y. slice_at place.at y source) none)
        (t (omega arith))

pub items_closed : (d : Dialect) (source text rest left : List ℕ) (old new : List Node)
    (at count : ℕ) → ItemsSoFar d source text rest old new at count → rest ≡ 41 ∷ left
    → ScansItems d source text left old new at count
items_closed d source text rest left old new at count s e = record {
  prefix = s.prefix;
  values = s.values;
  nodes = s.nodes;
  split = s.split ∙ ap (λ y. s.prefix ++ y) e;
  spelled = λ i.
      subst (λ y. SpellsItems d 0 y s.values) (append-nil s.prefix)
      (subst (SpellsItems d 0 (s.prefix ++ [])) (append-nil s.values) (s.glue i [] [] tt));
  puts = s.puts;
  describes = s.describes;
}

pub items_last : (d : Dialect) (source text rest after left : List ℕ) (place : KeyPlace)
    (old mid new : List Node) (at between count : ℕ)
    → ItemsSoFar d source text rest old mid at between
    → ScansItem d source rest after role_is.InnerItem place mid new between count
    → place.at ≡ 0 → place.length ≡ 0 → after ≡ 41 ∷ left
    → ScansItems d source text left old new at count
items_last d source text rest after left place old mid new at between count s x zero none e =
    record {
      prefix = s.prefix ++ x.prefix;
      values = s.values ++ x.value ∷ [];
      nodes = s.nodes ++ x.nodes;
      split =
          s.split
          ∙ ap (λ y. s.prefix ++ y) (x.split ∙ ap (λ y. x.prefix ++ y) e)
          ∙ sym (append_assoc s.prefix x.prefix (41 ∷ left));
      spelled = λ i.
          let j = end_further source text s.prefix rest i s.split in
          let one = item_before d x.prefix [] x.value [] (x.spelled j) tt in
          s.glue i x.prefix (x.value ∷ [])
          (subst (λ y. SpellsItems d 0 y (x.value ∷ [])) (append-nil x.prefix) one);
      puts = puts_then old mid new at between count s.nodes x.nodes s.puts x.puts;
      describes = λ i.
          let j = end_further source text s.prefix rest i s.split in
          describes_more d source s.nodes x.nodes s.values x.value (s.describes i)
          (subst (λ y. DescribesItem d source role_is.InnerItem y x.nodes x.value)
          (ap (λ y. slice_at place.at y source) none)
          (x.describes j (omega arith)));
    }

-- an Inner List
pub inner_scans : (d : Dialect) (source text body behind rest : List ℕ) (place : KeyPlace)
    (m : Node) (old mid new : List Node) (at between count total : ℕ) → text ≡ 40 ∷ body
    → ScansItems d source body behind old mid (at + 1) between
    → ScansParams d source role_is.InnerParameter behind rest mid new between count
    → m ≡ opening_of place total → total ≡ count - at → at < length old
    → length new ≡ length old
    → ScansMember d source text rest place old (set new at m) at count
inner_scans d source text body behind rest place m old mid new at between count total first is ps opens size h same =
    let both = puts_then old mid new (at + 1) between count is.nodes ps.nodes is.puts ps.puts in
    let f = both.from in
    let k : total ≡ 1 + length (is.nodes ++ ps.nodes) = omega arith in
    let opened : text ≡ (40 ∷ (is.prefix ++ 41 ∷ [])) ++ behind =
    first
    ∙ ap (λ y. 40 ∷ y) (is.split ∙ sym (append_assoc is.prefix (41 ∷ []) behind)) in
    record {
      prefix = 40 ∷ (is.prefix ++ 41 ∷ ps.prefix);
      value = member.Inner (inner is.values ps.values);
      nodes = m ∷ (is.nodes ++ ps.nodes);
      split =
          first
          ∙ ap (λ y. 40 ∷ y)
          (is.split
          ∙ ap (λ y. is.prefix ++ 41 ∷ y) ps.split
          ∙ sym (append_assoc is.prefix (41 ∷ ps.prefix) rest));
      spelled = λ i.
          let j = end_further source text (40 ∷ []) body i first in
          let l = end_further source text (40 ∷ (is.prefix ++ 41 ∷ [])) behind i opened in
          (is.prefix, ps.prefix, refl, is.spelled j, ps.spelled l);
      puts = puts_first old new at count (is.nodes ++ ps.nodes) m h same both;
      describes = λ i w.
          let j = end_further source text (40 ∷ []) body i first in
          let l = end_further source text (40 ∷ (is.prefix ++ 41 ∷ [])) behind i opened in (
            m,
            is.nodes,
            ps.nodes,
            refl,
            record {
              role = ap (λ y. y.role) opens;
              size = ap (λ y. y.size) opens ∙ k;
              key_within =
                  let a = ap (λ y. y.key_at) opens in
                  let b = ap (λ y. y.key_length) opens in
                  omega arith;
              key =
                  ap (λ y. slice_at y.key_at y.key_length source) opens;
              node_type = ap (λ y. y.node_type) opens;
              number = ap (λ y. y.number) opens;
              empty = ap (λ y. y.text_length) opens;
            },
            is.describes j,
            ps.describes l,
          );
    }

-- an Item as a member
pub member_item : (d : Dialect) (source text rest : List ℕ) (place : KeyPlace)
    (old new : List Node) (at count : ℕ)
    → ScansItem d source text rest role_is.Member place old new at count
    → ScansMember d source text rest place old new at count
member_item d source text rest place old new at count s = record {
  prefix = s.prefix;
  value = member.Item s.value;
  nodes = s.nodes;
  split = s.split;
  spelled = s.spelled;
  puts = s.puts;
  describes = s.describes;
}

-- a member of a Dictionary
pub entry_value : (d : Dialect) (source text after behind rest : List ℕ) (place : KeyPlace)
    (old new : List Node) (at count : ℕ) → ScansKey (length source) text place after
    → after ≡ 61 ∷ behind → ScansMember d source behind rest place old new at count
    → ScansEntry d source text rest place.mark old new at count
entry_value d source text after behind rest place old new at count k e m =
    let split : text ≡ (k.prefix ++ 61 ∷ []) ++ behind =
    k.split ∙ ap (λ y. k.prefix ++ y) e ∙ sym (append_assoc k.prefix (61 ∷ []) behind) in
    record {
      prefix = k.prefix ++ 61 ∷ m.prefix;
      key = k.prefix;
      value = m.value;
      nodes = m.nodes;
      split =
          k.split
          ∙ ap (λ y. k.prefix ++ y) (e ∙ ap (λ y. 61 ∷ y) m.split)
          ∙ sym (append_assoc k.prefix (61 ∷ m.prefix) rest);
      spelled = λ i.
          let j = end_further source text (k.prefix ++ 61 ∷ []) behind i split in
          (m.prefix, k.key, inl (refl, m.spelled j));
      puts = m.puts;
      describes = λ i.
          let j = end_further source text (k.prefix ++ 61 ∷ []) behind i split in
          let size = k.size in
          let within = end_within source text k.prefix after place.at k.split k.at in
          subst (λ y. DescribesMember d source y m.nodes m.value)
          (ap (λ y. slice_at place.at y source) k.size
          ∙ end_slice source text k.prefix after place.at i k.split k.at)
          (m.describes j (omega arith));
      mark = k.mark;
    }

pub entry_flag : (d : Dialect) (source text after rest : List ℕ) (place : KeyPlace) (p : Part)
    (n : Node) (old new : List Node) (at count : ℕ) → ScansKey (length source) text place after
    → p.node_type ≡ type_is.Boolean → p.number ≡ pos 1 → p.at ≡ 0 → p.length ≡ 0 → p.coded ≡ false
    → n ≡ node_from role_is.Member place p → ScansRest d source after rest n old new at count
    → ScansEntry d source text rest place.mark old new at count
entry_flag d source text after rest place p n old new at count k node_type number zero none coded is s =
    record {
      prefix = k.prefix ++ s.prefix;
      key = k.prefix;
      value = flag s.values;
      nodes = sized (1 + length s.nodes) n ∷ s.nodes;
      split =
          k.split ∙ ap (λ y. k.prefix ++ y) s.split ∙ sym (append_assoc k.prefix s.prefix rest);
      spelled = λ i.
          let j = end_further source text k.prefix after i k.split in
          (s.prefix, k.key, inr (s.values, refl, refl, s.spelled j));
      puts = s.puts;
      describes = λ i.
          let j = end_further source text k.prefix after i k.split in
          let size = k.size in
          let within = end_within source text k.prefix after place.at k.split k.at in
          let key = ap (λ y. slice_at place.at y source) k.size
          ∙ end_slice source text k.prefix after place.at i k.split k.at in (
            sized (1 + length s.nodes) n,
            s.nodes,
            refl,
            subst
                (λ y. DescribesBare d source role_is.Member k.prefix (1 + length s.nodes)
                (sized (1 + length s.nodes) y) (Boolean true)) (sym is)
                (node_describes d source role_is.Member (1 + length s.nodes) k.prefix place p (Boolean true)
                (number_describes d source p (Boolean true) (record {
                  node_type = node_type;
                  number = number;
                  at = zero;
                  length = none;
                  coded = coded;
                  none = refl;
                })) (omega arith) key),
            s.describes j,
          );
      mark = k.mark;
    }
