-- Members with commas between them that are scanned.
use Rattle.std.proofs.Common.{◌≡◌, ℕ, ◌+◌, ◌-◌, ◌≤◌, List, [], ◌∷◌, ◌++◌, length, take}
use Rattle.std.proofs.Common.{refl, sym, ap, ◌∙◌, subst, arith, append_assoc, append-nil}
use Rattle.std.proofs.Common.{length-append, ⊎_elim, Bool, true, false}
use Rattle.std.specs.List.{IsDistinct}
use Rattle.std.specs.Map.{keys_of}
use Rattle.std.specs.Str.{bytes_eq}
use Rattle.sf_value.specs.declared.dialect.Dialect.{Dialect}
use Rattle.sf_value.specs.declared.value.Member.{Member}
use Rattle.sf_value.specs.declared.value.Member.TheVariants as member
use Rattle.sf_value.specs.declared.value.Field.TheVariants as field
use Rattle.sf_value.specs.declared.value.Kind.TheVariants as kind
use Rattle.sf_value.specs.Grammar.Words.{Every}
use Rattle.sf_value.specs.Grammar.Classes.{is_sp, is_ows}
use Rattle.sf_value.specs.Grammar.Pairs.{Pairs}
use Rattle.sf_value.specs.Grammar.InnerLists.{SpellsMember}
use Rattle.sf_value.specs.Grammar.Series.{SpellsCommas, SpellsSeries, SpellsWhole}
use Rattle.sf_value.specs.declared.value.Field.{Field}
use Rattle.sf_value.specs.declared.value.Kind.{Kind}
use Rattle.sf_value.specs.Grammar.Fields.{SpellsEntry, SpellsField, list_of, dict_of}
use Rattle.sf_parse.specs.Parsers.{IsOnly}
use Rattle.sf_parse.proofs.GrammarLaws.{one_value}
use Rattle.sf_value.specs.Grammar.Pairs.{settle}
use Rattle.sf_value.proofs.Settling.{settle-distinct, settle_settle, distinct-settle}
use Rattle.std.proofs.lemmas.List.{take-take, take_all}
use Rattle.sf_view.specs.declared.item.KeyPlace.{KeyPlace}
use Rattle.sf_view.specs.declared.node.Node.{Node}
use Rattle.sf_view.specs.declared.node_types.Role.TheVariants as role_is
use Rattle.sf_view.specs.View.{slice_at, DescribesItem, DescribesMember, DescribesMembers, DescribesEntries}
use Rattle.sf_view.specs.Scans.{IsEnd, ScansItem, ScansMember, ScansEntry, Puts}
use Rattle.sf_value.specs.Runs.{Skips}
use Rattle.sf_view.specs.Scans.{keys_from, DistinguishKeys}
use Rattle.sf_view.specs.declared.keys.Marks.{Marks}
use Rattle.sf_view.specs.Marks.{mark_of, HaveMarks}
use Rattle.sf_view.specs.Accepts.{Accepts, SoFar, DescribesMarked, AreEntries}
use Rattle.sf_view.specs.Settling.{IsRaw, HasParts}
use Rattle.sf_view.proofs.KeyMarks.{keys_push}
use Rattle.sf_view.proofs.Putting.{puts_none, puts_then}

module _ {X : Type 0} (P : List ℕ → X → Type 0) where
  commas_push : (t before behind g : List ℕ) (xs : List X) (y : X) → SpellsCommas P t xs
      → Every is_ows before → Every is_ows behind → P g y
      → SpellsCommas P (t ++ (before ++ 44 ∷ (behind ++ g))) (xs ++ y ∷ [])
  commas_push t before behind g [] y e a b h = (
    before,
    behind,
    g,
    [],
    ap (λ z. z ++ (before ++ 44 ∷ (behind ++ g))) e
        ∙ ap (λ z. before ++ 44 ∷ (behind ++ z)) (sym (append-nil g)),
    a,
    b,
    h,
    refl,
  )
  commas_push t before behind g (x ∷ xs) y (v, w, f, suffix, e, sv, sw, k, r) a b h =
      let z = before ++ 44 ∷ (behind ++ g) in (
        v,
        w,
        f,
        suffix ++ z,
        ap (λ q. q ++ z) e
            ∙ append_assoc v (44 ∷ (w ++ (f ++ suffix))) z
            ∙ ap (λ q. v ++ 44 ∷ q)
            (append_assoc w (f ++ suffix) z ∙ ap (λ q. w ++ q) (append_assoc f suffix z)),
        sv,
        sw,
        k,
        commas_push suffix before behind g xs y r a b h,
      )

  series_push : (t before behind g : List ℕ) (xs : List X) (y : X) → SpellsSeries P t xs
      → 1 ≤ length xs → Every is_ows before → Every is_ows behind → P g y
      → SpellsSeries P (t ++ (before ++ 44 ∷ (behind ++ g))) (xs ++ y ∷ [])
  series_push t before behind g [] y s n a b h = absurd (let k : ⊥ = omega arith in k)
  series_push t before behind g (x ∷ xs) y (f, suffix, e, k, r) n a b h =
      let z = before ++ 44 ∷ (behind ++ g) in (
        f,
        suffix ++ z,
        ap (λ q. q ++ z) e ∙ append_assoc f suffix z,
        k,
        commas_push suffix before behind g xs y r a b h,
      )

  whole_of : (t gap body tail : List ℕ) (xs : List X) → 1 ≤ length xs
      → t ≡ gap ++ (body ++ tail) → Every is_sp gap → SpellsSeries P body xs
      → Every is_ows tail → SpellsWhole P t xs
  whole_of t gap body tail [] n e a s b = absurd (let k : ⊥ = omega arith in k)
  whole_of t gap body tail (x ∷ xs) n e a s b = (gap, body, tail, e, a, s, b)

  some_last : (xs : List X) (x : X) → 1 ≤ length (xs ++ x ∷ [])
  some_last xs x = omega (arith, length-append xs (x ∷ []))

  module _ (T : List Node → List X → Type 0) where
    pub so_far_none : (text rest : List ℕ) (old : List Node) → Skips is_sp text rest → T [] []
        → SoFar X P T text rest old old 0
    so_far_none text rest old b t = record {
      gap = b.prefix;
      prefix = [];
      values = [];
      nodes = [];
      split = b.split;
      spaces = b.each;
      glue = λ f x h. (f, [], sym (append-nil f), h, refl);
      puts = puts_none old 0 (omega arith);
      describes = t;
    }

    pub so_far_more : (text rest f after white more left : List ℕ) (x : X)
        (old mid new : List Node) (between count : ℕ) (ms : List Node)
        (U : List Node → List X → Type 0)
        → (s : SoFar X P T text rest old mid between) → rest ≡ f ++ after → P f x
        → Puts mid new between count ms → U (s.nodes ++ ms) (s.values ++ x ∷ [])
        → Skips is_ows after white → white ≡ 44 ∷ more → Skips is_ows more left
        → SoFar X P U text left old new count
    so_far_more text rest f after white more left x old mid new between count ms U s e h p t a c b =
        let step = f ++ (a.prefix ++ 44 ∷ b.prefix) in
        let far : rest ≡ step ++ left =
        e
        ∙ ap (λ y. f ++ y)
        (a.split
        ∙ ap (λ y. a.prefix ++ y) (c ∙ ap (λ y. 44 ∷ y) b.split)
        ∙ sym (append_assoc a.prefix (44 ∷ b.prefix) left))
        ∙ sym (append_assoc f (a.prefix ++ 44 ∷ b.prefix) left) in
        record {
          gap = s.gap;
          prefix = s.prefix ++ step;
          values = s.values ++ x ∷ [];
          nodes = s.nodes ++ ms;
          split =
              s.split
              ∙ ap (λ y. s.gap ++ y)
              (ap (λ y. s.prefix ++ y) far ∙ sym (append_assoc s.prefix step left));
          spaces = s.spaces;
          glue = λ g y k.
              let z = a.prefix ++ 44 ∷ (b.prefix ++ g) in
              let all = series_push (s.prefix ++ f) a.prefix b.prefix g (s.values ++ x ∷ []) y
              (s.glue f x h) (some_last s.values x) a.each b.each k in
              subst (λ q. SpellsSeries P q ((s.values ++ x ∷ []) ++ y ∷ []))
              (append_assoc s.prefix f z
              ∙ ap (λ q. s.prefix ++ q)
              (ap (λ q. f ++ q) (sym (append_assoc a.prefix (44 ∷ b.prefix) g))
              ∙ sym (append_assoc f (a.prefix ++ 44 ∷ b.prefix) g))
              ∙ sym (append_assoc s.prefix step g))
              all;
          puts = puts_then old mid new 0 between count s.nodes ms s.puts p;
          describes = t;
        }

    pub so_far_last : (text rest f after white : List ℕ) (x : X) (old mid : List Node)
        (between : ℕ) → (s : SoFar X P T text rest old mid between) → rest ≡ f ++ after → P f x
        → Skips is_ows after white → white ≡ [] → SpellsWhole P text (s.values ++ x ∷ [])
    so_far_last text rest f after white x old mid between s e h a n =
        let tail : after ≡ a.prefix = a.split ∙ ap (λ y. a.prefix ++ y) n ∙ append-nil a.prefix in
        whole_of text s.gap (s.prefix ++ f) after (s.values ++ x ∷ []) (some_last s.values x)
        (s.split
        ∙ ap (λ y. s.gap ++ y)
        (ap (λ y. s.prefix ++ y) e ∙ sym (append_assoc s.prefix f after)))
        s.spaces (s.glue f x h) (subst (Every is_ows) (sym tail) a.each)

-- the same nodes at the start, in other nodes
pub so_far_kept : {X : Type 0} {P : List ℕ → X → Type 0} {T : List Node → List X → Type 0}
    (text rest : List ℕ) (old mid new : List Node) (count : ℕ) → SoFar X P T text rest old mid count
    → take count new ≡ take count mid → length new ≡ length mid
    → SoFar X P T text rest new new count
so_far_kept text rest old mid new count s e l =
    let p = s.puts in
    let w = p.within in record {
      gap = s.gap;
      prefix = s.prefix;
      values = s.values;
      nodes = s.nodes;
      split = s.split;
      spaces = s.spaces;
      glue = s.glue;
      puts = record { within = omega arith; from = p.from; there = e ∙ p.there };
      describes = s.describes;
    }

-- after other nodes
pub so_far_same : {X : Type 0} {P : List ℕ → X → Type 0} {T : List Node → List X → Type 0}
    (text rest : List ℕ) (old new : List Node) (count : ℕ) → SoFar X P T text rest old new count
    → SoFar X P T text rest new new count
so_far_same text rest old new count s = so_far_kept text rest old new new count s refl refl

-- with more nodes after them
pub so_far_longer : {X : Type 0} {P : List ℕ → X → Type 0} {T : List Node → List X → Type 0}
    (text rest : List ℕ) (mid new : List Node) (count : ℕ) → SoFar X P T text rest mid mid count
    → take (length mid) new ≡ mid → length mid ≤ length new → SoFar X P T text rest new new count
so_far_longer text rest mid new count s e l =
    let p = s.puts in
    let w = p.within in record {
      gap = s.gap;
      prefix = s.prefix;
      values = s.values;
      nodes = s.nodes;
      split = s.split;
      spaces = s.spaces;
      glue = s.glue;
      puts = record {
        within = omega arith;
        from = p.from;
        there = sym (take-take count (length mid) new w) ∙ ap (take count) e ∙ p.there;
      };
      describes = s.describes;
    }

-- a rest is an end of the text
pub rest_ends : {X : Type 0} {P : List ℕ → X → Type 0} {T : List Node → List X → Type 0}
    (text rest : List ℕ) (old new : List Node) (count : ℕ)
    → SoFar X P T text rest old new count → IsEnd text rest
rest_ends text rest old new count s = record {
  before = s.gap ++ s.prefix;
  whole = s.split ∙ sym (append_assoc s.gap s.prefix rest);
}

members_more : (d : Dialect) (source : List ℕ) (ns ms : List Node) (xs : List Member) (x : Member)
    → DescribesMembers d source ns xs → DescribesMember d source [] ms x
    → DescribesMembers d source (ns ++ ms) (xs ++ x ∷ [])
members_more d source ns ms [] x e t =
    (ms, [], ap (λ y. y ++ ms) e ∙ sym (append-nil ms), t, refl)
members_more d source ns ms (j ∷ xs) x (prefix, suffix, e, h, r) t = (
  prefix,
  suffix ++ ms,
  ap (λ y. y ++ ms) e ∙ append_assoc prefix suffix ms,
  h,
  members_more d source suffix ms xs x r t,
)

entries_more : (d : Dialect) (source : List ℕ) (ns ms : List Node) (xs : Pairs Member)
    (x : List ℕ × Member) → DescribesEntries d source ns xs → DescribesMember d source x.0 ms x.1
    → DescribesEntries d source (ns ++ ms) (xs ++ x ∷ [])
entries_more d source ns ms [] x e t =
    (ms, [], ap (λ y. y ++ ms) e ∙ sym (append-nil ms), t, refl)
entries_more d source ns ms (j ∷ xs) x (prefix, suffix, e, h, r) t = (
  prefix,
  suffix ++ ms,
  ap (λ y. y ++ ms) e ∙ append_assoc prefix suffix ms,
  h,
  entries_more d source suffix ms xs x r t,
)

member_there : (d : Dialect) (source : List ℕ) (ms : List Node) (x : Member) (place : KeyPlace)
    → place.at ≡ 0 → place.length ≡ 0
    → (place.at + place.length ≤ length source
    → DescribesMember d source (slice_at place.at place.length source) ms x)
    → DescribesMember d source [] ms x
member_there d source ms x place zero none t =
    subst (λ y. DescribesMember d source y ms x) (ap (λ y. slice_at place.at y source) none)
    (t (omega arith))

-- the nodes that were put are at the start
prefix_there : (old new : List Node) (count : ℕ) (ns : List Node) → Puts old new 0 count ns
    → take count new ≡ ns
prefix_there old new count ns p = p.there

-- a value that is spelled is the only one
pub only_of : (d : Dialect) (k : Kind) (t : List ℕ) (v : Field) → SpellsField d k t v → IsOnly d k t v
only_of d k t v h = record { spelled = h; only = λ w i. one_value d k t w v i h }

-- an Item
pub item_accepts : (d : Dialect) (text start rest left : List ℕ) (place : KeyPlace)
    (old new : List Node) (count : ℕ) → Skips is_sp text start
    → ScansItem d text start rest role_is.Member place old new 0 count → place.at ≡ 0 → place.length ≡ 0
    → Skips is_sp rest left → left ≡ [] → Accepts d kind.Item text new count
item_accepts d text start rest left place old new count b s zero none a n =
    let i : IsEnd text start = record { before = b.prefix; whole = b.split } in
    let tail : rest ≡ a.prefix = a.split ∙ ap (λ y. a.prefix ++ y) n ∙ append-nil a.prefix in
    record {
      within = s.puts.within;
      value = field.Item s.value;
      only = only_of d kind.Item text (field.Item s.value) (
        b.prefix,
        s.prefix,
        rest,
        b.split ∙ ap (λ y. b.prefix ++ y) s.split,
        b.each,
        s.spelled i,
        subst (Every is_sp) (sym tail) a.each,
      );
      describes =
          subst (λ y. DescribesItem d text role_is.Member [] y s.value) (sym (prefix_there old new count s.nodes s.puts))
          (subst (λ y. DescribesItem d text role_is.Member y s.nodes s.value)
          (ap (λ y. slice_at place.at y text) none) (s.describes i (omega arith)));
    }

pub empty_list : (d : Dialect) (text rest : List ℕ) (new : List Node) → Skips is_sp text rest
    → rest ≡ [] → Accepts d kind.List text new 0
empty_list d text rest new b n =
    let all : text ≡ b.prefix = b.split ∙ ap (λ y. b.prefix ++ y) n ∙ append-nil b.prefix in
    record {
      within = omega arith;
      value = list_of [];
      only = only_of d kind.List text (list_of []) (subst (Every is_sp) (sym all) b.each);
      describes = refl;
    }

pub empty_dict : (d : Dialect) (text rest : List ℕ) (new : List Node) → Skips is_sp text rest
    → rest ≡ [] → Accepts d kind.Dict text new 0
empty_dict d text rest new b n =
    let all : text ≡ b.prefix = b.split ∙ ap (λ y. b.prefix ++ y) n ∙ append-nil b.prefix in
    record {
      within = omega arith;
      value = dict_of [];
      only = only_of d kind.Dict text (dict_of []) ([], refl, subst (Every is_sp) (sym all) b.each);
      describes = refl;
    }

pub list_more : (d : Dialect) (text rest after white more left : List ℕ) (place : KeyPlace)
    (old mid new : List Node) (between count : ℕ)
    → SoFar Member (SpellsMember d) (DescribesMembers d text) text rest old mid between
    → ScansMember d text rest after place mid new between count → place.at ≡ 0
    → place.length ≡ 0 → Skips is_ows after white → white ≡ 44 ∷ more → Skips is_ows more left
    → SoFar Member (SpellsMember d) (DescribesMembers d text) text left old new count
list_more d text rest after white more left place old mid new between count s m zero none a c b =
    let i = rest_ends text rest old mid between s in
    so_far_more (SpellsMember d) (DescribesMembers d text) text rest m.prefix after white more left
    m.value old mid new between count m.nodes (DescribesMembers d text) s m.split (m.spelled i) m.puts
    (members_more d text s.nodes m.nodes s.values m.value s.describes
    (member_there d text m.nodes m.value place zero none (m.describes i)))
    a c b

pub list_last : (d : Dialect) (text rest after white : List ℕ) (place : KeyPlace)
    (old mid new : List Node) (between count : ℕ)
    → SoFar Member (SpellsMember d) (DescribesMembers d text) text rest old mid between
    → ScansMember d text rest after place mid new between count → place.at ≡ 0
    → place.length ≡ 0 → Skips is_ows after white → white ≡ []
    → Accepts d kind.List text new count
list_last d text rest after white place old mid new between count s m zero none a n =
    let i = rest_ends text rest old mid between s in
    let p = puts_then old mid new 0 between count s.nodes m.nodes s.puts m.puts in record {
      within = p.within;
      value = list_of (s.values ++ m.value ∷ []);
      only =
          only_of d kind.List text (list_of (s.values ++ m.value ∷ []))
          (so_far_last (SpellsMember d) (DescribesMembers d text) text rest m.prefix after white m.value
          old mid between s m.split (m.spelled i) a n);
      describes =
          subst (λ y. DescribesMembers d text y (s.values ++ m.value ∷ [])) (sym (prefix_there old new count (s.nodes ++ m.nodes) p))
          (members_more d text s.nodes m.nodes s.values m.value s.describes
          (member_there d text m.nodes m.value place zero none (m.describes i)));
    }

-- one more member
settle_push : (qs ps : Pairs Member) (x : List ℕ × Member) → settle qs ≡ settle ps
    → settle (qs ++ x ∷ []) ≡ settle (ps ++ x ∷ [])
settle_push qs ps x e =
    sym (settle_settle qs (x ∷ []))
    ∙ ap (λ y. settle (y ++ x ∷ [])) e
    ∙ settle_settle ps (x ∷ [])

marked_more : (d : Dialect) (text : List ℕ) (marks marks_2 : Marks) (mark : ℕ)
    (ns ms : List Node) (ps : Pairs Member) (k : List ℕ) (x : Member)
    → DescribesMarked d text marks ns ps → mark ≡ mark_of k
    → ((ks : List (List ℕ)) (q : List ℕ) → mark ≡ mark_of q → HaveMarks marks ks
    → HaveMarks marks_2 (ks ++ q ∷ []))
    → DescribesMember d text k ms x → DescribesMarked d text marks_2 (ns ++ ms) (ps ++ (k, x) ∷ [])
marked_more d text marks marks_2 mark ns ms ps k x h e w t = record {
  kept = h.kept ++ (k, x) ∷ [];
  same = settle_push h.kept ps (k, x) h.same;
  describes = entries_more d text ns ms h.kept (k, x) h.describes t;
  marked =
      subst (HaveMarks marks_2) (sym (keys_push h.kept k x)) (w (keys_of h.kept) k e h.marked);
}

pub dict_none : (d : Dialect) (text : List ℕ) (marks : Marks) → DescribesMarked d text marks [] []
unfolding IsDistinct
dict_none d text marks =
    record { kept = []; same = refl; describes = refl; marked = λ n. (tt, tt) }

pub dict_more : (d : Dialect) (text rest after white more left : List ℕ)
    (old mid new : List Node) (between count mark : ℕ) (marks marks_2 : Marks)
    → SoFar (List ℕ × Member) (SpellsEntry d) (DescribesMarked d text marks) text rest old mid between
    → ScansEntry d text rest after mark mid new between count
    → ((ks : List (List ℕ)) (k : List ℕ) → mark ≡ mark_of k → HaveMarks marks ks
    → HaveMarks marks_2 (ks ++ k ∷ []))
    → Skips is_ows after white → white ≡ 44 ∷ more → Skips is_ows more left
    → SoFar (List ℕ × Member) (SpellsEntry d) (DescribesMarked d text marks_2) text left old new count
dict_more d text rest after white more left old mid new between count mark marks marks_2 s m w a c b =
    let i = rest_ends text rest old mid between s in
    so_far_more (SpellsEntry d) (DescribesMarked d text marks) text rest m.prefix after white more left
    (m.key, m.value) old mid new between count m.nodes (DescribesMarked d text marks_2) s m.split
    (m.spelled i) m.puts
    (marked_more d text marks marks_2 mark s.nodes m.nodes s.values m.key m.value s.describes m.mark w
    (m.describes i))
    a c b

-- the keys that the nodes of a Dictionary describe
skipped : (source : List ℕ) (ms suffix : List Node)
    → keys_from source (length ms) (ms ++ suffix) ≡ keys_from source 0 suffix
skipped source [] [] = refl
skipped source [] (n ∷ suffix) = refl
skipped source (m ∷ ms) suffix = skipped source ms suffix

member_key : (d : Dialect) (source k : List ℕ) (prefix suffix : List Node) (x : Member)
    → DescribesMember d source k prefix x
    → keys_from source 0 (prefix ++ suffix) ≡ k ∷ keys_from source 0 suffix
member_key d source k prefix suffix (member.Item i) (n, ms, e, h, r) =
    let less : n.size - 1 ≡ length ms = let s = h.size in omega arith in
    ap (λ y. keys_from source 0 (y ++ suffix)) e
    ∙ ap (λ y. slice_at n.key_at n.key_length source ∷ keys_from source y (ms ++ suffix)) less
    ∙ ap (λ y. y ∷ keys_from source (length ms) (ms ++ suffix)) h.key
    ∙ ap (λ y. k ∷ y) (skipped source ms suffix)
member_key d source k prefix suffix (member.Inner l) (n, is, ps, e, h, r, q) =
    let ms = is ++ ps in
    let less : n.size - 1 ≡ length ms = let s = h.size in omega arith in
    ap (λ y. keys_from source 0 (y ++ suffix)) e
    ∙ ap (λ y. slice_at n.key_at n.key_length source ∷ keys_from source y (ms ++ suffix)) less
    ∙ ap (λ y. y ∷ keys_from source (length ms) (ms ++ suffix)) h.key
    ∙ ap (λ y. k ∷ y) (skipped source ms suffix)

entry_keys : (d : Dialect) (source : List ℕ) (ns : List Node) (raw : Pairs Member)
    → DescribesEntries d source ns raw → keys_from source 0 ns ≡ keys_of raw
entry_keys d source ns [] e = ap (keys_from source 0) e
entry_keys d source ns (q ∷ raw) (prefix, suffix, e, h, r) =
    ap (keys_from source 0) e
    ∙ member_key d source q.0 prefix suffix q.1 h
    ∙ ap (λ y. q.0 ∷ y) (entry_keys d source suffix raw r)

-- the whole text, and what the nodes have of its members
record Read (d : Dialect) (text : List ℕ) (marks : Marks) (new : List Node) (count : ℕ) : Type 0 where
  within : count ≤ length new
  raw : Pairs Member
  whole : SpellsWhole (SpellsEntry d) text raw
  described : DescribesMarked d text marks (take count new) raw

read_all : (d : Dialect) (text rest after white : List ℕ)
    (old mid new : List Node) (between count mark : ℕ) (marks marks_2 : Marks)
    → SoFar (List ℕ × Member) (SpellsEntry d) (DescribesMarked d text marks) text rest old mid between
    → ScansEntry d text rest after mark mid new between count
    → ((ks : List (List ℕ)) (k : List ℕ) → mark ≡ mark_of k → HaveMarks marks ks
    → HaveMarks marks_2 (ks ++ k ∷ []))
    → Skips is_ows after white → white ≡ [] → Read d text marks_2 new count
read_all d text rest after white old mid new between count mark marks marks_2 s m w a n =
    let i = rest_ends text rest old mid between s in
    let p = puts_then old mid new 0 between count s.nodes m.nodes s.puts m.puts in
    let raw = s.values ++ (m.key, m.value) ∷ [] in record {
      within = p.within;
      raw = raw;
      whole =
          so_far_last (SpellsEntry d) (DescribesMarked d text marks) text rest m.prefix after white
          (m.key, m.value) old mid between s m.split (m.spelled i) a n;
      described =
          subst (λ y. DescribesMarked d text marks_2 y raw)
          (sym (prefix_there old new count (s.nodes ++ m.nodes) p))
          (marked_more d text marks marks_2 mark s.nodes m.nodes s.values m.key m.value s.describes
          m.mark w (m.describes i));
    }

pub dict_last : (d : Dialect) (text rest after white : List ℕ)
    (old mid new : List Node) (between count mark : ℕ) (marks marks_2 : Marks)
    → SoFar (List ℕ × Member) (SpellsEntry d) (DescribesMarked d text marks) text rest old mid between
    → ScansEntry d text rest after mark mid new between count
    → ((ks : List (List ℕ)) (k : List ℕ) → mark ≡ mark_of k → HaveMarks marks ks
    → HaveMarks marks_2 (ks ++ k ∷ []))
    → Skips is_ows after white
    → white ≡ [] → DistinguishKeys marks_2 text (take count new) → Accepts d kind.Dict text new count
dict_last d text rest after white old mid new between count mark marks marks_2 s m w a n apart =
    let r = read_all d text rest after white old mid new between count mark marks marks_2 s m w a n in
    let t = r.described in
    let keys = entry_keys d text (take count new) t.kept t.describes in
    let distinct : IsDistinct bytes_eq (keys_of t.kept) =
    ⊎_elim (λ f. f (keys_of t.kept) t.marked) (subst (IsDistinct bytes_eq) keys) apart in record {
      within = r.within;
      value = dict_of t.kept;
      only =
          only_of d kind.Dict text (dict_of t.kept)
          (r.raw, sym (settle-distinct t.kept distinct) ∙ t.same, r.whole);
      describes = t.describes;
    }

-- members that are settled to those of the text
pub dict_raw : (d : Dialect) (text rest after white : List ℕ)
    (old mid new : List Node) (between count mark : ℕ) (marks marks_2 : Marks)
    → SoFar (List ℕ × Member) (SpellsEntry d) (DescribesMarked d text marks) text rest old mid between
    → ScansEntry d text rest after mark mid new between count
    → ((ks : List (List ℕ)) (k : List ℕ) → mark ≡ mark_of k → HaveMarks marks ks
    → HaveMarks marks_2 (ks ++ k ∷ []))
    → Skips is_ows after white
    → white ≡ [] → IsRaw d kind.Dict text (take count new)
dict_raw d text rest after white old mid new between count mark marks marks_2 s m w a n =
    let r = read_all d text rest after white old mid new between count mark marks marks_2 s m w a n in
    let t = r.described in record {
      is_dict = refl;
      raw = t.kept;
      only =
          only_of d kind.Dict text (dict_of (settle t.kept)) (r.raw, t.same, r.whole);
      describes = t.describes;
    }

-- nodes that describe the field
pub parts_whole : (d : Dialect) (k : Kind) (text : List ℕ) (new : List Node) (count : ℕ)
    (repeated : Bool) → repeated ≡ false → Accepts d k text new count
    → HasParts d k text new count repeated
parts_whole d k text new count repeated r a = record {
  within = a.within;
  described = λ e. a;
  raw = λ e. absurd (let z : true ≡ false = sym e ∙ r in cc);
}

-- nodes that describe the members one by one
pub parts_raw : (d : Dialect) (k : Kind) (text : List ℕ) (new : List Node) (count : ℕ)
    {repeated : Bool} → repeated ≡ true → count ≤ length new → IsRaw d k text (take count new)
    → HasParts d k text new count repeated
parts_raw d k text new count r w raw = record {
  within = w;
  described = λ e. absurd (let z : true ≡ false = sym r ∙ e in cc);
  raw = λ e. raw;
}

-- the members so far, settled
pub entries_settled : (d : Dialect) (text rest : List ℕ) (marks all : Marks)
    (nodes raw settled : List Node) (count : ℕ) → AreEntries d text rest marks nodes count
    → raw ≡ take count nodes → all.bits ≡ 0xffff_ffff_ffff_ffff
    → ((ps : Pairs Member) → DescribesEntries d text raw ps
    → DescribesEntries d text settled (settle ps))
    → AreEntries d text rest all settled (length settled)
entries_settled d text rest marks all nodes raw settled count s e bits t =
    let m = s.describes in
    let there : DescribesEntries d text raw m.kept =
    subst (λ y. DescribesEntries d text y m.kept) (sym (e ∙ s.puts.there)) m.describes in
    record {
      gap = s.gap;
      prefix = s.prefix;
      values = s.values;
      nodes = settled;
      split = s.split;
      spaces = s.spaces;
      glue = s.glue;
      puts = record {
        within = omega arith;
        from = omega arith;
        there = take_all (length settled) settled (omega arith);
      };
      describes = record {
        kept = settle m.kept;
        same = settle-distinct (settle m.kept) (distinct-settle m.kept) ∙ m.same;
        describes = t m.kept there;
        marked = λ n. absurd (n bits);
      };
    }
