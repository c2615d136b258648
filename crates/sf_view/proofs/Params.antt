-- Parameters that are scanned, and the nodes that describe them.
use Rattle.std.proofs.Common.{◌≡◌, ℕ, Bool, pos, ◌+◌, ◌-◌, ◌<◌, ◌≤◌, true, false, List, [], ◌∷◌, ◌++◌}
use Rattle.std.proofs.Common.{length, take, drop, set, refl, sym, ap, ◌∙◌, subst, arith, append_assoc}
use Rattle.std.proofs.Common.{append-nil, inl, inr, ⊎_elim}
use Rattle.std.proofs.lemmas.List.{length-take}
use Rattle.std.proofs.Math.Seq.{take-add, drop-append_seam}
use Rattle.std.specs.List.{IsDistinct}
use Rattle.std.specs.Map.{keys_of}
use Rattle.std.specs.Str.{bytes_eq}
use Rattle.sf_value.specs.declared.dialect.Dialect.{Dialect}
use Rattle.sf_value.specs.declared.value.Bare.{Bare}
use Rattle.sf_value.specs.declared.value.Bare.TheVariants.{Boolean}
use Rattle.sf_value.specs.Grammar.Classes.{is_sp}
use Rattle.sf_value.specs.Grammar.Pairs.{Pairs}
use Rattle.sf_value.specs.Grammar.Parameters.{SpellsParam, SpellsRaw}
use Rattle.sf_value.proofs.Settling.{settle-distinct}
use Rattle.sf_view.specs.declared.bare_part.Part.{Part}
use Rattle.sf_view.specs.declared.item.KeyPlace.{KeyPlace}
use Rattle.sf_view.specs.declared.node.Node.{Node}
use Rattle.sf_view.specs.declared.node_types.NodeType.TheVariants as type_is
use Rattle.sf_view.specs.declared.node_types.Role.{Role}
use Rattle.sf_view.specs.declared.node_types.Role.TheVariants as role_is
use Rattle.sf_view.specs.NodeTypes.{type_number, is_coded, coded_number}
use Rattle.sf_view.specs.View.{slice_at, DescribesText, DescribesBare, DescribesParams}
use Rattle.sf_view.specs.Scans.{IsEnd, ScansKey, ScansBare, ScansParam, ScansRaw}
use Rattle.sf_value.specs.Runs.{Skips}
use Rattle.sf_view.specs.Scans.{ScansParams, ScansRest, PartDescribes, Puts, node_from, sized}
use Rattle.sf_view.specs.Scans.{keys_from, DistinguishKeys}
use Rattle.sf_view.specs.declared.keys.Marks.{Marks}
use Rattle.sf_view.specs.Marks.{mark_of, HaveMarks}
use Rattle.sf_view.proofs.KeyMarks.{keys_push}
use Rattle.sf_view.proofs.Ends.{end_further, end_slice, end_within}
use Rattle.sf_view.proofs.Scanned.{number_describes}
use Rattle.sf_view.proofs.Putting.{puts_none, puts_then, puts_one, puts_first}

-- where the key of a parameter is
key_there : (whole : ℕ) (text named after : List ℕ) (place : KeyPlace)
    → Skips is_sp text named → (k : ScansKey whole named place after)
    → (source : List ℕ) → IsEnd source (59 ∷ text) → length source ≡ whole
    → (place.at + place.length ≤ length source) × (slice_at place.at place.length source ≡ k.prefix)
key_there whole text named after place b k source e w =
    let i = end_further source (59 ∷ text) (59 ∷ b.prefix) named e (ap (λ y. 59 ∷ y) b.split) in
    let here = k.at ∙ sym w in
    let size = k.size in
    let within = end_within source named k.prefix after place.at k.split here in (
      omega arith,
      ap (λ y. slice_at place.at y source) k.size
          ∙ end_slice source named k.prefix after place.at i k.split here,
    )

pub flag_scans : (d : Dialect) (whole : ℕ) (text named after : List ℕ) (place : KeyPlace)
    (p : Part) → Skips is_sp text named → ScansKey whole named place after → p.node_type ≡ type_is.Boolean
    → p.number ≡ pos 1 → p.at ≡ 0 → p.length ≡ 0 → p.coded ≡ false
    → ScansParam d whole (59 ∷ text) place p after
flag_scans d whole text named after place p b k node_type number at size coded = record {
  prefix = 59 ∷ (b.prefix ++ (k.prefix ++ []));
  key = k.prefix;
  value = Boolean true;
  split =
      ap (λ y. 59 ∷ y)
      (b.split
      ∙ ap (λ y. b.prefix ++ y)
      (k.split ∙ ap (λ y. y ++ after) (sym (append-nil k.prefix)))
      ∙ sym (append_assoc b.prefix (k.prefix ++ []) after));
  spelled = (b.prefix, [], refl, b.each, k.key, inl (refl, refl));
  mark = k.mark;
  key_at = key_there whole text named after place b k;
  describes = λ source e w. number_describes d source p (Boolean true) (record {
    node_type = node_type;
    number = number;
    at = at;
    length = size;
    coded = coded;
    none = refl;
  });
}

pub value_scans : (d : Dialect) (whole : ℕ) (text named after behind rest : List ℕ)
    (place : KeyPlace) (p : Part) → Skips is_sp text named → ScansKey whole named place after
    → after ≡ 61 ∷ behind → ScansBare d whole behind p rest
    → ScansParam d whole (59 ∷ text) place p rest
value_scans d whole text named after behind rest place p b k e x =
    let before = 59 ∷ (b.prefix ++ (k.prefix ++ 61 ∷ [])) in
    let split : 59 ∷ text ≡ before ++ behind =
    ap (λ y. 59 ∷ y)
    (b.split
    ∙ ap (λ y. b.prefix ++ y)
    (k.split ∙ ap (λ y. k.prefix ++ y) e ∙ sym (append_assoc k.prefix (61 ∷ []) behind))
    ∙ sym (append_assoc b.prefix (k.prefix ++ 61 ∷ []) behind)) in
    record {
      prefix = 59 ∷ (b.prefix ++ (k.prefix ++ 61 ∷ x.prefix));
      key = k.prefix;
      value = x.value;
      split =
          ap (λ y. 59 ∷ y)
          (b.split
          ∙ ap (λ y. b.prefix ++ y)
          (k.split ∙ ap (λ y. k.prefix ++ y) (e ∙ ap (λ y. 61 ∷ y) x.split)
          ∙ sym (append_assoc k.prefix (61 ∷ x.prefix) rest))
          ∙ sym (append_assoc b.prefix (k.prefix ++ 61 ∷ x.prefix) rest));
      spelled = (b.prefix, 61 ∷ x.prefix, refl, b.each, k.key, inr (x.prefix, refl, x.spelled));
      mark = k.mark;
      key_at = key_there whole text named after place b k;
      describes = λ source i w.
          x.describes source (end_further source (59 ∷ text) before behind i split) w;
    }

-- one more parameter
pub raw_push : (d : Dialect) (f g : List ℕ) (raw : Pairs Bare) (k : List ℕ) (x : Bare)
    → SpellsRaw d f raw → SpellsParam d g k x → SpellsRaw d (f ++ g) (raw ++ (k, x) ∷ [])
raw_push d f g [] k x e p = (g, [], ap (λ y. y ++ g) e ∙ sym (append-nil g), p, refl)
raw_push d f g (q ∷ raw) k x (prefix, suffix, e, h, r) p = (
  prefix,
  suffix ++ g,
  ap (λ y. y ++ g) e ∙ append_assoc prefix suffix g,
  h,
  raw_push d suffix g raw k x r p,
)

describes_push : (d : Dialect) (source : List ℕ) (r : Role) (ns : List Node) (n : Node)
    (raw : Pairs Bare) (k : List ℕ) (x : Bare) → DescribesParams d source r ns raw
    → DescribesBare d source r k 1 n x
    → DescribesParams d source r (ns ++ n ∷ []) (raw ++ (k, x) ∷ [])
describes_push d source r ns n [] k x e t = (n, [], ap (λ y. y ++ n ∷ []) e, t, refl)
describes_push d source r ns n (q ∷ raw) k x (m, ms, e, h, more) t = (
  m,
  ms ++ n ∷ [],
  ap (λ y. y ++ n ∷ []) e,
  h,
  describes_push d source r ms n raw k x more t,
)

coded_back : (b : Bool) → is_coded (coded_number b) ≡ b
coded_back true = refl
coded_back false = refl

pub node_describes : (d : Dialect) (source : List ℕ) (r : Role) (m : ℕ) (k : List ℕ) (place : KeyPlace)
    (p : Part) (x : Bare) → PartDescribes d source p x → place.at + place.length ≤ length source
    → slice_at place.at place.length source ≡ k
    → DescribesBare d source r k m (sized m (node_from r place p)) x
node_describes d source r m k place p x t within e = record {
  role = refl;
  size = refl;
  key_within = within;
  key = e;
  node_type = ap type_number t.node_type;
  number = t.number;
  text_within = t.within;
  text =
      subst (λ c. DescribesText d c (slice_at p.at p.length source) x) (sym (coded_back p.coded)) t.text;
}

pub raw_none : (d : Dialect) (source : List ℕ) (r : Role) (text : List ℕ) (old : List Node)
    (at : ℕ) (marks : Marks) → at ≤ length old → ScansRaw d source r text text old old at at marks
unfolding IsDistinct
raw_none d source r text old at marks h = record {
  prefix = [];
  raw = [];
  nodes = [];
  split = refl;
  spelled = refl;
  puts = puts_none old at h;
  describes = λ e. refl;
  marked = λ n. (tt, tt);
}

pub raw_more : (d : Dialect) (source : List ℕ) (r : Role) (text rest more left : List ℕ) (old mid new : List Node)
    (at between count : ℕ) (place : KeyPlace) (p : Part) (n : Node) (marks marks_2 : Marks)
    → ScansRaw d source r text rest old mid at between marks → rest ≡ 59 ∷ more
    → ScansParam d (length source) (59 ∷ more) place p left → n ≡ node_from r place p
    → Puts mid new between count (n ∷ [])
    → ((ks : List (List ℕ)) (k : List ℕ) → place.mark ≡ mark_of k → HaveMarks marks ks
    → HaveMarks marks_2 (ks ++ k ∷ []))
    → ScansRaw d source r text left old new at count marks_2
raw_more d source r text rest more left old mid new at between count place p n marks marks_2 s e x is q w =
    let split : text ≡ (s.prefix ++ x.prefix) ++ left =
    s.split
    ∙ ap (λ y. s.prefix ++ y) (e ∙ x.split)
    ∙ sym (append_assoc s.prefix x.prefix left) in
    record {
      prefix = s.prefix ++ x.prefix;
      raw = s.raw ++ (x.key, x.value) ∷ [];
      nodes = s.nodes ++ n ∷ [];
      split = split;
      spelled = raw_push d s.prefix x.prefix s.raw x.key x.value s.spelled x.spelled;
      puts = puts_then old mid new at between count s.nodes (n ∷ []) s.puts q;
      describes = λ i.
          let there = subst (IsEnd source) e (end_further source text s.prefix rest i s.split) in
          let key = x.key_at source there refl in
          describes_push d source r s.nodes n s.raw x.key x.value (s.describes i)
          (subst (λ y. DescribesBare d source r x.key 1 y x.value) (sym is)
          (node_describes d source r 1 x.key place p x.value (x.describes source there refl) key.0 key.1));
      marked =
          subst (HaveMarks marks_2) (sym (keys_push s.raw x.key x.value))
          (w (keys_of s.raw) x.key x.mark s.marked);
    }

-- the keys that the nodes of parameters describe
keys_described : (d : Dialect) (source : List ℕ) (r : Role) (ns : List Node) (raw : Pairs Bare)
    → DescribesParams d source r ns raw → keys_from source 0 ns ≡ keys_of raw
keys_described d source r ns [] e = ap (keys_from source 0) e
keys_described d source r ns (q ∷ raw) (n, ms, e, h, more) =
    ap (keys_from source 0) e
    ∙ ap (λ y. slice_at n.key_at n.key_length source ∷ keys_from source (y - 1) ms) h.size
    ∙ ap (λ y. y ∷ keys_from source 0 ms) h.key
    ∙ ap (λ y. q.0 ∷ y) (keys_described d source r ms raw more)

-- the nodes that were put are those there
pub put_there : (old new : List Node) (at count : ℕ) (ns : List Node) → Puts old new at count ns
    → length new ≡ length old → take (count - at) (drop at new) ≡ ns
put_there old new at count ns p same =
    let f = p.from in
    let w = p.within in
    let prefix : length (take at old) ≡ at = omega (arith, length-take at old) in
    let k : at + (count - at) ≡ count = omega arith in
    let a : take count new ≡ take at new ++ take (count - at) (drop at new) =
    ap (λ y. take y new) (sym k) ∙ take-add at (count - at) new in
    let prefix' : length (take at new) ≡ at = omega (arith, length-take at new) in
    seam (take at new) (take at old) (take (count - at) (drop at new)) ns
    (prefix' ∙ sym prefix) (sym a ∙ p.there)
  where
    seam : (xs ys zs ws : List Node) → length xs ≡ length ys → xs ++ zs ≡ ys ++ ws → zs ≡ ws
    seam xs ys zs ws e f =
        sym (drop-append_seam xs zs)
        ∙ ap (λ k. drop k (xs ++ zs)) e
        ∙ ap (drop (length ys)) f
        ∙ drop-append_seam ys ws

pub params_scan : (d : Dialect) (source : List ℕ) (r : Role) (text rest : List ℕ)
    (old new : List Node) (at count : ℕ) (marks : Marks)
    → ScansRaw d source r text rest old new at count marks → length new ≡ length old
    → DistinguishKeys marks source (take (count - at) (drop at new))
    → ScansParams d source r text rest old new at count
params_scan d source r text rest old new at count marks s same apart = record {
  prefix = s.prefix;
  values = s.raw;
  nodes = s.nodes;
  split = s.split;
  spelled = λ i.
      let keys = ap (keys_from source 0) (put_there old new at count s.nodes s.puts same)
      ∙ keys_described d source r s.nodes s.raw (s.describes i) in
      let distinct : IsDistinct bytes_eq (keys_of s.raw) =
      ⊎_elim (λ f. f (keys_of s.raw) s.marked) (subst (IsDistinct bytes_eq) keys) apart in
      (s.raw, sym (settle-distinct s.raw distinct), s.spelled);
  puts = s.puts;
  describes = s.describes;
}

-- after a node
pub rest_none : (d : Dialect) (source text : List ℕ) (n : Node) (old : List Node) (at : ℕ)
    → n.size ≡ 1 → at < length old
    → ScansRest d source text text n old (set old at n) at (at + 1)
rest_none d source text n old at one h = record {
  prefix = [];
  values = [];
  nodes = [];
  split = refl;
  spelled = λ i. ([], refl, refl);
  puts =
      subst (λ y. Puts old (set old at n) at (at + 1) (y ∷ []))
      (ap (λ k. sized k n) one) (puts_one old at n h);
  describes = λ i. refl;
}

pub rest_some : (d : Dialect) (source text rest : List ℕ) (n m : Node) (old new : List Node)
    (at count total : ℕ) → ScansParams d source role_is.Parameter text rest old new (at + 1) count
    → m ≡ sized total n → total ≡ count - at → at < length old → length new ≡ length old
    → ScansRest d source text rest n old (set new at m) at count
rest_some d source text rest n m old new at count total s is size h same =
    let f = s.puts.from in
    let k : total ≡ 1 + length s.nodes = omega arith in record {
      prefix = s.prefix;
      values = s.values;
      nodes = s.nodes;
      split = s.split;
      spelled = s.spelled;
      puts =
          subst (λ y. Puts old (set new at m) at count (y ∷ s.nodes))
          (is ∙ ap (λ y. sized y n) k)
          (puts_first old new at count s.nodes m h same s.puts);
      describes = s.describes;
    }
