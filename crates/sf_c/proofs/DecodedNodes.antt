-- Nodes whose coded bytes are decoded, one after another.
use Rattle.std.proofs.Common.{◌≡◌, ◌≢◌, ℕ, ◌+◌, ◌-◌, ◌<◌, ◌≤◌, ◌⊎◌, true, not, List}
use Rattle.std.proofs.Common.{[], ◌∷◌, ◌++◌, length, take, drop, set, get_or, refl, sym, ap, ◌∙◌}
use Rattle.std.proofs.Common.{subst, arith, length-append, append_assoc, inl, inr, suc}
use Rattle.std.proofs.lemmas.Bool.{ne_eqb}
use Rattle.std.proofs.lemmas.List.{drop-take, take_all, length-take-le, drop-set-lt}
use Rattle.std.proofs.lemmas.List.{take_more_set}
use Rattle.std.proofs.Math.Seq.{take-add, drop-append_seam, drop-cons}
use Rattle.sf_value.specs.declared.dialect.Dialect.{Dialect}
use Rattle.sf_value.specs.declared.value.Bare.{Bare}
use Rattle.sf_value.specs.declared.value.Bare.TheVariants.{Integer, Decimal, Text, Token}
use Rattle.sf_value.specs.declared.value.Bare.TheVariants.{Blob, Boolean, Date, Shown}
use Rattle.sf_value.specs.Grammar.Words.{Each}
use Rattle.sf_view.specs.declared.node.Node.{Node}
use Rattle.sf_view.specs.declared.view.Slice.{Slice}
use Rattle.sf_view.specs.NodeTypes.{type_number, is_coded}
use Rattle.sf_view.specs.View.{slice_at, type_of, text_of, DescribesText}
use Rattle.sf_view.specs.Decoding.{HasBytes}
use Rattle.sf_c.specs.Decodings.{EachMeans, IsUncoded, AreDecoded, IsNodeDecoded, HasCoded}
use Rattle.sf_c.specs.Decodings.{decoded_to}
use Rattle.sf_nodes.proofs.Slices.{slice_at-append, slice_at_after}
use Rattle.sf_c.proofs.Carrying.{each_more, each_push}

-- a number that is not 0 says that bytes are coded
coded_true : (n : ℕ) → n ≢ 0 → is_coded n ≡ true
coded_true n h = ap not (ne_eqb n 0 h)

-- the node of an Inner List has no coded bytes
no_opening : (n : Node) → (n.node_type ≡ 24) ⊎ (n.node_type ≡ 26) ⊎ (n.node_type ≡ 29)
    → n.node_type ≡ 21 → ⊥
no_opening n (inl a) e = omega arith
no_opening n (inr (inl a)) e = omega arith
no_opening n (inr (inr a)) e = omega arith

-- the bytes of a bare item are those of the slice
has_bytes : (d : Dialect) (text : List ℕ) (n : Node) (s : Slice) (x : Bare) → HasCoded text n s
    → n.coded ≢ 0 → n.node_type ≡ type_number (type_of x)
    → DescribesText d (is_coded n.coded) (slice_at n.text_at n.text_length text) x
    → HasBytes d s (text_of x)
has_bytes d text n s x h some e t = by x e
    (subst (λ y. DescribesText d y s.bytes.now x) (coded_true n.coded some ∙ sym h.coded)
    (subst (λ y. DescribesText d (is_coded n.coded) y x) (sym h.bytes) t))
  where
    none : (k : ℕ) → n.node_type ≡ k → k ≢ 24 → k ≢ 26 → k ≢ 29 → ⊥
    none k f a b c = go h.node_type
      where
        go : (n.node_type ≡ 24) ⊎ (n.node_type ≡ 26) ⊎ (n.node_type ≡ 29) → ⊥
        go (inl y) = a (sym f ∙ y)
        go (inr (inl y)) = b (sym f ∙ y)
        go (inr (inr y)) = c (sym f ∙ y)

    by : (x : Bare) → n.node_type ≡ type_number (type_of x)
        → DescribesText d s.coded s.bytes.now x → HasBytes d s (text_of x)
    by (Integer m) f t = absurd (none 22 f (λ y. omega arith) (λ y. omega arith) (λ y. omega arith))
    by (Decimal m) f t = absurd (none 23 f (λ y. omega arith) (λ y. omega arith) (λ y. omega arith))
    by (Text w) f t = inl t
    by (Token w) f t = absurd (none 25 f (λ y. omega arith) (λ y. omega arith) (λ y. omega arith))
    by (Blob w) f t = inr (inl t)
    by (Boolean b) f t = absurd (none 27 f (λ y. omega arith) (λ y. omega arith) (λ y. omega arith))
    by (Date m) f t = absurd (none 28 f (λ y. omega arith) (λ y. omega arith) (λ y. omega arith))
    by (Shown w) f t = inr (inr t)

-- the bytes after those that were used
slice_free : (text old free new : List ℕ) (used count : ℕ) → used ≤ length old
    → new ≡ take used old ++ free → count ≤ length free
    → slice_at (length text + used) count (text ++ take (used + count) new) ≡ take count free
slice_free text old free new used count fits e small =
    let prefix : length (take used old) ≡ used = length-take-le used old fits in
    let behind : drop used new ≡ free =
    ap (drop used) e
    ∙ ap (λ y. drop y (take used old ++ free)) (sym prefix)
    ∙ drop-append_seam (take used old) free in
    let enough : length (take count free) ≤ count =
    (let l = length-take-le count free small in omega arith) in
    slice_at_after text (take (used + count) new) used count
    ∙ ap (take count) (drop-take used count new ∙ ap (take count) behind)
    ∙ take_all count (take count free) enough

-- a node whose bytes were decoded
pub node_decoded : (text old free new : List ℕ) (used count : ℕ) (n : Node) (s : Slice)
    → HasCoded text n s → n.coded ≢ 0 → n.key_at + n.key_length ≤ length text → used ≤ length old
    → new ≡ take used old ++ free → count ≤ length free
    → ((d : Dialect) (t : List ℕ) → HasBytes d s t → take count free ≡ t)
    → IsNodeDecoded text old new used n (decoded_to (length text + used) count n) (used + count)
node_decoded text old free new used count n s coded some key fits e small gives =
    let prefix : length (take used old) ≡ used = length-take-le used old fits in
    let whole = ap length e ∙ length-append (take used old) free in
    let end : used + count ≤ length new = omega arith in
    let size : length (take (used + count) new) ≡ used + count
    = length-take-le (used + count) new end in
    let longer = length-append text (take (used + count) new) in
    record {
      more = omega arith;
      within = end;
      kept =
          ap (take used) e
          ∙ ap (λ y. take y (take used old ++ free)) (sym prefix)
          ∙ seam (take used old) free;
      means = record {
        bare = λ d r k m x h. record {
          role = h.role;
          size = h.size;
          key_within = omega arith;
          key =
              slice_at-append n.key_at n.key_length text (take (used + count) new) key ∙ h.key;
          node_type = h.node_type;
          number = h.number;
          text_within = omega arith;
          text =
              slice_free text old free new used count fits e small
              ∙ gives d (text_of x) (has_bytes d text n s x coded some h.node_type h.text);
        };
        opening = λ k m h. absurd (no_opening n coded.node_type h.node_type);
      };
      uncoded = (refl, (inl key, inr (omega arith)));
    }
  where
    seam : (xs ys : List ℕ) → take (length xs) (xs ++ ys) ≡ xs
    seam [] ys = refl
    seam (x ∷ xs) ys = ap (λ z. x ∷ z) (seam xs ys)

-- so many of the nodes are decoded, and those after them are as they were
pub record SoFar (text : List ℕ) (old now : List Node) (bytes : List ℕ) (used count : ℕ)
    : Type 0 where
  pub within : used ≤ length bytes
  pub means : EachMeans text (text ++ take used bytes) (take count old) (take count now)
  pub uncoded : Each (IsUncoded (length text)) (take count now)
  pub rest : drop count now ≡ drop count old

-- the first of these nodes, and the others
first_same : (n m : Node) (ns ms : List Node) → n ∷ ns ≡ m ∷ ms → (n ≡ m) × (ns ≡ ms)
first_same n m ns ms e = (ap (first n) e, ap others e)
  where
    first : Node → List Node → Node
    first d [] = d
    first d (x ∷ xs) = x

    others : List Node → List Node
    others [] = []
    others (x ∷ xs) = xs

each_push_uncoded : (size : ℕ) (ns : List Node) (n : Node) → Each (IsUncoded size) ns
    → IsUncoded size n → Each (IsUncoded size) (ns ++ n ∷ [])
each_push_uncoded size [] n h p = (p, tt)
each_push_uncoded size (m ∷ ns) n h p = (h.0, each_push_uncoded size ns n h.1 p)

take_next : (ns : List Node) (i : ℕ) (d : Node) → i < length ns
    → take (i + 1) ns ≡ take i ns ++ get_or ns i d ∷ []
take_next ns i d h =
    take-add i 1 ns ∙ ap (λ y. take i ns ++ take 1 y) (drop-cons ns i d h)

pub decoded_more : (text : List ℕ) (old now : List Node) (bytes new : List ℕ)
    (used end count : ℕ) (x m : Node) → SoFar text old now bytes used count → count < length now
    → length now ≡ length old → IsNodeDecoded text bytes new used (get_or now count x) m end
    → SoFar text old (set now count m) new end (count + 1)
decoded_more text old now bytes new used end count x m s h same t =
    let n = get_or now count x in
    let older : count < length old = omega arith in
    let both = first_same n (get_or old count x) (drop (suc count) now) (drop (suc count) old)
    (sym (drop-cons now count x h) ∙ s.rest ∙ drop-cons old count x older) in
    let more = take (end - used) (drop used new) in
    let far = t.more in
    let there : take end new ≡ take used bytes ++ more =
    ap (λ y. take y new) (let k : end ≡ used + (end - used) = omega arith in k)
    ∙ take-add used (end - used) new
    ∙ ap (λ y. y ++ more) t.kept in
    let grown : (text ++ take used bytes) ++ more ≡ text ++ take end new =
    append_assoc text (take used bytes) more ∙ ap (λ y. text ++ y) (sym there) in
    let means : EachMeans text (text ++ take end new) (take count old) (take count now) =
    subst (λ y. EachMeans text y (take count old) (take count now)) grown
    (each_more text (text ++ take used bytes) more (take count old) (take count now) s.means) in
    let put : take (count + 1) (set now count m) ≡ take count now ++ m ∷ []
    = take_more_set now count m h in
    let old_is : take (count + 1) old ≡ take count old ++ n ∷ [] =
    take_next old count x older ∙ ap (λ y. take count old ++ y ∷ []) (sym both.0) in
    let next : suc count ≡ count + 1 = omega arith in
    record {
      within = t.within;
      means =
          subst (λ y. EachMeans text (text ++ take end new) y (take (count + 1) (set now count m)))
          (sym old_is)
          (subst (λ y. EachMeans text (text ++ take end new) (take count old ++ n ∷ []) y) (sym put)
          (each_push text (text ++ take end new) (take count old) (take count now) n m means
          t.means));
      uncoded =
          subst (Each (IsUncoded (length text))) (sym put)
          (each_push_uncoded (length text) (take count now) m s.uncoded t.uncoded);
      rest =
          drop-set-lt (count + 1) now count m (omega arith)
          ∙ ap (λ y. drop y now) (sym next)
          ∙ both.1
          ∙ ap (λ y. drop y old) next;
    }

pub all_decoded : (text : List ℕ) (old now : List Node) (bytes : List ℕ) (used count : ℕ)
    → SoFar text old now bytes used count → length now ≤ count → length now ≡ length old
    → AreDecoded text old now bytes used
all_decoded text old now bytes used count s h same =
    let a : take count now ≡ now = take_all count now h in
    let b : take count old ≡ old = take_all count old (omega arith) in
    record {
      within = s.within;
      means =
          subst (λ y. EachMeans text (text ++ take used bytes) y now) b
          (subst (λ y. EachMeans text (text ++ take used bytes) (take count old) y) a s.means);
      uncoded = subst (Each (IsUncoded (length text))) a s.uncoded;
    }
