-- Nodes read one part after another, and the first that is wrong.
use Rattle.std.proofs.Common.{◌≡◌, ℕ, suc, ◌+◌, ◌-◌, ◌≤◌, List, [], ◌∷◌, ◌++◌, length, take, drop}
use Rattle.std.proofs.Common.{refl, sym, ap, ◌∙◌, subst, arith, append_assoc, append-nil}
use Rattle.std.proofs.Common.{length-append, Err}
use Rattle.std.proofs.lemmas.List.{take-take, drop-take, take-append-drop, take-append-le}
use Rattle.std.proofs.Math.Seq.{take-append_seam, drop-append_seam}
use Rattle.sf_value.specs.Grammar.Words.{Each}
use Rattle.sf_view.specs.declared.node.Node.{Node}
use Rattle.sf_view.specs.Finding.{IsHop, NoHop}
use Rattle.sf_view.specs.declared.building.NoField.{NoField}
use Rattle.sf_view.specs.declared.building.NoField.TheVariants.{OutOfMemory, Invalid}
use Rattle.sf_view.specs.Building.{IsWrongAt, Reads, first_key, shift_fault}
use Rattle.sf_view.proofs.Hops.{Opens, same_part}

-- nodes that agree up to a place after some others have these at their start, and the rest agrees
pub record Agreed (done rest others : List Node) (i : ℕ) : Type 0 where
  pub more : List Node
  pub split : others ≡ done ++ more
  pub size : length more ≡ length rest
  pub agree : take (suc i) more ≡ take (suc i) rest

pub agree_after : (done rest others : List Node) (i j : ℕ) → length others ≡ length (done ++ rest)
    → j ≡ length done + suc i → take j others ≡ take j (done ++ rest) → Agreed done rest others i
agree_after done rest others i j same e t =
    let n = length done in
    let prefix : take n others ≡ done =
    sym (take-take n j others (omega arith))
    ∙ ap (take n) t
    ∙ take-take n j (done ++ rest) (omega arith)
    ∙ take-append_seam done rest in
    let split : others ≡ done ++ drop n others =
    sym (take-append-drop n others) ∙ ap (λ y. y ++ drop n others) prefix in
    let t' : take (n + suc i) others ≡ take (n + suc i) (done ++ rest) =
    subst (λ y. take y others ≡ take y (done ++ rest)) e t in
    record {
      more = drop n others;
      split = split;
      size =
          let l = ap length split in
          let a = length-append done (drop n others) in
          let b = length-append done rest in omega arith;
      agree =
          sym (drop-take n (suc i) others)
          ∙ ap (drop n) t'
          ∙ drop-take n (suc i) (done ++ rest)
          ∙ ap (take (suc i)) (drop-append_seam done rest);
    }

-- the first node is the same
pub first_same : (others ms : List Node) (n : Node) (i : ℕ) → length others ≡ length (n ∷ ms)
    → take (suc i) others ≡ take (suc i) (n ∷ ms)
    → (more : List Node) × (others ≡ n ∷ more) × (length more ≡ length ms)
first_same [] ms n i s t = absurd (let k : ⊥ = omega arith in k)
first_same (m ∷ others) ms n i s t =
    let e : m ≡ n = cc in
    (others, ap (λ y. y ∷ others) e, let l : length others ≡ length ms = omega arith in l)

-- what holds of wrong nodes by one relation, by another
pub wrong_map : {X Y : Type 0} (P : List Node → X → Type 0) (Q : List Node → Y → Type 0)
    (ns : List Node) (i : ℕ) → ((os : List Node) (y : Y) → Q os y → (x : X) × P os x)
    → IsWrongAt P ns i → IsWrongAt Q ns i
wrong_map P Q ns i f w = record {
  within = w.within;
  stuck = λ others same agree y q. let x = f others y q in w.stuck others same agree x.0 x.1;
}

-- a wrong node after the first
pub wrong_tail : {X Y : Type 0} (P : List Node → X → Type 0) (Q : List Node → Y → Type 0)
    (n : Node) (ms : List Node) (i j : ℕ)
    → ((more : List Node) (y : Y) → Q (n ∷ more) y → (x : X) × P more x)
    → (x : X) → P [] x → j ≡ 1 + i → IsWrongAt P ms i → IsWrongAt Q (n ∷ ms) j
wrong_tail P Q n [] i j f x p e w = absurd (w.stuck [] refl refl x p)
wrong_tail P Q n (m ∷ ms) i j f x p e w = record {
  within = let k = w.within in omega arith;
  stuck = λ others same agree y q.
      let o = agree_after (n ∷ []) (m ∷ ms) others i (suc j) same (omega arith) agree in
      let z = f o.more y (subst (λ z. Q z y) o.split q) in
      w.stuck o.more o.size o.agree z.0 z.1;
}

-- nodes describe these parts, one after another
abbrev pub Parts : {X : Type 0} → (List Node → X → Type 0) → List Node → List X → Type 0
Parts P ns [] = ns ≡ []
Parts P ns (x ∷ xs) =
    (prefix suffix : List Node)
    × (ns ≡ prefix ++ suffix)
    × P prefix x
    × Parts P suffix xs

-- as many, and each two are alike
abbrev pub Alike : {X : Type 0} → (X → X → Type 0) → List X → List X → Type 0
Alike R [] [] = Unit {0}
Alike R [] (y ∷ ys) = ⊥
Alike R (x ∷ xs) [] = ⊥
Alike R (x ∷ xs) (y ∷ ys) = R x y × Alike R xs ys

-- what is known of parts, and of what may come after them
pub record PartLaws {X : Type 0} (source : List ℕ) (P : List Node → X → Type 0)
    (Z : List Node → Type 0) (R : X → X → Type 0) : Type 0 where
  -- each part opens with a node that has its size
  pub opened : (ns : List Node) (x : X) → P ns x → (k : List ℕ) × Opens source k ns
  -- what the same nodes describe is alike
  pub alike : (ns : List Node) (x y : X) → P ns x → P ns y → R x y
  -- what comes after the parts begins with none
  pub stop : (tail ns more : List Node) (x : X) → Z tail → P ns x → tail ≡ ns ++ more → ⊥

-- parts, and what comes after them
pub record Whole {X : Type 0} (P : List Node → X → Type 0) (V : X → Type 0) (D : List X → Type 0)
    (Z : List Node → Type 0) (ns : List Node) (xs : List X) : Type 0 where
  pub body : List Node
  pub tail : List Node
  pub split : ns ≡ body ++ tail
  pub parts : Parts P body xs
  pub valid : Each V xs
  pub kept : D xs
  pub ends : Z tail

-- the same of the rest, after parts that are like these
pub record After {X : Type 0} (P : List Node → X → Type 0) (V : X → Type 0) (D : List X → Type 0)
    (Z : List Node → Type 0) (R : X → X → Type 0) (all : List X) (ns : List Node) (left : List X)
    : Type 0 where
  pub before : List X
  pub alike : Alike R all before
  pub kept : D (before ++ left)
  pub body : List Node
  pub tail : List Node
  pub split : ns ≡ body ++ tail
  pub parts : Parts P body left
  pub valid : Each V left
  pub ends : Z tail

-- the parts that were read so far, and the rest of the nodes
pub record SoFar {X : Type 0} (P : List Node → X → Type 0) (V : X → Type 0)
    (nodes rest : List Node) (all : List X) : Type 0 where
  pub done : List Node
  pub split : nodes ≡ done ++ rest
  pub parts : Parts P done all
  pub valid : Each V all

pub each_snoc : {X : Type 0} (V : X → Type 0) (xs : List X) (x : X) → Each V xs → V x
    → Each V (xs ++ x ∷ [])
each_snoc V [] x h v = (v, tt)
each_snoc V (y ∷ xs) x h v = (h.0, each_snoc V xs x h.1 v)

pub each_right : {X : Type 0} (V : X → Type 0) (xs ys : List X) → Each V (xs ++ ys) → Each V ys
each_right V [] ys h = h
each_right V (x ∷ xs) ys h = each_right V xs ys h.1

pub parts_snoc : {X : Type 0} (P : List Node → X → Type 0) (done prefix : List Node) (all : List X)
    (x : X) → Parts P done all → P prefix x → Parts P (done ++ prefix) (all ++ x ∷ [])
parts_snoc P done prefix [] x e p =
    (prefix, [], ap (λ y. y ++ prefix) e ∙ sym (append-nil prefix), p, refl)
parts_snoc P done prefix (a ∷ all) x (f, b, e, q, r) p = (
  f,
  b ++ prefix,
  ap (λ y. y ++ prefix) e ∙ append_assoc f b prefix,
  q,
  parts_snoc P b prefix all x r p,
)

pub so_more : {X : Type 0} (P : List Node → X → Type 0) (V : X → Type 0)
    (nodes rest prefix later : List Node) (all more : List X) (x : X) → SoFar P V nodes rest all
    → rest ≡ prefix ++ later → P prefix x → V x → more ≡ all ++ x ∷ [] → SoFar P V nodes later more
so_more P V nodes rest prefix later all more x s e p v m = record {
  done = s.done ++ prefix;
  split =
      s.split ∙ ap (λ y. s.done ++ y) e ∙ sym (append_assoc s.done prefix later);
  parts =
      subst (Parts P (s.done ++ prefix)) (sym m) (parts_snoc P s.done prefix all x s.parts p);
  valid = subst (Each V) (sym m) (each_snoc V all x s.valid v);
}

pub nothing_left : (rest : List Node) → length rest ≡ 0 → rest ≡ []
nothing_left [] e = refl
nothing_left (n ∷ rest) e = absurd (let k : ⊥ = omega arith in k)

pub so_whole : {X : Type 0} (P : List Node → X → Type 0) (V : X → Type 0)
    (nodes rest : List Node) (all : List X) → SoFar P V nodes rest all → rest ≡ []
    → Parts P nodes all
so_whole P V nodes rest all s e =
    let is : nodes ≡ s.done = s.split ∙ ap (λ y. s.done ++ y) e ∙ append-nil s.done in
    subst (λ y. Parts P y all) (sym is) s.parts

-- a part that opens so is hopped over
hop_of : (source k : List ℕ) (nodes prefix later : List Node) → Opens source k prefix
    → nodes ≡ prefix ++ later → IsHop source nodes k prefix later
hop_of source k nodes prefix later o e = record {
  first = o.first;
  more = o.more;
  begins = o.begins;
  split = e;
  key = sym o.key;
  size = o.size;
}

module _ {X : Type 0} (source : List ℕ) (P : List Node → X → Type 0) (V : X → Type 0)
    (D : List X → Type 0) (Z : List Node → Type 0) (R : X → X → Type 0)
    (laws : PartLaws source P Z R) where
  record Left (all xs : List X) (rest tail : List Node) : Type 0 where
    before : List X
    left : List X
    body : List Node
    same : xs ≡ before ++ left
    split : rest ≡ body ++ tail
    parts : Parts P body left
    alike : Alike R all before

  rest_parts : (done rest : List Node) (all : List X) (ns tail : List Node) (xs : List X)
      → Parts P done all → Parts P ns xs → Z tail → ns ++ tail ≡ done ++ rest
      → Left all xs rest tail
  rest_parts done rest [] ns tail xs e p z f = record {
    before = [];
    left = xs;
    body = ns;
    same = refl;
    split = sym (f ∙ ap (λ y. y ++ rest) e);
    parts = p;
    alike = tt;
  }
  rest_parts done rest (a ∷ all) ns tail [] (fa, da, e, pa, ra) n z f =
      absurd
      (laws.stop tail fa (da ++ rest) a z pa
      (sym (ap (λ y. y ++ tail) n) ∙ f ∙ ap (λ y. y ++ rest) e ∙ append_assoc fa da rest))
  rest_parts done rest (a ∷ all) ns tail (x ∷ xs) (fa, da, e, pa, ra) (fx, bx, g, px, rx) z f =
      let oa = laws.opened fa a pa in
      let ox = laws.opened fx x px in
      let both : fa ++ (da ++ rest) ≡ fx ++ (bx ++ tail) =
      sym (append_assoc fa da rest)
      ∙ sym (ap (λ y. y ++ rest) e)
      ∙ sym f
      ∙ ap (λ y. y ++ tail) g
      ∙ append_assoc fx bx tail in
      let s = same_part source ox.0 (fa ++ (da ++ rest)) fx (bx ++ tail) oa.0 fa (da ++ rest) ox.1
      both (hop_of source oa.0 (fa ++ (da ++ rest)) fa (da ++ rest) oa.1 refl) in
      let r = rest_parts da rest all bx tail xs ra rx z (sym s.others) in
      record {
        before = x ∷ r.before;
        left = r.left;
        body = r.body;
        same = ap (λ y. x ∷ y) r.same;
        split = r.split;
        parts = r.parts;
        alike = (laws.alike fa a x pa (subst (λ y. P y x) (sym s.here) px), r.alike);
      }

  -- the rest is wrong at a node, so all nodes are
  pub wrong_after : (nodes rest : List Node) (all : List X) (at i j : ℕ) → SoFar P V nodes rest all
      → at + length rest ≡ length nodes → 1 ≤ length rest → j ≡ at + i
      → IsWrongAt (After P V D Z R all) rest i → IsWrongAt (Whole P V D Z) nodes j
  wrong_after nodes rest all at i j s a l e w =
      let sizes : length nodes ≡ length s.done + length rest =
      ap length s.split ∙ length-append s.done rest in
      record {
        within = let k = w.within in omega arith;
        stuck = λ others same agree xs h.
            let o = agree_after s.done rest others i (suc j) (same ∙ ap length s.split)
            (omega arith) (agree ∙ ap (take (suc j)) s.split) in
            let r = rest_parts s.done o.more all h.body h.tail xs s.parts h.parts h.ends
            (sym h.split ∙ o.split) in
            w.stuck o.more o.size o.agree r.left
            (record {
              before = r.before;
              alike = r.alike;
              kept = subst D r.same h.kept;
              body = r.body;
              tail = h.tail;
              split = r.split;
              parts = r.parts;
              valid = each_right V r.before r.left (subst (Each V) r.same h.valid);
              ends = h.ends;
            });
      }

  -- no tail begins with the node
  abbrev pub NoTail : Node → Type 0
  NoTail n = (tail more : List Node) → Z tail → tail ≡ n ∷ more → ⊥

  -- the first part of nodes that begin with this one
  record Starts (all : List X) (n : Node) (others : List Node) : Type 0 where
    value : X
    xs : List X
    before : List X
    prefix : List Node
    later : List Node
    more : List Node
    split : others ≡ prefix ++ later
    begins : prefix ≡ n ∷ more
    size : length prefix ≡ n.size
    key : List ℕ
    opens : Opens source key prefix
    part : P prefix value
    valid : V value
    alike : Alike R all before
    kept : D (before ++ value ∷ xs)

  starts : (all : List X) (n : Node) (others more : List Node) (left : List X) → NoTail n
      → others ≡ n ∷ more → After P V D Z R all others left → Starts all n others
  starts all n others more left t e h =
      by left h.body h.before h.alike h.kept h.split h.parts h.valid
    where
      by : (left : List X) (body : List Node) (before : List X) → Alike R all before
          → D (before ++ left) → others ≡ body ++ h.tail → Parts P body left → Each V left
          → Starts all n others
      by [] body before a d s p v =
          absurd (t h.tail more h.ends (sym (s ∙ ap (λ y. y ++ h.tail) p) ∙ e))
      by (x ∷ xs) body before a d s (f, b, g, p, r) v =
          let o = laws.opened f x p in
          let split : others ≡ f ++ (b ++ h.tail) =
          s ∙ ap (λ y. y ++ h.tail) g ∙ append_assoc f b h.tail in
          let both : o.1.first ∷ (o.1.more ++ (b ++ h.tail)) ≡ n ∷ more =
          sym (split ∙ ap (λ y. y ++ (b ++ h.tail)) o.1.begins) ∙ e in
          let one : o.1.first ≡ n = cc in
          record {
            value = x;
            xs = xs;
            before = before;
            prefix = f;
            later = b ++ h.tail;
            more = o.1.more;
            split = split;
            begins = o.1.begins ∙ ap (λ y. y ∷ o.1.more) one;
            size = o.1.size ∙ ap (λ y. y.size) one;
            key = o.0;
            opens = o.1;
            part = p;
            valid = v.0;
            alike = a;
            kept = d;
          }

  -- the first part is wrong at a node, so the rest is
  pub wrong_first : {Y : Type 0} (Q : List Node → Y → Type 0) (rest prefix later more : List Node)
      (n : Node) (all : List X) (i : ℕ) → rest ≡ prefix ++ later → prefix ≡ n ∷ more
      → length prefix ≡ n.size → NoTail n
      → ((ns : List Node) (x : X) → P ns x → V x → (y : Y) × Q ns y)
      → IsWrongAt Q prefix i → IsWrongAt (After P V D Z R all) rest i
  wrong_first Q rest prefix later more n all i e b s t f w =
      let k = w.within in
      let lb = ap length b in
      let lr : length rest ≡ length prefix + length later = ap length e ∙ length-append prefix later in
      let begins : rest ≡ n ∷ (more ++ later) = e ∙ ap (λ y. y ++ later) b in
      record {
        within = omega arith;
        stuck = λ others same agree left h.
            let o = first_same others (more ++ later) n i (same ∙ ap length begins)
            (agree ∙ ap (take (suc i)) begins) in
            let p = starts all n others o.0 left t o.1 h in
            let l : length p.prefix ≡ length prefix = p.size ∙ sym s in
            let y = f p.prefix p.value p.part p.valid in
            w.stuck p.prefix l
            (sym (take-append-le (suc i) p.prefix p.later (omega arith))
            ∙ sym (ap (take (suc i)) p.split)
            ∙ agree
            ∙ ap (take (suc i)) e
            ∙ take-append-le (suc i) prefix later (omega arith))
            y.0 y.1;
      }

  -- the first node is wrong, so the rest is
  pub wrong_here : (rest more : List Node) (n : Node) (all : List X) → rest ≡ n ∷ more → NoTail n
      → ((fs : List Node) (x : X) (xs before : List X) (k : List ℕ) → Opens source k (n ∷ fs)
      → P (n ∷ fs) x → V x → Alike R all before → D (before ++ x ∷ xs)
      → length (n ∷ fs) ≤ length rest → ⊥)
      → IsWrongAt (After P V D Z R all) rest 0
  wrong_here rest more n all e t bad = record {
    within = let l = ap length e in omega arith;
    stuck = λ others same agree left h.
        let o = first_same others more n 0 (same ∙ ap length e) (agree ∙ ap (take 1) e) in
        let p = starts all n others o.0 left t o.1 h in
        let l = ap length p.split in
        let a = length-append p.prefix p.later in
        let b = ap length p.begins in
        bad p.more p.value p.xs p.before p.key (subst (Opens source p.key) p.begins p.opens)
        (subst (λ y. P y p.value) p.begins p.part) p.valid p.alike p.kept (omega arith);
  }

  -- no part begins at the rest
  pub wrong_hop : (rest more : List Node) (n : Node) (all : List X) → rest ≡ n ∷ more → NoTail n
      → NoHop source rest → IsWrongAt (After P V D Z R all) rest 0
  wrong_hop rest more n all e t none =
      wrong_here rest more n all e t
      (λ fs x xs before k o p v a d l.
      let none' : NoHop source (n ∷ more) = subst (NoHop source) e none in
      let one : o.first ≡ n = (let b = o.begins in cc) in
      let w = subst (λ y. y.key_at + y.key_length ≤ length source) one o.within in
      let s : length (n ∷ fs) ≡ n.size = o.size ∙ ap (λ y. y.size) one in
      let le = ap length e in
      none' w (omega arith) (omega arith))

-- the key of the first node of a part
pub opens_key : (source k : List ℕ) (ns : List Node) → Opens source k ns → first_key source ns ≡ k
opens_key source k ns o = ap (first_key source) o.begins ∙ o.key

pub hop_key : (source k : List ℕ) (nodes prefix later : List Node)
    → IsHop source nodes k prefix later → first_key source prefix ≡ k
hop_key source k nodes prefix later h = ap (first_key source) h.begins ∙ sym h.key

pub some_first : (rest : List Node) → 1 ≤ length rest
    → (n : Node) × (more : List Node) × (rest ≡ n ∷ more)
some_first [] l = absurd (let k : ⊥ = omega arith in k)
some_first (n ∷ more) l = (n, more, refl)

pub hop_begins : (source k : List ℕ) (nodes prefix later : List Node)
    (h : IsHop source nodes k prefix later) → nodes ≡ h.first ∷ (h.more ++ later)
hop_begins source k nodes prefix later h = h.split ∙ ap (λ y. y ++ later) h.begins

-- what is wrong with a part of all nodes
module _ {X Y : Type 0} (source : List ℕ) (P : List Node → X → Type 0) (V : X → Type 0)
    (D : List X → Type 0) (Z : List Node → Type 0) (R : X → X → Type 0)
    (laws : PartLaws source P Z R) (A : List Node → Y → Type 0)
    (whole : (ns : List Node) (y : Y) → A ns y → (xs : List X) × Whole P V D Z ns xs) where
  pub after_wrong : (nodes rest : List Node) (all : List X) (i j : ℕ) → SoFar P V nodes rest all
      → 1 ≤ length rest → j ≡ length nodes - length rest + i
      → IsWrongAt (After P V D Z R all) rest i → IsWrongAt A nodes j
  after_wrong nodes rest all i j s l e w =
      let sizes : length nodes ≡ length s.done + length rest =
      ap length s.split ∙ length-append s.done rest in
      wrong_map (Whole P V D Z) A nodes j whole
      (wrong_after source P V D Z R laws nodes rest all (length nodes - length rest) i j s
      (omega arith) l e w)

  -- no part begins there
  pub hopless : (nodes rest : List Node) (all : List X) → SoFar P V nodes rest all
      → 1 ≤ length rest
      → ((n : Node) (more : List Node) → rest ≡ n ∷ more
      → (tail later : List Node) → Z tail → tail ≡ n ∷ later → ⊥)
      → NoHop source rest → IsWrongAt A nodes (length nodes - length rest)
  hopless nodes rest all s l t none =
      let f = some_first rest l in
      after_wrong nodes rest all 0 (length nodes - length rest) s l (omega arith)
      (wrong_hop source P V D Z R laws rest f.1 f.0 all f.2 (t f.0 f.1 f.2) none)

  -- no part with this first node is valid
  pub misfit : (nodes rest : List Node) (all : List X) (k : List ℕ) (prefix later : List Node)
      → SoFar P V nodes rest all → (h : IsHop source rest k prefix later)
      → ((tail more : List Node) → Z tail → tail ≡ h.first ∷ more → ⊥)
      → ((fs : List Node) (x : X) (xs before : List X) → Opens source k (h.first ∷ fs)
      → P (h.first ∷ fs) x → V x → Alike R all before → D (before ++ x ∷ xs) → ⊥)
      → IsWrongAt A nodes (length nodes - length rest)
  misfit nodes rest all k prefix later s h t bad =
      let e = hop_begins source k rest prefix later h in
      let le = ap length e in
      after_wrong nodes rest all 0 (length nodes - length rest) s (omega arith) (omega arith)
      (wrong_here source P V D Z R laws rest (h.more ++ later) h.first all e t
      (λ fs x xs before j o p v a d _.
      let same : j ≡ k =
      sym (opens_key source j (h.first ∷ fs) o) ∙ sym h.key in
      bad fs x xs before (subst (λ y. Opens source y (h.first ∷ fs)) same o) p v a d))

  -- the part is wrong at a node
  pub part_wrong : {W : Type 0} (Q : List Node → W → Type 0) (nodes rest : List Node) (all : List X)
      (k : List ℕ) (prefix later : List Node) (e : NoField)
      → SoFar P V nodes rest all → (h : IsHop source rest k prefix later)
      → ((tail more : List Node) → Z tail → tail ≡ h.first ∷ more → ⊥)
      → ((ns : List Node) (x : X) → P ns x → V x → (y : W) × Q ns y)
      → Reads Q prefix (Err e) → Reads A nodes (Err (shift_fault (length nodes - length rest) e))
  part_wrong Q nodes rest all k prefix later OutOfMemory s h t f w = tt
  part_wrong Q nodes rest all k prefix later (Invalid i) s h t f w =
      let b = hop_begins source k rest prefix later h in
      let le = ap length b in
      after_wrong nodes rest all i (length nodes - length rest + i) s (omega arith) refl
      (wrong_first source P V D Z R laws Q rest prefix later h.more h.first all i h.split h.begins
      h.size t f w)
