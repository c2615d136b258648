-- The nodes of a Dictionary in which a key is repeated.
use Rattle.std.proofs.Common.{◌≡◌, ◌≢◌, ℕ, zero, suc, ◌+◌, ◌-◌, ◌<◌, ◌≤◌, Bool, true, false, List, []}
use Rattle.std.proofs.Common.{if◌then◌else◌, ◌∷◌, ◌++◌, length, take, drop, get_or, set, refl, sym, ap, ◌∙◌, subst}
use Rattle.std.proofs.Common.{arith, append_assoc, append-nil, length-append, ⊎_elim}
use Rattle.std.proofs.Common.{length-take, max}
use Rattle.std.proofs.lemmas.Bool.{cases_eq, cases_lt}
use Rattle.std.proofs.lemmas.Grind.{get_or-set_at}
use Rattle.std.proofs.lemmas.List.{get_or-set_other, get_or_append_left, length-set, take_more_set, take_more}
use Rattle.std.proofs.Math.Seq.{get_or-append_seam, take-set-lt}
use Rattle.std.proofs.Math.Seq.{take-append_seam, drop-append_seam}
use Rattle.std.specs.List.{IsDistinct, AllByRecursion}
use Rattle.std.specs.Map.{keys_of}
use Rattle.std.specs.Str.{bytes_eq}
use Rattle.std.specs.Cmp.Lexicographic.{nat_list_eq_equiv}
use Rattle.sf_value.specs.declared.dialect.Dialect.{Dialect}
use Rattle.sf_value.specs.declared.value.Member.{Member}
use Rattle.sf_value.specs.Grammar.Pairs.{Pairs, settle, HasDistinctKeys}
use Rattle.sf_value.proofs.EntryMaps.{settle-push}
use Rattle.sf_value.proofs.Settling.{same_key, key_is, settle_settle, distinct-settle}
use Rattle.sf_view.specs.declared.node.Node.{Node}
use Rattle.sf_view.specs.View.{slice_at, DescribesMember, DescribesEntries}
use Rattle.sf_view.specs.Finding.{IsHop, NoHop}
use Rattle.sf_view.specs.Keys.{tag_of}
use Rattle.sf_view.specs.Settling.{first_part, first_key_of, run_from, key_from, runs_of}
use Rattle.sf_view.specs.Settling.{RunsDescribe, IsPlace, HoldsPlace, HoldsPlaces, IsIndex}
use Rattle.sf_view.specs.Scans.{Puts}
use Rattle.sf_view.proofs.Putting.{puts_then}
use Rattle.sf_view.proofs.Hops.{Opens, opens, hopped, none_left, some_hop}

-- one more pair: a new key goes last, and a later value takes the place of the earlier one
abbrev pub inserted : Pairs Member → List ℕ → Member → Pairs Member
inserted [] k x = (k, x) ∷ []
inserted (e ∷ es) k x = if bytes_eq k e.0 then (e.0, x) ∷ es else e ∷ inserted es k x

inserted_is : (es : Pairs Member) (k : List ℕ) (x : Member) → HasDistinctKeys es
    → settle (es ++ (k, x) ∷ []) ≡ inserted es k x
unfolding IsDistinct
inserted_is [] k x h = refl
inserted_is (e ∷ es) k x h =
    by (bytes_eq k e.0) refl _ (settle-push (e ∷ es) k x h)
    (sym (settle-push es k x h.1) ∙ inserted_is es k x h.1)
  where
    by : (b : Bool) → bytes_eq k e.0 ≡ b → (rest : Pairs Member)
        → settle ((e ∷ es) ++ (k, x) ∷ [])
        ≡ (if bytes_eq k e.0 then (e.0, x) ∷ es else e ∷ rest)
        → rest ≡ inserted es k x → settle ((e ∷ es) ++ (k, x) ∷ []) ≡ inserted (e ∷ es) k x
    by true t rest i j = i ∙ rw t
    by false t rest i j = i ∙ rw t (ap (λ y. e ∷ y) j)

-- different keys
differs : (k l : List ℕ) → k ≢ l → bytes_eq k l ≡ false
differs k l n = by (bytes_eq k l) refl
  where
    by : (b : Bool) → bytes_eq k l ≡ b → bytes_eq k l ≡ false
    by false e = e
    by true e = absurd (n (key_is k l e))

-- the key of a member is that of its first node
part_key : (source : List ℕ) (ns : List Node) (k : List ℕ) → Opens source k (first_part ns)
    → first_key_of source ns ≡ k
part_key source [] k o = absurd (let e = ap length o.begins in let z : ⊥ = omega arith in z)
part_key source (n ∷ ns) k o = by n.size refl
  where
    by : (m : ℕ) → n.size ≡ m → first_key_of source (n ∷ ns) ≡ k
    by zero e = absurd (
        let b : take 0 (n ∷ ns) ≡ o.first ∷ o.more = subst (λ y. take y (n ∷ ns) ≡ o.first ∷ o.more) e o.begins in
        let l = ap length b in let z : ⊥ = omega arith in z)
    by (suc m) e =
        let b : n ∷ take m ns ≡ o.first ∷ o.more
        = subst (λ y. take y (n ∷ ns) ≡ o.first ∷ o.more) e o.begins in
        let h : n ≡ o.first = cc in
        ap (λ y. slice_at y.key_at y.key_length source) h ∙ o.key

run_key : (d : Dialect) (source k : List ℕ) (nodes : List Node) (s : ℕ) (m : Member)
    → DescribesMember d source k (run_from nodes s) m → key_from source nodes s ≡ k
run_key d source k nodes s m t =
    part_key source (drop s nodes) k (opens d source k (run_from nodes s) m t)

-- the part that is hopped over is the run from its first node
pub run_is : (source : List ℕ) (nodes rest : List Node) (k : List ℕ) (prefix later : List Node)
    (s : ℕ) → drop s nodes ≡ rest → IsHop source rest k prefix later
    → (run_from nodes s ≡ prefix) × (key_from source nodes s ≡ k)
run_is source nodes rest k prefix later s e h =
    let split : rest ≡ h.first ∷ (h.more ++ later) = h.split ∙ ap (λ y. y ++ later) h.begins in (
      ap first_part (e ∙ split)
          ∙ ap (λ y. take y (h.first ∷ (h.more ++ later))) (sym h.size)
          ∙ ap (take (length prefix)) (ap (λ y. y ++ later) (sym h.begins))
          ∙ take-append_seam prefix later,
      ap (first_key_of source) (e ∙ split) ∙ sym h.key,
    )

module _ (d : Dialect) (source : List ℕ) (nodes : List Node) where
  -- a key that is none of the earlier ones
  absent_key : (q k : List ℕ) (order : List ℕ) (es : Pairs Member) (p : ℕ)
      → AllByRecursion (λ l. bytes_eq q l ≡ false) (keys_of es)
      → RunsDescribe d source nodes order es → p < length order
      → key_from source nodes (get_or order p 0) ≡ k → bytes_eq k q ≡ false
  absent_key q k [] es p a r h e = absurd (let z : ⊥ = omega arith in z)
  absent_key q k (s ∷ order) [] p a r h e = absurd r
  absent_key q k (s ∷ order) (x ∷ es) zero a r h e =
      let own : k ≡ x.0 = sym e ∙ run_key d source x.0 nodes s x.1 r.0 in
      nat_list_eq_equiv.symm k q ∙ ap (bytes_eq q) own ∙ a.0
  absent_key q k (s ∷ order) (x ∷ es) (suc p) a r h e =
      absent_key q k order es p a.1 r.1 (omega arith) e

  -- a later value of a key takes the place of the earlier one
  runs_set : (order : List ℕ) (es : Pairs Member) (p s : ℕ) (k : List ℕ) (m : Member)
      → RunsDescribe d source nodes order es → HasDistinctKeys es → p < length order
      → key_from source nodes (get_or order p 0) ≡ k → DescribesMember d source k (run_from nodes s) m
      → RunsDescribe d source nodes (set order p s) (inserted es k m)
  unfolding IsDistinct
  runs_set [] es p s k m r apart h e t = absurd (let z : ⊥ = omega arith in z)
  runs_set (o ∷ order) [] p s k m r apart h e t = absurd r
  runs_set (o ∷ order) (x ∷ es) zero s k m r apart h e t =
      let own : k ≡ x.0 = sym e ∙ run_key d source x.0 nodes o x.1 r.0 in
      let same : bytes_eq k x.0 ≡ true = subst (λ y. bytes_eq k y ≡ true) own (same_key k) in
      rw same (subst (λ y. DescribesMember d source y (run_from nodes s) m) own t, r.1)
  runs_set (o ∷ order) (x ∷ es) (suc p) s k m r apart h e t =
      let other = absent_key x.0 k order es p apart.0 r.1 (omega arith) e in
      rw other (r.0, runs_set order es p s k m r.1 apart.1 (omega arith) e t)

  -- the value of a new key goes last
  runs_push : (order : List ℕ) (es : Pairs Member) (s : ℕ) (k : List ℕ) (m : Member)
      → RunsDescribe d source nodes order es
      → ((i : ℕ) → i < length order → key_from source nodes (get_or order i 0) ≢ k)
      → DescribesMember d source k (run_from nodes s) m
      → RunsDescribe d source nodes (order ++ s ∷ []) (inserted es k m)
  runs_push [] [] s k m r n t = (t, refl)
  runs_push [] (x ∷ es) s k m r n t = absurd (let z : ⊥ = cc in z)
  runs_push (o ∷ order) [] s k m r n t = absurd r
  runs_push (o ∷ order) (x ∷ es) s k m r n t =
      let own = run_key d source x.0 nodes o x.1 r.0 in
      let other = differs k x.0 (λ y. n 0 (omega arith) (own ∙ sym y)) in
      rw other (r.0, runs_push order es s k m r.1 (λ i h. n (suc i) (omega arith)) t)

  -- all the nodes, in this order
  pub runs_describe : (order : List ℕ) (es : Pairs Member) → RunsDescribe d source nodes order es
      → DescribesEntries d source (runs_of nodes order) es
  runs_describe [] [] r = refl
  runs_describe [] (x ∷ es) r = absurd (let z : ⊥ = cc in z)
  runs_describe (s ∷ order) [] r = absurd r
  runs_describe (s ∷ order) (x ∷ es) r =
      (run_from nodes s, runs_of nodes order, refl, r.0, runs_describe order es r.1)

-- the order after one more part is placed
pub record IsNext (order : List ℕ) (p s : ℕ) (next : List ℕ) : Type 0 where
  pub found : p < length order → next ≡ set order p s
  pub added : p ≡ length order → next ≡ order ++ s ∷ []

pub next_is : (order : List ℕ) (count p s : ℕ) → count ≤ length order → p < length order
    → IsNext (take count order) p s (take (max count (p + 1)) (set order p s))
next_is order count p s h w =
    let l : length (take count order) ≡ count = omega (arith, length-take count order) in
    record {
      found = λ i.
          let m : max count (p + 1) ≡ count = omega arith in
          ap (λ y. take y (set order p s)) m ∙ take-set-lt count order p s (omega arith);
      added = λ i.
          let m : max count (p + 1) ≡ p + 1 = omega arith in
          let j : p ≡ count = omega arith in
          ap (λ y. take y (set order p s)) m ∙ take_more_set order p s w
          ∙ ap (λ y. take y order ++ s ∷ []) j;
    }

-- the members so far are settled, and the rest follows them
pub record SettledSoFar (d : Dialect) (source : List ℕ) (nodes rest : List Node) (order : List ℕ)
    (ps : Pairs Member) : Type 0 where
  pub done : Pairs Member
  pub left : Pairs Member
  pub parts : ps ≡ done ++ left
  pub runs : RunsDescribe d source nodes order (settle done)
  pub describes : DescribesEntries d source rest left

pub settled_none : (d : Dialect) (source : List ℕ) (nodes : List Node) (order : List ℕ)
    (ps : Pairs Member) → DescribesEntries d source nodes ps
    → SettledSoFar d source nodes nodes (take 0 order) ps
settled_none d source nodes order ps t =
    record { done = []; left = ps; parts = refl; runs = refl; describes = t }

pub settled_more : (d : Dialect) (source : List ℕ) (nodes rest : List Node) (order next : List ℕ)
    (ps : Pairs Member) (k : List ℕ) (prefix later : List Node) (p s : ℕ)
    → SettledSoFar d source nodes rest order ps → IsHop source rest k prefix later
    → drop s nodes ≡ rest → IsPlace source nodes order k p → IsNext order p s next
    → SettledSoFar d source nodes later next ps
settled_more d source nodes rest order next ps k prefix later p s l h e is n =
    by l.left l.parts l.describes
  where
    by : (left : Pairs Member) → ps ≡ l.done ++ left → DescribesEntries d source rest left
        → SettledSoFar d source nodes later next ps
    by [] i t = absurd (some_hop source k rest prefix later h t)
    by (q ∷ qs) i t =
        let o = hopped (DescribesMember d source) source (opens d source) rest k prefix later q qs h t in
        let run = run_is source nodes rest k prefix later s e h in
        let own : DescribesMember d source k (run_from nodes s) q.1
        = subst (λ y. DescribesMember d source k y q.1) (sym run.0)
        (subst (λ y. DescribesMember d source y prefix q.1) (sym o.key) o.describes) in
        let more : RunsDescribe d source nodes next (inserted (settle l.done) k q.1)
        = ⊎_elim
        (λ w. subst (λ y. RunsDescribe d source nodes y (inserted (settle l.done) k q.1))
        (sym (n.found w))
        (runs_set d source nodes order (settle l.done) p s k q.1 l.runs (distinct-settle l.done) w
        (is.found w) own))
        (λ w. let z : p ≡ length order = (let y = is.within in omega arith) in
        subst (λ y. RunsDescribe d source nodes y (inserted (settle l.done) k q.1))
        (sym (n.added z))
        (runs_push d source nodes order (settle l.done) s k q.1 l.runs (is.absent z) own))
        (cases_lt p (length order)) in
        record {
          done = l.done ++ q ∷ [];
          left = qs;
          parts = i ∙ sym (append_assoc l.done (q ∷ []) qs);
          runs =
              subst (RunsDescribe d source nodes next)
              (ap (λ y. inserted (settle l.done) y q.1) o.key
              ∙ sym (inserted_is (settle l.done) q.0 q.1 (distinct-settle l.done))
              ∙ settle_settle l.done (q ∷ []))
              more;
          describes = o.rest;
        }

pub settled_all : (d : Dialect) (source : List ℕ) (nodes rest : List Node) (order : List ℕ)
    (ps : Pairs Member) → SettledSoFar d source nodes rest order ps → NoHop source rest
    → RunsDescribe d source nodes order (settle ps)
settled_all d source nodes rest order ps l n =
    let none = none_left (DescribesMember d source) source (opens d source) rest l.left n l.describes in
    subst (λ y. RunsDescribe d source nodes order (settle y))
    (sym (l.parts ∙ ap (λ y. l.done ++ y) none ∙ append-nil l.done)) l.runs

-- the rest is an end of the nodes
pub record IsLater (nodes rest : List Node) : Type 0 where
  pub before : List Node
  pub whole : nodes ≡ before ++ rest

pub later_more : (source : List ℕ) (nodes rest : List Node) (k : List ℕ) (prefix later : List Node)
    → IsLater nodes rest → IsHop source rest k prefix later → IsLater nodes later
later_more source nodes rest k prefix later l h = record {
  before = l.before ++ prefix;
  whole =
      l.whole ∙ ap (λ y. l.before ++ y) h.split ∙ sym (append_assoc l.before prefix later);
}

pub later_is : (nodes rest : List Node) → IsLater nodes rest
    → drop (length nodes - length rest) nodes ≡ rest
later_is nodes rest l =
    let n : length nodes - length rest ≡ length l.before
    = (let a = ap length l.whole in let b = length-append l.before rest in omega arith) in
    ap (λ y. drop y nodes) n ∙ ap (drop (length l.before)) l.whole
    ∙ drop-append_seam l.before rest

-- a table after one more part is placed
pub index_more : (source : List ℕ) (nodes : List Node) (old new order next : List ℕ) (k : List ℕ)
    (p s : ℕ) → IsIndex source nodes old order → length new ≡ length old
    → ((t q : ℕ) → HoldsPlace old t q → HoldsPlace new t q)
    → (p ≡ length order → 1 ≤ length old → HoldsPlace new (tag_of k) p)
    → IsPlace source nodes order k p → key_from source nodes s ≡ k → IsNext order p s next
    → IsIndex source nodes new next
index_more source nodes old new order next k p s index same kept entered is own n some =
    ⊎_elim found added (cases_lt p (length order))
  where
    used : 1 ≤ length old
    used = omega arith

    still : (i : ℕ) → i < length order
        → HoldsPlace new (tag_of (key_from source nodes (get_or order i 0))) i
    still i w = kept (tag_of (key_from source nodes (get_or order i 0))) i (index used i w)

    at : List ℕ → ℕ → Type 0
    at o i = HoldsPlace new (tag_of (key_from source nodes (get_or o i 0))) i

    found : p < length order → HoldsPlaces source nodes new next
    found w i v =
        let l : length next ≡ length order = ap length (n.found w) ∙ length-set order p s in
        let u : i < length order = omega arith in
        subst (λ o. HoldsPlace new (tag_of (key_from source nodes (get_or o i 0))) i)
        (sym (n.found w))
        (⊎_elim
        (λ e.
        subst (λ y. HoldsPlace new (tag_of y) i)
        (ap (λ j. key_from source nodes (get_or order j 0)) e ∙ is.found w ∙ sym own
        ∙ ap (key_from source nodes) (sym (get_or-set_at order p i s 0 e w)))
        (still i u))
        (λ e.
        subst (λ y. HoldsPlace new (tag_of (key_from source nodes y)) i)
        (sym (get_or-set_other order p i s 0 e)) (still i u))
        (cases_eq i p))

    added : length order ≤ p → HoldsPlaces source nodes new next
    added w i v =
        let z : p ≡ length order = (let y = is.within in omega arith) in
        let l : length next ≡ length order + 1
        = ap length (n.added z) ∙ length-append order (s ∷ []) in
        subst (λ o. HoldsPlace new (tag_of (key_from source nodes (get_or o i 0))) i)
        (sym (n.added z))
        (⊎_elim
        (λ u.
        subst (λ y. HoldsPlace new (tag_of (key_from source nodes y)) i)
        (sym (get_or_append_left order (s ∷ []) 0 i u)) (still i u))
        (λ u.
        let j : i ≡ length order = omega arith in
        let e : get_or (order ++ s ∷ []) i 0 ≡ s
        = ap (λ y. get_or (order ++ s ∷ []) y 0) j ∙ get_or-append_seam order s [] 0 in
        subst (λ y. HoldsPlace new (tag_of y) i) (sym (ap (key_from source nodes) e ∙ own))
        (subst (HoldsPlace new (tag_of k)) (z ∙ sym j) (entered z used)))
        (cases_lt i (length order)))

-- the nodes of one more part
runs_append : (nodes : List Node) (xs ys : List ℕ)
    → runs_of nodes (xs ++ ys) ≡ runs_of nodes xs ++ runs_of nodes ys
runs_append nodes [] ys = refl
runs_append nodes (x ∷ xs) ys =
    ap (λ y. run_from nodes x ++ y) (runs_append nodes xs ys)
    ∙ sym (append_assoc (run_from nodes x) (runs_of nodes xs) (runs_of nodes ys))

pub runs_more : (raw : List Node) (order : List ℕ) (i : ℕ) (old mid new : List Node)
    (between count : ℕ) (run : List Node)
    → Puts old mid 0 between (runs_of raw (take i order)) → Puts mid new between count run
    → run ≡ run_from raw (get_or order i 0) → i < length order
    → Puts old new 0 count (runs_of raw (take (i + 1) order))
runs_more raw order i old mid new between count run p q e w =
    subst (Puts old new 0 count)
    (ap (λ y. runs_of raw (take i order) ++ y) (e ∙ sym (append-nil (run_from raw (get_or order i 0))))
    ∙ sym (runs_append raw (take i order) (get_or order i 0 ∷ []))
    ∙ ap (runs_of raw) (sym (take_more order i 0 w)))
    (puts_then old mid new 0 between count (runs_of raw (take i order)) run p q)

pub settled_there : (d : Dialect) (source : List ℕ) (raw : List Node) (order : List ℕ)
    (old new : List Node) (count : ℕ) (es : Pairs Member)
    → Puts old new 0 count (runs_of raw order) → RunsDescribe d source raw order es
    → DescribesEntries d source (take count new) es
settled_there d source raw order old new count es p r =
    subst (λ y. DescribesEntries d source y es) (sym p.there)
    (runs_describe d source raw order es r)
