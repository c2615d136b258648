-- Parts of a text that are counted.
use Rattle.std.proofs.Common.{◌≡◌, ◌≢◌, ℕ, ◌+◌, true, List, [], ◌∷◌, ◌++◌, Option, Some, None}
use Rattle.std.proofs.Common.{length, refl, sym, ap, ap₂, ◌∙◌, subst, arith}
use Rattle.std.proofs.Common.{if◌then◌else◌, Bool, false}
use Rattle.std.specs.List.{IsDistinct}
use Rattle.std.specs.Map.{keys_of}
use Rattle.std.specs.Str.{bytes_eq}
use Rattle.sf_value.specs.declared.dialect.Dialect.{Dialect}
use Rattle.sf_value.specs.declared.value.Bare.{Bare}
use Rattle.sf_value.specs.declared.value.Member.{Member}
use Rattle.sf_value.specs.declared.value.Kind.TheVariants as kind
use Rattle.sf_value.specs.Grammar.Classes.{is_sp}
use Rattle.sf_value.specs.Grammar.Pairs.{Pairs, latest, without, settle}
use Rattle.sf_value.specs.Grammar.Tokens.{IsKey}
use Rattle.sf_value.specs.Grammar.Parameters.{SpellsRaw}
use Rattle.sf_value.specs.Grammar.InnerLists.{SpellsMember}
use Rattle.sf_value.specs.Grammar.Fields.{SpellsEntry, list_of, dict_of}
use Rattle.sf_value.proofs.Settling.{settle-distinct}
use Rattle.sf_view.specs.declared.counting.Counts.{Counts}
use Rattle.sf_view.specs.declared.view.BareView.{BareView}
use Rattle.sf_value.specs.Runs.{Skips}
use Rattle.sf_view.specs.Views.{IsBorrowed}
use Rattle.sf_view.specs.View.{text_of}
use Rattle.sf_view.specs.Reads.{Reads, ReadsBare, ReadsParam}
use Rattle.sf_view.specs.Cursors.{IsFirst, IsNext}
use Rattle.sf_view.specs.declared.keys.Marks.{Marks}
use Rattle.sf_view.specs.Marks.{mark_of, HaveMarks, AreMarked}
use Rattle.sf_view.specs.Keys.{AreInTable, Holds, Enters, tag_of}
use Rattle.sf_view.specs.NodeCounts.{member_nodes, members_nodes}
use Rattle.sf_view.specs.NodeCounts.{entries_nodes, params_bytes}
use Rattle.sf_view.specs.NodeCounts.{member_bytes, members_bytes, entries_bytes}
use Rattle.sf_view.specs.Counting.{HasCounts, CountsParams, CountsItem, CountsInner}
use Rattle.sf_view.specs.Counting.{CountsMember, CountsItems, CountsEntry, IsSum, sum_nodes, sum_bytes}
use Rattle.sf_view.proofs.KeyMarks.{keys_push}
use Rattle.sf_view.proofs.KeyTables.{in_table_more}
use Rattle.sf_view.proofs.Cursors.{DoneSoFar, done_none, done_more, item_only, list_only, dict_only}
use Rattle.sf_view.proofs.ReadParts.{reads_as, raw_end, raw_more, params_of, params_end, item_reads}
use Rattle.sf_view.proofs.ReadParts.{items_after, items_apart, items_end, items_then, inner_reads}
use Rattle.sf_view.proofs.ReadParts.{inner_as_member, item_as_member, value_after_key}
use Rattle.sf_view.proofs.ReadParts.{flag_after_key}

-- sums of parts that are one after another
members_nodes_push : (ms : List Member) (m : Member)
    → members_nodes (ms ++ m ∷ []) ≡ members_nodes ms + member_nodes m
members_nodes_push [] m = omega arith
members_nodes_push (n ∷ ms) m = let h = members_nodes_push ms m in omega arith

members_bytes_push : (ms : List Member) (m : Member)
    → members_bytes (ms ++ m ∷ []) ≡ members_bytes ms + member_bytes m
members_bytes_push [] m = omega arith
members_bytes_push (n ∷ ms) m = let h = members_bytes_push ms m in omega arith

sum_nodes_push : (ps : Pairs Counts) (k : List ℕ) (c : Counts)
    → sum_nodes (ps ++ (k, c) ∷ []) ≡ sum_nodes ps + c.nodes
sum_nodes_push [] k c = omega arith
sum_nodes_push (p ∷ ps) k c = let h = sum_nodes_push ps k c in omega arith

sum_bytes_push : (ps : Pairs Counts) (k : List ℕ) (c : Counts)
    → sum_bytes (ps ++ (k, c) ∷ []) ≡ sum_bytes ps + (length k + c.bytes)
sum_bytes_push [] k c = omega arith
sum_bytes_push (p ∷ ps) k c = let h = sum_bytes_push ps k c in omega arith

-- tallies of keys that differ
pub sum_more : (old new : Counts) (ps : Pairs Counts) (k : List ℕ) (c : Counts) → IsSum old ps
    → new.nodes ≡ old.nodes + c.nodes → new.bytes ≡ old.bytes + (length k + c.bytes)
    → IsSum new (ps ++ (k, c) ∷ [])
sum_more old new ps k c (m, l) e f =
    let g = sum_nodes_push ps k c in let h = sum_bytes_push ps k c in (omega arith, omega arith)

pub sum_distinct : (c : Counts) (ps : Pairs Counts) → IsSum c ps → IsDistinct bytes_eq (keys_of ps)
    → IsSum c (settle ps)
sum_distinct c ps s d = subst (IsSum c) (sym (settle-distinct ps d)) s

pub marked_more : (old new : Marks) (ps : Pairs Counts) (k : List ℕ) (c : Counts) (mark : ℕ)
    → mark ≡ mark_of k
    → ((qs : List (List ℕ)) (q : List ℕ) → mark ≡ mark_of q → HaveMarks old qs
    → HaveMarks new (qs ++ q ∷ []))
    → new.bits ≢ 0xffff_ffff_ffff_ffff → AreMarked old (keys_of ps)
    → AreMarked new (keys_of (ps ++ (k, c) ∷ []))
marked_more old new ps k c mark is f n h =
    subst (AreMarked new) (sym (keys_push ps k c)) (n, f (keys_of ps) k is h.1)

pub entered_more : (old new : List ℕ) (ps : Pairs Counts) (k : List ℕ) (c : Counts) (t : ℕ)
    → t ≡ tag_of k → ((t : ℕ) → Holds old t → Holds new t) → Enters old new t
    → AreInTable old (keys_of ps) → AreInTable new (keys_of (ps ++ (k, c) ∷ []))
entered_more old new ps k c t is f n h =
    subst (AreInTable new) (sym (keys_push ps k c)) (in_table_more old new (keys_of ps) k t is f n h)

-- pairs with f of their values
abbrev pub weighed : {X : Type 0} → (X → Counts) → Pairs X → Pairs Counts
weighed f [] = []
weighed f (p ∷ ps) = (p.0, f p.1) ∷ weighed f ps

module _ {X : Type 0} (f : X → Counts) where
  pub weighed_push : (ps : Pairs X) (k : List ℕ) (x : X)
      → weighed f (ps ++ (k, x) ∷ []) ≡ weighed f ps ++ (k, f x) ∷ []
  weighed_push [] k x = refl
  weighed_push (p ∷ ps) k x = ap (λ y. (p.0, f p.1) ∷ y) (weighed_push ps k x)

  weighed_without : (k : List ℕ) (ps : Pairs X)
      → weighed f (without k ps) ≡ without k (weighed f ps)
  weighed_without k [] = refl
  weighed_without k (p ∷ ps) = by (bytes_eq k p.0) refl (weighed_without k ps)
    where
      by : (b : Bool) → bytes_eq k p.0 ≡ b
          → weighed f (without k ps) ≡ without k (weighed f ps)
          → weighed f (without k (p ∷ ps)) ≡ without k (weighed f (p ∷ ps))
      by true t rest = rw t rest
      by false t rest = rw t (ap (λ y. (p.0, f p.1) ∷ y) rest)

  weighed_if : (b : Bool) (x y : X) → f (if b then x else y) ≡ (if b then f x else f y)
  weighed_if true x y = refl
  weighed_if false x y = refl

  weighed_latest : (k : List ℕ) (x : X) (ps : Pairs X)
      → f (latest k x ps) ≡ latest k (f x) (weighed f ps)
  weighed_latest k x [] = refl
  weighed_latest k x (p ∷ ps) =
      weighed_latest k (if bytes_eq k p.0 then p.1 else x) ps
      ∙ ap (λ y. latest k y (weighed f ps)) (weighed_if (bytes_eq k p.0) p.1 x)

  pub weighed_settle : (ps : Pairs X) → weighed f (settle ps) ≡ settle (weighed f ps)
  weighed_settle [] = refl
  weighed_settle (p ∷ ps) =
      ap (λ y. (p.0, y) ∷ weighed f (without p.0 (settle ps))) (weighed_latest p.0 p.1 ps)
      ∙ ap (λ y. (p.0, latest p.0 (f p.1) (weighed f ps)) ∷ y)
      (weighed_without p.0 (settle ps) ∙ ap (without p.0) (weighed_settle ps))

  -- one more pair
  pub weighed_more : (Has : Pairs Counts → Type 0) (ps : Pairs X) (k : List ℕ) (x : X) (c : Counts)
      → Has (weighed f ps ++ (k, c) ∷ []) → c ≡ f x → Has (weighed f (ps ++ (k, x) ∷ []))
  weighed_more Has ps k x c h e =
      subst Has (ap (λ y. weighed f ps ++ (k, y) ∷ []) e ∙ sym (weighed_push ps k x)) h

-- the numbers of a bare item, and of a member
abbrev pub bare_counts : Bare → Counts
bare_counts x = record { nodes = 1; bytes = length (text_of x) }

abbrev pub member_counts : Member → Counts
member_counts m = record { nodes = member_nodes m; bytes = member_bytes m }

pub counts_are : (c : Counts) (n b : ℕ) → c.nodes ≡ n → c.bytes ≡ b
    → c ≡ record { nodes = n; bytes = b }
counts_are c n b e f = ap₂ (λ x y. record { nodes = x; bytes = y }) e f

params_sum : (ps : Pairs Bare)
    → (sum_nodes (weighed bare_counts ps) ≡ length ps)
    × (sum_bytes (weighed bare_counts ps) ≡ params_bytes ps)
params_sum [] = (refl, refl)
params_sum (p ∷ ps) =
    let h = params_sum ps in
    let i = h.0 in
    let j = h.1 in
    (omega arith, omega arith)

entries_sum : (ps : Pairs Member)
    → (sum_nodes (weighed member_counts ps) ≡ entries_nodes ps)
    × (sum_bytes (weighed member_counts ps) ≡ entries_bytes ps)
entries_sum [] = (refl, refl)
entries_sum (p ∷ ps) =
    let h = entries_sum ps in
    let i = h.0 in
    let j = h.1 in
    (omega arith, omega arith)

-- parameters up to the rest, one text for each, in a tally that has what is counted of them
pub record RawTally (d : Dialect) (Has : Pairs Counts → Type 0) (text rest : List ℕ) : Type 0 where
  pub far : Reads (SpellsRaw d) text rest
  pub has : Has (weighed bare_counts far.value)

pub tally_none : (d : Dialect) (Has : Pairs Counts → Type 0) (text : List ℕ) → Has []
    → RawTally d Has text text
unfolding raw_end
tally_none d Has text h = record { far = raw_end d text; has = h }

pub tally_more : (d : Dialect) (Has New : Pairs Counts → Type 0) (text rest more key left : List ℕ)
    (x : BareView) (c : Counts) → RawTally d Has text rest → rest ≡ 59 ∷ more
    → ReadsParam d (59 ∷ more) key x left
    → ((ps : Pairs Counts) → Has ps → New (ps ++ (key, c) ∷ [])) → c.nodes ≡ 1
    → ((e : Dialect) (y : Bare) → IsBorrowed e x y → c.bytes ≡ length (text_of y))
    → RawTally d New text left
unfolding raw_more
tally_more d Has New text rest more key left x c s e p add one size = record {
  far = raw_more d text rest more key left x s.far e p;
  has =
      weighed_more bare_counts New s.far.value key p.value c
      (add (weighed bare_counts s.far.value) s.has)
      (counts_are c 1 (length (text_of p.value)) one (size d p.value p.borrowed));
}

pub tally_all : (d : Dialect) (Has : Pairs Counts → Type 0) (text rest : List ℕ) (c : Counts)
    → RawTally d Has text rest → ((ps : Pairs Counts) → Has ps → IsSum c (settle ps))
    → CountsParams d text rest c.nodes c.bytes
unfolding params_of reads_as
tally_all d Has text rest c s total =
    let sum = subst (IsSum c) (sym (weighed_settle bare_counts s.far.value))
    (total (weighed bare_counts s.far.value) s.has) in
    let h = params_sum (settle s.far.value) in
    record { reads = params_of d text rest s.far; nodes = sum.0 ∙ h.0; bytes = sum.1 ∙ h.1 }

-- no parameters
pub params_none : (d : Dialect) (text : List ℕ) → CountsParams d text text 0 0
unfolding params_end
params_none d text = record { reads = params_end d text; nodes = refl; bytes = refl }

-- an Item
pub item_counts : (d : Dialect) (text mid rest : List ℕ) (x : BareView) (n b n' b' m c : ℕ)
    → ReadsBare d text x mid → CountsParams d mid rest n b → m ≡ 1
    → ((e : Dialect) (y : Bare) → IsBorrowed e x y → c ≡ length (text_of y))
    → n' ≡ n + m → b' ≡ b + c
    → CountsItem d text rest n' b'
unfolding item_reads
item_counts d text mid rest x n b n' b' m c r p one size e f =
    let h = size d r.value r.borrowed in
    let i = p.nodes in
    let j = p.bytes in
    record {
      reads = item_reads d text mid rest x r p.reads;
      nodes = omega arith;
      bytes = omega arith;
    }

-- the Items of an Inner List
counts_after : (d : Dialect) (text inside rest : List ℕ) (n b : ℕ) → Skips is_sp text inside
    → CountsItems d 0 inside rest n b → CountsItems d 0 text rest n b
unfolding items_after
counts_after d text inside rest n b s i =
    record { reads = items_after d text inside rest s i.reads; nodes = i.nodes; bytes = i.bytes }

counts_apart : (d : Dialect) (text more inside rest : List ℕ) (n b : ℕ) → text ≡ 32 ∷ more
    → Skips is_sp more inside → CountsItems d 0 inside rest n b → CountsItems d 1 text rest n b
unfolding items_apart
counts_apart d text more inside rest n b e s i = record {
  reads = items_apart d text more inside rest e s i.reads;
  nodes = i.nodes;
  bytes = i.bytes;
}

counts_end : (d : Dialect) (least : ℕ) (text rest : List ℕ) → text ≡ 41 ∷ rest
    → CountsItems d least text rest 0 0
unfolding items_end
counts_end d least text rest e =
    record { reads = items_end d least text rest e; nodes = refl; bytes = refl }

counts_then : (d : Dialect) (text after rest : List ℕ) (n b m c : ℕ)
    → CountsItem d text after n b → CountsItems d 1 after rest m c
    → CountsItems d 0 text rest (n + m) (b + c)
unfolding items_then
counts_then d text after rest n b m c r i =
    let h = r.nodes in
    let j = r.bytes in
    let k = i.nodes in
    let l = i.bytes in
    record {
      reads = items_then d text after rest r.reads i.reads;
      nodes = omega arith;
      bytes = omega arith;
    }

pub items_are : (d : Dialect) (text rest : List ℕ) (n b n' b' : ℕ)
    → CountsItems d 0 text rest n b → n' ≡ n → b' ≡ b → CountsItems d 0 text rest n' b'
items_are d text rest n b n' b' i e f =
    subst (λ y. CountsItems d 0 text rest n' y) (sym f)
    (subst (λ y. CountsItems d 0 text rest y b) (sym e) i)

-- whatever Items the rest begins with, the text begins with these and so many nodes and bytes more
abbrev pub ItemsSoFar : Dialect → List ℕ → List ℕ → ℕ → ℕ → Type 0
ItemsSoFar d text rest n b =
    (s : List ℕ) (m c : ℕ) → CountsItems d 0 rest s m c
    → CountsItems d 0 text s (n + m) (b + c)

pub items_first : (d : Dialect) (text inside : List ℕ) → Skips is_sp text inside
    → ItemsSoFar d text inside 0 0
items_first d text inside e s m c i =
    items_are d text s m c (0 + m) (0 + c) (counts_after d text inside s m c e i) (omega arith)
    (omega arith)

pub items_none : (d : Dialect) (text rest left : List ℕ) (n b : ℕ) → ItemsSoFar d text rest n b
    → rest ≡ 41 ∷ left → CountsItems d 0 text left n b
items_none d text rest left n b far e =
    items_are d text left (n + 0) (b + 0) n b (far left 0 0 (counts_end d 0 rest left e))
    (omega arith) (omega arith)

pub items_last : (d : Dialect) (text rest after left : List ℕ) (n b m c n' b' : ℕ)
    → ItemsSoFar d text rest n b → CountsItem d rest after m c → after ≡ 41 ∷ left
    → n' ≡ n + m → b' ≡ b + c → CountsItems d 0 text left n' b'
items_last d text rest after left n b m c n' b' far i e f g =
    items_are d text left (n + (m + 0)) (b + (c + 0)) n' b'
    (far left (m + 0) (c + 0) (counts_then d rest after left m c 0 0 i (counts_end d 1 after left e)))
    (omega arith) (omega arith)

pub items_next : (d : Dialect) (text rest after more inside : List ℕ) (n b m c n' b' : ℕ)
    → ItemsSoFar d text rest n b → CountsItem d rest after m c → after ≡ 32 ∷ more
    → Skips is_sp more inside → n' ≡ n + m → b' ≡ b + c → ItemsSoFar d text inside n' b'
items_next d text rest after more inside n b m c n' b' far i e s f g = λ t k l r.
    items_are d text t (n + (m + k)) (b + (c + l)) (n' + k) (b' + l)
    (far t (m + k) (c + l)
    (counts_then d rest after t m c k l i (counts_apart d after more inside t k l e s r)))
    (omega arith) (omega arith)

-- an Inner List
pub inner_counts : (d : Dialect) (text inside mid rest : List ℕ) (n b m c n' b' : ℕ)
    → text ≡ 40 ∷ inside → CountsItems d 0 inside mid n b → CountsParams d mid rest m c
    → n' ≡ n + m + 1 → b' ≡ b + c → CountsInner d text rest n' b'
unfolding inner_reads
inner_counts d text inside mid rest n b m c n' b' e i r f g =
    let h = r.nodes in
    let j = r.bytes in
    let k = i.nodes in
    let l = i.bytes in
    record {
      reads = inner_reads d text inside mid rest e i.reads r.reads;
      nodes = omega arith;
      bytes = omega arith;
    }

-- a member
pub member_inner : (d : Dialect) (text rest : List ℕ) (n b : ℕ) → CountsInner d text rest n b
    → CountsMember d text rest n b
unfolding inner_as_member reads_as
member_inner d text rest n b r =
    record { reads = inner_as_member d text rest r.reads; nodes = r.nodes; bytes = r.bytes }

pub member_item : (d : Dialect) (text rest : List ℕ) (n b : ℕ) → CountsItem d text rest n b
    → CountsMember d text rest n b
unfolding item_as_member reads_as
member_item d text rest n b r =
    record { reads = item_as_member d text rest r.reads; nodes = r.nodes; bytes = r.bytes }

-- a member of a Dictionary
pub entry_member : (d : Dialect) (text key after inside rest : List ℕ) (n b : ℕ)
    → text ≡ key ++ after → IsKey key → after ≡ 61 ∷ inside → CountsMember d inside rest n b
    → CountsEntry d text key rest n b
unfolding value_after_key
entry_member d text key after inside rest n b e k f m = record {
  reads = value_after_key d text key after inside rest e k f m.reads;
  nodes = m.nodes;
  bytes = m.bytes;
}

pub entry_flag : (d : Dialect) (text key after rest : List ℕ) (n b n' b' : ℕ)
    → text ≡ key ++ after → IsKey key → CountsParams d after rest n b → n' ≡ n + 1 → b' ≡ b + 0
    → CountsEntry d text key rest n' b'
unfolding flag_after_key
entry_flag d text key after rest n b n' b' e k r f g =
    let h = r.nodes in
    let j = r.bytes in
    record {
      reads = flag_after_key d text key after rest e k r.reads;
      nodes = omega arith;
      bytes = omega arith;
    }

-- the members of a List
pub record ListSoFar (d : Dialect) (text : List ℕ) (start : Option (List ℕ)) (n b : ℕ)
    : Type 0 where
  pub far : DoneSoFar (SpellsMember d) text start
  pub nodes : n ≡ members_nodes far.done
  pub bytes : b ≡ members_bytes far.done

pub list_none : (d : Dialect) (text : List ℕ) (start : Option (List ℕ)) → IsFirst text start
    → ListSoFar d text start 0 0
unfolding done_none
list_none d text start s =
    record { far = done_none (SpellsMember d) text start s; nodes = refl; bytes = refl }

pub list_more : (d : Dialect) (text rest after : List ℕ) (start : Option (List ℕ))
    (n b m c n' b' : ℕ) → ListSoFar d text (Some rest) n b → CountsMember d rest after m c
    → IsNext after start → n' ≡ n + m → b' ≡ b + c → ListSoFar d text start n' b'
unfolding done_more
list_more d text rest after start n b m c n' b' s i next e f =
    let h = i.nodes in
    let j = i.bytes in
    let k = s.nodes in
    let l = s.bytes in
    let r = i.reads in
    let g = members_nodes_push s.far.done r.value in
    let o = members_bytes_push s.far.done r.value in
    record {
      far = done_more (SpellsMember d) text rest r.prefix after start r.value s.far r.split r.spelled next;
      nodes = omega arith;
      bytes = omega arith;
    }

pub list_all : (d : Dialect) (text : List ℕ) (c : Counts) → ListSoFar d text None c.nodes c.bytes
    → HasCounts d kind.List text c
list_all d text c s = record {
  value = list_of s.far.done;
  only = list_only d text s.far;
  nodes = s.nodes;
  bytes = s.bytes;
}

-- the members of a Dictionary, in a tally that has what is counted of them
pub record DictTally (d : Dialect) (Has : Pairs Counts → Type 0) (text : List ℕ)
    (start : Option (List ℕ)) : Type 0 where
  pub far : DoneSoFar (SpellsEntry d) text start
  pub has : Has (weighed member_counts far.done)

pub dict_none : (d : Dialect) (Has : Pairs Counts → Type 0) (text : List ℕ)
    (start : Option (List ℕ)) → IsFirst text start → Has [] → DictTally d Has text start
unfolding done_none
dict_none d Has text start s h =
    record { far = done_none (SpellsEntry d) text start s; has = h }

pub dict_more : (d : Dialect) (Has New : Pairs Counts → Type 0) (text rest key after : List ℕ)
    (start : Option (List ℕ)) (c : Counts) → DictTally d Has text (Some rest)
    → CountsEntry d rest key after c.nodes c.bytes → IsNext after start
    → ((ps : Pairs Counts) → Has ps → New (ps ++ (key, c) ∷ [])) → DictTally d New text start
unfolding done_more
dict_more d Has New text rest key after start c s i next add =
    let r = i.reads in
    record {
      far =
          done_more (SpellsEntry d) text rest r.prefix after start (key, r.value) s.far r.split r.spelled
          next;
      has =
          weighed_more member_counts New s.far.done key r.value c
          (add (weighed member_counts s.far.done) s.has)
          (counts_are c (member_nodes r.value) (member_bytes r.value) i.nodes i.bytes);
    }

pub dict_all : (d : Dialect) (Has : Pairs Counts → Type 0) (text : List ℕ) (c : Counts)
    → DictTally d Has text None → ((ps : Pairs Counts) → Has ps → IsSum c (settle ps))
    → HasCounts d kind.Dict text c
dict_all d Has text c s total =
    let sum = subst (IsSum c) (sym (weighed_settle member_counts s.far.done))
    (total (weighed member_counts s.far.done) s.has) in
    let h = entries_sum (settle s.far.done) in
    record {
      value = dict_of (settle s.far.done);
      only = dict_only d text s.far;
      nodes = sum.0 ∙ h.0;
      bytes = sum.1 ∙ h.1;
    }

-- an Item and the spaces around it
pub item_field : (d : Dialect) (text start rest left : List ℕ) (c : Counts)
    → Skips is_sp text start → CountsItem d start rest c.nodes c.bytes
    → Skips is_sp rest left → left ≡ [] → HasCounts d kind.Item text c
unfolding item_only
item_field d text start rest left c b r a n =
    let v = item_only d text start rest left b r.reads a n in
    record { value = v.0; only = v.1; nodes = r.nodes; bytes = r.bytes }
