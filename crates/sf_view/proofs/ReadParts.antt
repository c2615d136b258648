-- Parts that are read without nodes.
use Rattle.std.proofs.Common.{◌≡◌, ℕ, Bool, true, List, [], ◌∷◌, ◌++◌, Option, Some, None}
use Rattle.std.proofs.Common.{refl, sym, ap, ◌∙◌, arith, append_assoc}
use Rattle.std.proofs.Common.{inl, inr}
use Rattle.sf_value.specs.declared.dialect.Dialect.{Dialect}
use Rattle.sf_value.specs.declared.value.Member.TheVariants as member
use Rattle.sf_value.specs.Grammar.Classes.{is_sp}
use Rattle.sf_value.specs.Grammar.Pairs.{settle}
use Rattle.sf_value.specs.Grammar.Tokens.{IsKey}
use Rattle.sf_value.specs.Grammar.BareItems.{SpellsBare}
use Rattle.sf_value.specs.Grammar.Parameters.{SpellsRaw, SpellsParams}
use Rattle.sf_value.specs.Grammar.Items.{SpellsItem, item}
use Rattle.sf_value.specs.Grammar.InnerLists.{SpellsInner, SpellsMember, inner}
use Rattle.sf_value.specs.Grammar.Fields.{SpellsEntry, flag}
use Rattle.sf_scan.specs.Parameters.{MakesParam}
use Rattle.sf_scan.specs.Scans.{MakesLeaf}
use Rattle.sf_scan.specs.Settled.{Settles}
use Rattle.sf_scan.specs.Stops as Found
use Rattle.sf_scan.specs.declared.place.ParamPlace.{ParamPlace}
use Rattle.sf_scan.specs.declared.place.BarePlace.{BarePlace}
use Rattle.sf_scan.specs.declared.place.Stop.{Stop}
use Rattle.sf_scan.specs.Leaves.{leaf_bare}
use Rattle.sf_view.specs.declared.view.BareView.{BareView}
use Rattle.sf_view.specs.declared.view.BareView.TheVariants as view_is
use Rattle.sf_value.specs.Runs.{Skips}
use Rattle.sf_view.specs.Views.{IsBorrowed}
use Rattle.sf_view.specs.Reads.{Reads, ReadsBare, ReadsParam, ReadsItems, ReadsMember, ReadsEntry}
use Rattle.sf_view.proofs.Params.{raw_push}
use Rattle.sf_view.proofs.Inners.{spaces_before, item_before}

-- a bare item that was read
pub bare_reads : (d : Dialect) (text : List ℕ) (stop : Stop BarePlace) (b : BareView)
    → MakesLeaf (λ spelled l view. (e : Dialect) → SpellsBare e spelled (leaf_bare l)
    → IsBorrowed e view (leaf_bare l)) d text stop b
    → ReadsBare d text b stop.left.now
bare_reads d text stop b m =
    let r = m.read.reads in
    record {
      prefix = r.stops.prefix;
      value = leaf_bare m.leaf;
      split = r.stops.split;
      spelled = r.spelled;
      borrowed = m.made_of d r.spelled;
    }

-- a parameter
pub param_reads : (d : Dialect) (text key : List ℕ) (b : BareView) (stop : Stop ParamPlace)
    → MakesParam (λ spelled l view. (e : Dialect) → SpellsBare e spelled (leaf_bare l)
    → IsBorrowed e view (leaf_bare l)) d text key b stop
    → ReadsParam d (59 ∷ text) key b stop.left.now
param_reads d text key b stop m =
    let r = m.reads in
    record {
      prefix = 59 ∷ r.stops.prefix;
      value = leaf_bare m.leaf;
      split = ap (λ y. 59 ∷ y) r.stops.split;
      spelled = r.spelled;
      borrowed = m.made_of d m.spelled;
    }

-- the same text spells f of the value
unfoldable pub reads_as : {X Y : Type 0} (P : List ℕ → X → Type 0) (Q : List ℕ → Y → Type 0) (f : X → Y)
    (text rest : List ℕ) → ((t : List ℕ) (x : X) → P t x → Q t (f x)) → Reads P text rest
    → Reads Q text rest
reads_as P Q f text rest h r =
    record { prefix = r.prefix; value = f r.value; split = r.split; spelled = h r.prefix r.value r.spelled }

-- parameters: none, and one more after others
unfoldable pub raw_end : (d : Dialect) (text : List ℕ) → Reads (SpellsRaw d) text text
raw_end d text = record { prefix = []; value = []; split = refl; spelled = refl }

unfoldable pub raw_more : (d : Dialect) (text rest more key left : List ℕ) (x : BareView)
    → Reads (SpellsRaw d) text rest → rest ≡ 59 ∷ more → ReadsParam d (59 ∷ more) key x left
    → Reads (SpellsRaw d) text left
raw_more d text rest more key left x s e p = record {
  prefix = s.prefix ++ p.prefix;
  value = s.value ++ (key, p.value) ∷ [];
  split =
      s.split
      ∙ ap (λ y. s.prefix ++ y) (e ∙ p.split)
      ∙ sym (append_assoc s.prefix p.prefix left);
  spelled = raw_push d s.prefix p.prefix s.value key p.value s.spelled p.spelled;
}

unfoldable pub params_of : (d : Dialect) (text rest : List ℕ) → Reads (SpellsRaw d) text rest
    → Reads (SpellsParams d) text rest
params_of d text rest =
    reads_as (SpellsRaw d) (SpellsParams d) settle text rest (λ t ps h. (ps, refl, h))

-- what the pass of sf_scan read after these first bytes, as its settled value
pub settled_reads : {V W : Type 0} (p : List ℕ) (L : List ℕ → V → Type 0)
    (M : List ℕ → W → Type 0) (of : V → W) → Settles L M of → (next : ℕ → Bool)
    (text left : List ℕ) (v : V) → Found.Reads (Found.Past p L) next text v left
    → Reads M (p ++ text) left
settled_reads p L M of h next text left v r = record {
  prefix = p ++ r.stops.prefix;
  value = of v;
  split =
      ap (λ t. p ++ t) r.stops.split ∙ sym (append_assoc p r.stops.prefix left);
  spelled = h.up (p ++ r.stops.prefix) v r.spelled;
}

unfoldable pub params_end : (d : Dialect) (text : List ℕ) → Reads (SpellsParams d) text text
params_end d text =
    record { prefix = []; value = []; split = refl; spelled = ([], refl, refl) }

-- an Item
unfoldable pub item_reads : (d : Dialect) (text mid rest : List ℕ) (x : BareView) → ReadsBare d text x mid
    → Reads (SpellsParams d) mid rest → Reads (SpellsItem d) text rest
item_reads d text mid rest x b r = record {
  prefix = b.prefix ++ r.prefix;
  value = item b.value r.value;
  split =
      b.split ∙ ap (λ y. b.prefix ++ y) r.split ∙ sym (append_assoc b.prefix r.prefix rest);
  spelled = (b.prefix, r.prefix, refl, b.spelled, r.spelled);
}

-- the Items of an Inner List: those after spaces, none, or one before others
unfoldable pub items_after : (d : Dialect) (text inside rest : List ℕ) → Skips is_sp text inside
    → ReadsItems d 0 inside rest → ReadsItems d 0 text rest
items_after d text inside rest b i = record {
  prefix = b.prefix ++ i.prefix;
  value = i.value;
  split =
      b.split
      ∙ ap (λ y. b.prefix ++ y) i.split
      ∙ sym (append_assoc b.prefix i.prefix (41 ∷ rest));
  spelled = spaces_before d 0 0 b.prefix i.prefix i.value b.each (omega arith) i.spelled;
}

unfoldable pub items_apart : (d : Dialect) (text more inside rest : List ℕ) → text ≡ 32 ∷ more
    → Skips is_sp more inside → ReadsItems d 0 inside rest → ReadsItems d 1 text rest
items_apart d text more inside rest e b i = record {
  prefix = (32 ∷ b.prefix) ++ i.prefix;
  value = i.value;
  split =
      e
      ∙ ap (λ y. 32 ∷ y)
      (b.split
      ∙ ap (λ y. b.prefix ++ y) i.split
      ∙ sym (append_assoc b.prefix i.prefix (41 ∷ rest)));
  spelled =
      spaces_before d 0 1 (32 ∷ b.prefix) i.prefix i.value (refl, b.each) (omega arith) i.spelled;
}

unfoldable pub items_end : (d : Dialect) (least : ℕ) (text rest : List ℕ) → text ≡ 41 ∷ rest
    → ReadsItems d least text rest
items_end d least text rest e = record { prefix = []; value = []; split = e; spelled = tt }

unfoldable pub items_then : (d : Dialect) (text after rest : List ℕ) → Reads (SpellsItem d) text after
    → ReadsItems d 1 after rest → ReadsItems d 0 text rest
items_then d text after rest r i = record {
  prefix = r.prefix ++ i.prefix;
  value = r.value ∷ i.value;
  split =
      r.split
      ∙ ap (λ y. r.prefix ++ y) i.split
      ∙ sym (append_assoc r.prefix i.prefix (41 ∷ rest));
  spelled = item_before d r.prefix i.prefix r.value i.value r.spelled i.spelled;
}

-- an Inner List
unfoldable pub inner_reads : (d : Dialect) (text inside mid rest : List ℕ) → text ≡ 40 ∷ inside
    → ReadsItems d 0 inside mid → Reads (SpellsParams d) mid rest → Reads (SpellsInner d) text rest
inner_reads d text inside mid rest e i r = record {
  prefix = 40 ∷ (i.prefix ++ 41 ∷ r.prefix);
  value = inner i.value r.value;
  split =
      e
      ∙ ap (λ y. 40 ∷ y)
      (i.split
      ∙ ap (λ y. i.prefix ++ 41 ∷ y) r.split
      ∙ sym (append_assoc i.prefix (41 ∷ r.prefix) rest));
  spelled = (i.prefix, r.prefix, refl, i.spelled, r.spelled);
}

-- a member
unfoldable pub inner_as_member : (d : Dialect) (text rest : List ℕ) → Reads (SpellsInner d) text rest
    → Reads (SpellsMember d) text rest
inner_as_member d text rest =
    reads_as (SpellsInner d) (SpellsMember d) member.Inner text rest (λ t l h. h)

unfoldable pub item_as_member : (d : Dialect) (text rest : List ℕ) → Reads (SpellsItem d) text rest
    → Reads (SpellsMember d) text rest
item_as_member d text rest =
    reads_as (SpellsItem d) (SpellsMember d) member.Item text rest (λ t i h. h)

pub inner_member : (d : Dialect) (text rest : List ℕ) → Reads (SpellsInner d) text rest
    → ReadsMember d text None rest
unfolding inner_as_member reads_as
inner_member d text rest r = record { reads = inner_as_member d text rest r; shows = tt }

pub item_member : (d : Dialect) (text mid rest : List ℕ) (x : BareView) → ReadsBare d text x mid
    → Reads (SpellsParams d) mid rest → ReadsMember d text (Some x) rest
unfolding item_reads item_as_member reads_as
item_member d text mid rest x b r = record {
  reads = item_as_member d text rest (item_reads d text mid rest x b r);
  shows = b.borrowed;
}

-- a member of a Dictionary
unfoldable pub value_after_key : (d : Dialect) (text key after inside rest : List ℕ) → text ≡ key ++ after
    → IsKey key → after ≡ 61 ∷ inside → Reads (SpellsMember d) inside rest
    → Reads (λ t m. SpellsEntry d t (key, m)) text rest
value_after_key d text key after inside rest e k f m = record {
  prefix = key ++ 61 ∷ m.prefix;
  value = m.value;
  split =
      e
      ∙ ap (λ y. key ++ y) (f ∙ ap (λ y. 61 ∷ y) m.split)
      ∙ sym (append_assoc key (61 ∷ m.prefix) rest);
  spelled = (m.prefix, k, inl (refl, m.spelled));
}

unfoldable pub flag_after_key : (d : Dialect) (text key after rest : List ℕ) → text ≡ key ++ after
    → IsKey key → Reads (SpellsParams d) after rest
    → Reads (λ t m. SpellsEntry d t (key, m)) text rest
flag_after_key d text key after rest e k r = record {
  prefix = key ++ r.prefix;
  value = flag r.value;
  split = e ∙ ap (λ y. key ++ y) r.split ∙ sym (append_assoc key r.prefix rest);
  spelled = (r.prefix, k, inr (r.value, refl, refl, r.spelled));
}

pub entry_value : (d : Dialect) (text key after inside rest : List ℕ) (o : Option BareView)
    → text ≡ key ++ after → IsKey key → after ≡ 61 ∷ inside → ReadsMember d inside o rest
    → ReadsEntry d text key o rest
unfolding value_after_key
entry_value d text key after inside rest o e k f m = record {
  reads = value_after_key d text key after inside rest e k f m.reads;
  shows = m.shows;
}

pub entry_flag : (d : Dialect) (text key after rest : List ℕ) → text ≡ key ++ after → IsKey key
    → Reads (SpellsParams d) after rest → ReadsEntry d text key (Some (view_is.Boolean true)) rest
unfolding flag_after_key
entry_flag d text key after rest e k r = record {
  reads = flag_after_key d text key after rest e k r;
  shows = refl;
}
