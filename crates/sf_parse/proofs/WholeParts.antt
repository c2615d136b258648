-- Parts that are read whole: their texts by those of their parts.
use Rattle.std.proofs.Common.{◌≡◌, ℕ, true, false, List, [], ◌∷◌, ◌++◌, Option, Some, None}
use Rattle.std.proofs.Common.{refl, sym, ap, ◌∙◌, subst, append_assoc, append-nil, inl, inr, arith}
use Rattle.std.proofs.Common.{◌≤◌, ◌<◌, ◌+◌, length, length-append, IfOk}
use Rattle.std.proofs.Common.{Result, Ok, Err}
use Rattle.sf_value.specs.declared.dialect.Dialect.{Dialect}
use Rattle.sf_value.specs.declared.value.Bare.{Bare}
use Rattle.sf_value.specs.declared.value.Item.{Item}
use Rattle.sf_value.specs.declared.value.Inner.{Inner}
use Rattle.sf_value.specs.declared.value.Member.{Member}
use Rattle.sf_value.specs.declared.value.Member.TheVariants as member
use Rattle.sf_value.specs.Grammar.Words.{Every}
use Rattle.sf_value.specs.Grammar.Classes.{is_sp, is_ows, is_key_start}
use Rattle.sf_value.specs.Grammar.Pairs.{Pairs, settle}
use Rattle.sf_value.specs.Grammar.Tokens.{IsKey}
use Rattle.sf_value.specs.Grammar.BareItems.{SpellsBare}
use Rattle.sf_value.specs.Grammar.Parameters.{SpellsParams}
use Rattle.sf_value.specs.Grammar.Items.{SpellsItem, item}
use Rattle.sf_value.specs.Grammar.InnerLists.{SpellsInner, SpellsMember, SpellsItems, inner}
use Rattle.sf_value.specs.Grammar.Fields.{SpellsEntry, flag}
use Rattle.sf_value.proofs.Settling.{put_more}
use Rattle.sf_value.proofs.Runs.{every_append}
use Rattle.sf_parse.specs.Machine.Language.{Reads, Machine, run}
use Rattle.sf_parse.specs.Machine.Bares.{BareState, GoodBare, ResidualBare}
use Rattle.sf_parse.specs.Machine.Bares.{bare_step, bare_finish}
use Rattle.sf_parse.specs.Machine.Params.{MoreParams}
use Rattle.sf_parse.specs.declared.whole_parts.AfterItem.{AfterItem}
use Rattle.sf_parse.specs.declared.whole_parts.Unread.{Unread}
use Rattle.sf_parse.specs.WholeParts.{ReadsAs, ReadsParam, ReadsItems, AddsItem}
use Rattle.sf_value.specs.Runs.{Skips}
use Rattle.sf_parse.specs.WholeParts.{BeginsMember}
use Rattle.sf_parse.proofs.Machine.Language.{and_then_cases}
use Rattle.sf_parse.proofs.Machine.Bares.{bare_reads, bare_lives}
use Rattle.sf_parse.proofs.Machines.{may_end, accepted}

-- A text of L is what a machine takes from the start to an end.
pub record IsRun {S V : Type 0} (start : ℕ → Option S) (step : S → ℕ → Option S)
    (finish : S → Option V) (text : List ℕ) (v : V) : Type 0 where
  pub byte : ℕ
  pub more : List ℕ
  pub first : S
  pub last : S
  pub split : text ≡ byte ∷ more
  pub starts : start byte ≡ Some first
  pub leads : run step first more ≡ Some last
  pub ends : finish last ≡ Some v

module _ {S V : Type 0} {Good : S → Type 0} {Residual : S → List ℕ → V → Type 0} {step : S → ℕ
    → Option S} {finish : S → Option V} (m : Machine S V Good Residual step finish)
    (L : List ℕ → V → Type 0) (start : ℕ → Option S)
    (begins : Reads S V Good Residual L start None) where
  pub run_spells : (b : ℕ) (s t : S) (p : List ℕ) (v : V) → start b ≡ Some s
      → run step s p ≡ Some t → finish t ≡ Some v → L (b ∷ p) v
  run_spells b s t p v e r f =
      begins.gives b p v s e ((may_end m s t p v (begins.good b s e) r).1 f)

  pub spells_run : (u : List ℕ) (v : V) → L u v → IsRun start step finish u v
  spells_run [] v h = absurd (let k : None ≡ Some v = begins.ends v h in cc)
  spells_run (b ∷ p) v h =
      let k = begins.taken b p v h in
      let a = (accepted m k.0 p v (begins.good b k.0 k.1)).0 k.2 in
      let c = and_then_cases (run step k.0 p) finish v a in
      record {
        byte = b;
        more = p;
        first = k.0;
        last = c.0;
        split = refl;
        starts = k.1;
        leads = c.1;
        ends = c.2;
      }

-- a bare item
pub bare_machine : Machine BareState Bare GoodBare ResidualBare bare_step bare_finish
bare_machine = record { reads = bare_reads; lives = bare_lives }

-- parameters: none, or one before others
pub params_end : (d : Dialect) (ps : Pairs Bare) (rest : List ℕ) → settle ps ≡ ps
    → ReadsAs (MoreParams d ps) rest ps rest
params_end d ps rest h = record {
  prefix = [];
  split = refl;
  spelled = ([], sym (ap settle (append-nil ps) ∙ h), refl);
}

pub params_then : (d : Dialect) (ps qs all : Pairs Bare) (text key more left rest : List ℕ)
    (x : Bare) → text ≡ 59 ∷ more → ReadsParam d more key x left → qs ≡ settle (ps ++ (key, x) ∷ [])
    → ReadsAs (MoreParams d qs) left all rest → ReadsAs (MoreParams d ps) text all rest
params_then d ps qs all text key more left rest x e p q r =
    let s = r.spelled in record {
      prefix = (59 ∷ p.prefix) ++ r.prefix;
      split =
          e ∙ ap (λ y. 59 ∷ y)
          (p.split ∙ ap (λ y. p.prefix ++ y) r.split ∙ sym (append_assoc p.prefix r.prefix rest));
      spelled = (
        (key, x) ∷ s.0,
        s.1 ∙ ap (λ y. settle (y ++ s.0)) q ∙ put_more ps key x s.0,
        (59 ∷ p.prefix, r.prefix, refl, p.spelled, s.2),
      );
    }

pub params_whole : (d : Dialect) (old ps : Pairs Bare) (text rest : List ℕ) → old ≡ []
    → ReadsAs (MoreParams d old) text ps rest → ReadsAs (SpellsParams d) text ps rest
params_whole d old ps text rest e r =
    let s = r.spelled in record {
      prefix = r.prefix;
      split = r.split;
      spelled = (s.0, s.1 ∙ ap (λ y. settle (y ++ s.0)) e, s.2);
    }

pub params_none : (d : Dialect) (ps : Pairs Bare) (text : List ℕ) → ps ≡ []
    → ReadsAs (SpellsParams d) text ps text
params_none d ps text e = record { prefix = []; split = refl; spelled = ([], e, refl) }

-- an Item
pub item_whole : (d : Dialect) (text after rest : List ℕ) (x : Bare) (ps : Pairs Bare)
    → ReadsAs (SpellsBare d) text x after → ReadsAs (SpellsParams d) after ps rest
    → ReadsAs (SpellsItem d) text (item x ps) rest
item_whole d text after rest x ps b r = record {
  prefix = b.prefix ++ r.prefix;
  split =
      b.split ∙ ap (λ y. b.prefix ++ y) r.split ∙ sym (append_assoc b.prefix r.prefix rest);
  spelled = (b.prefix, r.prefix, refl, b.spelled, r.spelled);
}

pub built_item : (d : Dialect) (text after rest : List ℕ) (x y : Bare) (ps : Pairs Bare)
    → ReadsAs (SpellsBare d) text x after → y ≡ x → ReadsAs (SpellsParams d) after ps rest
    → ReadsAs (SpellsItem d) text (item y ps) rest
built_item d text after rest x y ps b e r =
    item_whole d text after rest y ps
    (subst (λ z. ReadsAs (SpellsBare d) text z after) (sym e) b) r

-- an Item that begins with this bare item
pub takes_found : (d : Dialect) (x : Bare) (text after : List ℕ) (old new : List Item)
    → ReadsAs (SpellsBare d) text x after → (r : Result AfterItem Unread)
    → IfOk r (λ end. (t : List ℕ) → ReadsAs (SpellsBare d) t x after
    → AddsItem d t old new end)
    → IfOk r (AddsItem d text old new)
takes_found d x text after old new b (Err e) h = h
takes_found d x text after old new b (Ok end) h = h text b

-- Items of an Inner List: those after spaces, none, or one before others
spaces_before : (d : Dialect) (least low : ℕ) (gap suffix : List ℕ) (is : List Item)
    → Every is_sp gap → low ≤ least + length gap → SpellsItems d least suffix is
    → SpellsItems d low (gap ++ suffix) is
spaces_before d least low gap suffix [] h k s = every_append is_sp gap suffix h s
spaces_before d least low gap suffix (i ∷ is) h k (g, f, b, e, sp, l, x, r) = (
  gap ++ g,
  f,
  b,
  ap (λ y. gap ++ y) e ∙ sym (append_assoc gap g (f ++ b)),
  every_append is_sp gap g h sp,
  (let n = length-append gap g in omega arith),
  x,
  r,
)

pub items_after : (d : Dialect) (text inside rest : List ℕ) (old new : List Item)
    → Skips is_sp text inside → ReadsItems d 0 inside old new rest
    → ReadsItems d 0 text old new rest
items_after d text inside rest old new b i = record {
  prefix = b.prefix ++ i.prefix;
  items = i.items;
  split =
      b.split
      ∙ ap (λ y. b.prefix ++ y) i.split
      ∙ sym (append_assoc b.prefix i.prefix (41 ∷ rest));
  spelled = spaces_before d 0 0 b.prefix i.prefix i.items b.each (omega arith) i.spelled;
  added = i.added;
}

pub items_apart : (d : Dialect) (text more inside rest : List ℕ) (old new : List Item)
    → text ≡ 32 ∷ more → Skips is_sp more inside → ReadsItems d 0 inside old new rest
    → ReadsItems d 1 text old new rest
items_apart d text more inside rest old new e b i = record {
  prefix = (32 ∷ b.prefix) ++ i.prefix;
  items = i.items;
  split =
      e
      ∙ ap (λ y. 32 ∷ y)
      (b.split
      ∙ ap (λ y. b.prefix ++ y) i.split
      ∙ sym (append_assoc b.prefix i.prefix (41 ∷ rest)));
  spelled =
      spaces_before d 0 1 (32 ∷ b.prefix) i.prefix i.items (refl, b.each) (omega arith) i.spelled;
  added = i.added;
}

pub items_end : (d : Dialect) (least : ℕ) (text rest : List ℕ) (is : List Item)
    → text ≡ 41 ∷ rest → ReadsItems d least text is is rest
items_end d least text rest is e = record {
  prefix = [];
  items = [];
  split = e;
  spelled = tt;
  added = sym (append-nil is);
}

pub items_then : (d : Dialect) (text after rest : List ℕ) (old mid new : List Item) (i : Item)
    → ReadsAs (SpellsItem d) text i after → mid ≡ old ++ i ∷ []
    → ReadsItems d 1 after mid new rest → ReadsItems d 0 text old new rest
items_then d text after rest old mid new i r e is = record {
  prefix = r.prefix ++ is.prefix;
  items = i ∷ is.items;
  split =
      r.split
      ∙ ap (λ y. r.prefix ++ y) is.split
      ∙ sym (append_assoc r.prefix is.prefix (41 ∷ rest));
  spelled = ([], r.prefix, is.prefix, refl, tt, omega arith, r.spelled, is.spelled);
  added =
      is.added ∙ ap (λ y. y ++ is.items) e ∙ append_assoc old (i ∷ []) is.items;
}

-- an Inner List
pub inner_whole : (d : Dialect) (inside after rest : List ℕ) (old items : List Item)
    (ps : Pairs Bare) → old ≡ [] → ReadsItems d 0 inside old items after
    → ReadsAs (SpellsParams d) after ps rest
    → ReadsAs (SpellsInner d) (40 ∷ inside) (inner items ps) rest
inner_whole d inside after rest old items ps e i r = record {
  prefix = 40 ∷ (i.prefix ++ 41 ∷ r.prefix);
  split =
      ap (λ y. 40 ∷ y)
      (i.split
      ∙ ap (λ y. i.prefix ++ 41 ∷ y) r.split
      ∙ sym (append_assoc i.prefix (41 ∷ r.prefix) rest));
  spelled = (
    i.prefix,
    r.prefix,
    refl,
    subst (λ y. SpellsItems d 0 i.prefix y) (sym (i.added ∙ ap (λ y. y ++ i.items) e)) i.spelled,
    r.spelled,
  );
}

-- a member
pub inner_member : (d : Dialect) (text inside rest : List ℕ) (x : Inner) → text ≡ 40 ∷ inside
    → ReadsAs (SpellsInner d) (40 ∷ inside) x rest
    → ReadsAs (SpellsMember d) text (member.Inner x) rest
inner_member d text inside rest x e r = record {
  prefix = r.prefix;
  split = e ∙ r.split;
  spelled = r.spelled;
}

pub item_member : (d : Dialect) (text rest : List ℕ) (x : Item)
    → ReadsAs (SpellsItem d) text x rest → ReadsAs (SpellsMember d) text (member.Item x) rest
item_member d text rest x r = record {
  prefix = r.prefix;
  split = r.split;
  spelled = r.spelled;
}

-- a member of a Dictionary
pub entry_value : (d : Dialect) (text key after inside rest : List ℕ) (m : Member)
    → text ≡ key ++ after → IsKey key → after ≡ 61 ∷ inside
    → ReadsAs (SpellsMember d) inside m rest → ReadsAs (SpellsEntry d) text (key, m) rest
entry_value d text key after inside rest m e k f r = record {
  prefix = key ++ 61 ∷ r.prefix;
  split =
      e
      ∙ ap (λ y. key ++ y) (f ∙ ap (λ y. 61 ∷ y) r.split)
      ∙ sym (append_assoc key (61 ∷ r.prefix) rest);
  spelled = (r.prefix, k, inl (refl, r.spelled));
}

pub entry_flag : (d : Dialect) (text key after rest : List ℕ) (ps : Pairs Bare)
    → text ≡ key ++ after → IsKey key → ReadsAs (SpellsParams d) after ps rest
    → ReadsAs (SpellsEntry d) text (key, flag ps) rest
entry_flag d text key after rest ps e k r = record {
  prefix = key ++ r.prefix;
  split = e ∙ ap (λ y. key ++ y) r.split ∙ sym (append_assoc key r.prefix rest);
  spelled = (r.prefix, k, inr (ps, refl, refl, r.spelled));
}

pub named_entry : (d : Dialect) (text key after inside more rest : List ℕ) (x : Bare)
    (ps : Pairs Bare) → text ≡ key ++ after → IsKey key → after ≡ 61 ∷ inside
    → ReadsAs (SpellsBare d) inside x more → ReadsAs (SpellsParams d) more ps rest
    → ReadsAs (SpellsEntry d) text (key, member.Item (item x ps)) rest
named_entry d text key after inside more rest x ps e k f b r =
    entry_value d text key after inside rest (member.Item (item x ps)) e k f
    (item_member d inside rest (item x ps) (item_whole d inside more rest x ps b r))

-- no key begins with white space
pub key_begins : (text key after : List ℕ) → text ≡ key ++ after → IsKey key → BeginsMember text
key_begins text [] after e k = absurd k
key_begins text (b ∷ key) after e k = (b, key ++ after, e, no_space b k.0)
  where
    no_space : (b : ℕ) → is_key_start b ≡ true → is_ows b ≡ false
    no_space b h = grind arith

-- less is left
pub param_shorter : (d : Dialect) (text key rest more : List ℕ) (x : Bare)
    → ReadsParam d text key x rest → rest ≡ 59 ∷ more → length more < length text
param_shorter d text key rest more x p e =
    let a : length text ≡ length (p.prefix ++ rest) = ap length p.split in
    let b = length-append p.prefix rest in
    let c : length rest ≡ length (59 ∷ more) = ap length e in
    omega arith

pub item_shorter : (d : Dialect) (text rest more inside : List ℕ) (i : Item)
    → ReadsAs (SpellsItem d) text i rest → rest ≡ 32 ∷ more → Skips is_sp more inside
    → length inside < length text
item_shorter d text rest more inside i r e s =
    let a : length text ≡ length (r.prefix ++ rest) = ap length r.split in
    let b = length-append r.prefix rest in
    let c : length rest ≡ length (32 ∷ more) = ap length e in
    let f : length more ≡ length (s.prefix ++ inside) = ap length s.split in
    let g = length-append s.prefix inside in
    omega arith
