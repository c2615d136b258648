-- Hops that borrow the text of a field.
use Rattle.std.proofs.Common.{◌≡◌, ℕ, ℤ, Bool, true, false, List, [], ◌∷◌, Option, Some, None}
use Rattle.std.proofs.Common.{◌≤◌, length, arith, refl, sym, ap, ◌∙◌, subst, fold, codes}
use Rattle.std.proofs.Common.{option_copied}
use Rattle.std.specs.Option.{option_and_then}
use Rattle.std.specs.Str.{bytes_eq}
use Rattle.sf_value.specs.declared.dialect.Dialect.{Dialect}
use Rattle.sf_value.specs.declared.value.Bare.{Bare}
use Rattle.sf_value.specs.declared.value.Member.{Member}
use Rattle.sf_value.specs.declared.value.Member.TheVariants as member
use Rattle.sf_value.specs.Grammar.Pairs.{Pairs, settle}
use Rattle.sf_value.specs.Grammar.Items.{item}
use Rattle.sf_value.specs.Lookups.{as_boolean, as_integer, as_text, as_token}
use Rattle.sf_view.specs.declared.item_cursor.ParamCursor.{ParamCursor}
use Rattle.sf_view.specs.declared.item_cursor.ItemCursor.{ItemCursor}
use Rattle.sf_view.specs.declared.item_cursor.ParamView.{ParamView}
use Rattle.sf_view.specs.ItemCursors.{RemainsInItem, RemainsInList, ReadsNextParam}
use Rattle.sf_view.specs.Overwriting.{overwritten_by}
use Rattle.sf_view.proofs.Overwriting.{overwritten-settle, overwritten_other}
use Rattle.sf_value.proofs.Settling.{key_is}
use Rattle.sf_view.specs.Reads.{ShowsText}
use Rattle.sf_use.specs.declared.cache_status.hop.Name.{Name}
use Rattle.sf_use.specs.declared.cache_status.view.HopParams.{HopParams}
use Rattle.sf_use.specs.CacheStatus.Parameters.{as_name}
use Rattle.sf_use.specs.CacheStatus.Hops.{hop_named}
use Rattle.sf_use.specs.CacheStatus.Views.{HopParts, parts_at, hop_by, with_param, ShowsParts}
use Rattle.sf_use.specs.CacheStatus.Views.{ReadsParams, ReadsNextHop, ShowsName}
use Rattle.sf_use.specs.declared.cache_status.view.HopCursor.{HopCursor}
use Rattle.sf_use.specs.declared.cache_status.view.HopView.{HopView}
use Rattle.sf_view.specs.declared.view.BareView.{BareView}
use Rattle.sf_view.specs.Views.{IsBorrowed}
use Rattle.std.specs.Option.{option_map}

-- a hop by its parts
pub hop_is : (ps : Pairs Bare) (n : Name) → hop_named ps n ≡ hop_by (parts_at ps) n
hop_is ps n = refl

-- no parts
abbrev pub no_parts : HopParts
no_parts = record {
  hit = None;
  fwd = None;
  fwd_status = None;
  ttl = None;
  stored = None;
  collapsed = None;
  key = None;
  detail = None;
}

folded : (s : HopParts) (ps : Pairs Bare)
    → fold with_param s ps
    ≡ record {
      hit = overwritten_by (option_and_then as_boolean) (codes "hit") s.hit ps;
      fwd = overwritten_by (option_and_then as_token) (codes "fwd") s.fwd ps;
      fwd_status = overwritten_by (option_and_then as_integer) (codes "fwd-status") s.fwd_status ps;
      ttl = overwritten_by (option_and_then as_integer) (codes "ttl") s.ttl ps;
      stored = overwritten_by (option_and_then as_boolean) (codes "stored") s.stored ps;
      collapsed = overwritten_by (option_and_then as_boolean) (codes "collapsed") s.collapsed ps;
      key = overwritten_by (option_and_then as_text) (codes "key") s.key ps;
      detail = overwritten_by (option_and_then as_name) (codes "detail") s.detail ps;
    }
folded s [] = refl
folded s (p ∷ ps) = folded (with_param s p) ps

abbrev pub parts_by : Option Bool → Option (List ℕ) → Option ℤ → Option ℤ → Option Bool
    → Option Bool → Option (List ℕ) → Option Name → HopParts
parts_by a b c d e f g h = record {
  hit = a;
  fwd = b;
  fwd_status = c;
  ttl = d;
  stored = e;
  collapsed = f;
  key = g;
  detail = h;
}

same_parts : (a i : Option Bool) (b j : Option (List ℕ)) (c k : Option ℤ) (d l : Option ℤ)
    (e m : Option Bool) (f n : Option Bool) (g o : Option (List ℕ)) (h p : Option Name) → a ≡ i
    → b ≡ j → c ≡ k → d ≡ l → e ≡ m → f ≡ n → g ≡ o → h ≡ p
    → parts_by a b c d e f g h ≡ parts_by i j k l m n o p
same_parts a i b j c k d l e m f n g o h p s t u v w x y z = cc

pub all_parts : (ps : Pairs Bare) → fold with_param no_parts ps ≡ parts_at (settle ps)
all_parts ps =
    folded no_parts ps
    ∙ same_parts _ _ _ _ _ _ _ _ _ _ _ _ _ _ _ _
    (overwritten-settle (option_and_then as_boolean) (codes "hit") ps)
    (overwritten-settle (option_and_then as_token) (codes "fwd") ps)
    (overwritten-settle (option_and_then as_integer) (codes "fwd-status") ps)
    (overwritten-settle (option_and_then as_integer) (codes "ttl") ps)
    (overwritten-settle (option_and_then as_boolean) (codes "stored") ps)
    (overwritten-settle (option_and_then as_boolean) (codes "collapsed") ps)
    (overwritten-settle (option_and_then as_text) (codes "key") ps)
    (overwritten-settle (option_and_then as_name) (codes "detail") ps)

-- parameters were read of an Item: whatever remains, some parameters remained at its start, and
-- these parts are what those that were read make of none
pub record ParamsSoFar (start c : ParamCursor) (v : HopParams) : Type 0 where
  pub dialect : c.dialect ≡ start.dialect
  pub shorter : length c.rest.now ≤ length start.rest.now
  pub parts : HopParts
  pub shows : ShowsParts start.dialect v parts
  pub reads : (ps : Pairs Bare) → (all : Pairs Bare)
      × (fold with_param no_parts all ≡ fold with_param parts ps)
      × ((ms : List Member) → RemainsInItem c ps ms → RemainsInItem start all ms)

pub params_none : (start : ParamCursor) (v : HopParams) → ShowsParts start.dialect v no_parts
    → ParamsSoFar start start v
params_none start v h = record {
  dialect = refl;
  shorter = omega arith;
  parts = no_parts;
  shows = h;
  reads = λ ps. (ps, refl, λ ms r. r);
}

pub params_more : (start c e : ParamCursor) (v w : HopParams) (k : List ℕ) (x : Bare)
    → (s : ParamsSoFar start c v) → e.dialect ≡ c.dialect
    → ((ps : Pairs Bare) (ms : List Member) → RemainsInItem e ps ms
    → RemainsInItem c ((k, x) ∷ ps) ms)
    → ShowsParts start.dialect w (with_param s.parts (k, x))
    → length e.rest.now ≤ length c.rest.now → ParamsSoFar start e w
params_more start c e v w k x s same h shown less = record {
  dialect = same ∙ s.dialect;
  shorter = let l = s.shorter in omega arith;
  parts = with_param s.parts (k, x);
  shows = shown;
  reads = λ ps.
      let all = s.reads ((k, x) ∷ ps) in
      (all.0, all.1, λ ms r. all.2 ms (h ps ms r));
}

pub params_all : (start c : ParamCursor) (v : HopParams) (i : ItemCursor) → ParamsSoFar start c v
    → i.dialect ≡ c.dialect → ((ms : List Member) → RemainsInList i ms → RemainsInItem c [] ms)
    → ReadsParams start v i
params_all start c v i s same h =
    let all = s.reads [] in record {
      raw = all.0;
      shows = subst (ShowsParts start.dialect v) (sym all.1 ∙ all_parts all.0) s.shows;
      dialect = same ∙ s.dialect;
      remains = λ ms r. all.2 ms (h ms r);
    }

-- the parameters after one more at this key, part by part
pub shown_at : (d : Dialect) (v : HopParams) (s : HopParts) (k key : List ℕ) (x : Bare)
    → bytes_eq k key ≡ true → v.hit ≡ (with_param s (key, x)).hit
    → option_copied v.fwd ≡ (with_param s (key, x)).fwd
    → v.fwd_status ≡ (with_param s (key, x)).fwd_status
    → v.ttl ≡ (with_param s (key, x)).ttl
    → v.stored ≡ (with_param s (key, x)).stored
    → v.collapsed ≡ (with_param s (key, x)).collapsed
    → ShowsText d v.key (with_param s (key, x)).key
    → ShowsName d v.detail (with_param s (key, x)).detail
    → ShowsParts d v (with_param s (k, x))
shown_at d v s k key x same hit fwd fwd_status ttl stored collapsed text detail =
    subst (λ q. ShowsParts d v (with_param s (q, x))) (sym (key_is k key same))
    (record {
      hit = hit;
      fwd = fwd;
      fwd_status = fwd_status;
      ttl = ttl;
      stored = stored;
      collapsed = collapsed;
      key = text;
      detail = detail;
    })

-- a parameter of another key changes nothing
pub other_shown : (d : Dialect) (v : HopParams) (s : HopParts) (k : List ℕ) (x : Bare)
    → ShowsParts d v s → bytes_eq k (codes "hit") ≡ false → bytes_eq k (codes "fwd") ≡ false
    → bytes_eq k (codes "fwd-status") ≡ false → bytes_eq k (codes "ttl") ≡ false
    → bytes_eq k (codes "stored") ≡ false → bytes_eq k (codes "collapsed") ≡ false
    → bytes_eq k (codes "key") ≡ false → bytes_eq k (codes "detail") ≡ false
    → ShowsParts d v (with_param s (k, x))
other_shown d v s k x h a b c e f g i j =
    subst (ShowsParts d v)
    (sym (same_parts _ _ _ _ _ _ _ _ _ _ _ _ _ _ _ _
    (overwritten_other (option_and_then as_boolean) (codes "hit") k s.hit x a)
    (overwritten_other (option_and_then as_token) (codes "fwd") k s.fwd x b)
    (overwritten_other (option_and_then as_integer) (codes "fwd-status") k s.fwd_status x c)
    (overwritten_other (option_and_then as_integer) (codes "ttl") k s.ttl x e)
    (overwritten_other (option_and_then as_boolean) (codes "stored") k s.stored x f)
    (overwritten_other (option_and_then as_boolean) (codes "collapsed") k s.collapsed x g)
    (overwritten_other (option_and_then as_text) (codes "key") k s.key x i)
    (overwritten_other (option_and_then as_name) (codes "detail") k s.detail x j)))
    h

-- a hop before the members that remain
pub next_hop : (c e : HopCursor) (b : BareView) (start : ParamCursor) (v : HopView)
    (x : Bare) → IsBorrowed c.items.dialect b x → start.dialect ≡ c.items.dialect
    → ((ps : Pairs Bare) (ms : List Member) → RemainsInItem start ps ms
    → RemainsInList c.items (member.Item (item x (settle ps)) ∷ ms))
    → ((d : Dialect) (y : Bare) → IsBorrowed d b y → ShowsName d (Some v.name) (as_name y))
    → ReadsParams start v.params e.items → ReadsNextHop c e (Some v)
next_hop c e b start v x borrowed same remains named r =
    by (as_name x) refl (named c.items.dialect x borrowed)
  where
    by : (n : Option Name) → as_name x ≡ n → ShowsName c.items.dialect (Some v.name) n
        → ReadsNextHop c e (Some v)
    by None f s = absurd s
    by (Some n) f s = (
      member.Item (item x (settle r.raw)),
      hop_named (settle r.raw) n,
      ap (option_map (hop_named (settle r.raw))) f,
      record {
        dialect = c.items.dialect;
        name = n;
        parts = parts_at (settle r.raw);
        made = refl;
        shows_name = s;
        shows_parts =
            subst (λ d. ShowsParts d v.params (parts_at (settle r.raw))) same r.shows;
      },
      λ ms left. remains r.raw ms (r.remains ms left),
    )

-- what one more parameter makes of those that were read
pub params_step : (start c e : ParamCursor) (v w : HopParams) (p : ParamView)
    → ParamsSoFar start c v → e.dialect ≡ c.dialect → ReadsNextParam c e (Some p)
    → ((d : Dialect) (s : HopParts) (x : Bare) → ShowsParts d v s → IsBorrowed d p.bare x
    → ShowsParts d w (with_param s (p.key.now, x)))
    → length e.rest.now ≤ length c.rest.now → ParamsSoFar start e w
params_step start c e v w p s same n h less =
    params_more start c e v w p.key.now n.0 s same n.2
    (h start.dialect s.parts n.0 s.shows (subst (λ d. IsBorrowed d p.bare n.0) s.dialect n.1)) less

pub params_end : (start c e : ParamCursor) (v : HopParams) (o : Option ParamView) (i : ItemCursor)
    → ParamsSoFar start c v → ReadsNextParam c e o → o ≡ None → i.dialect ≡ e.dialect
    → ((ms : List Member) → RemainsInList i ms → RemainsInItem e [] ms) → ReadsParams start v i
params_end start c e v o i s n none same h =
    let still : e ≡ c = subst (ReadsNextParam c e) none n in
    params_all start c v i s (same ∙ ap (λ y. y.dialect) still)
    (λ ms r. subst (λ y. RemainsInItem y [] ms) still (h ms r))
