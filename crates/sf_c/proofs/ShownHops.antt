-- What is said of a hop that borrows its text.
use Rattle.std.proofs.Common.{◌≡◌, ℕ, pos, ◌+◌, ◌*◌, Bool, true, false, List, [], Option, Some}
use Rattle.std.proofs.Common.{None, Bor, refl, sym, ap, ◌∙◌, option_copied}
use Rattle.std.specs.Prelude.{is_some, unwrap_or}
use Rattle.std.specs.Option.{option_and, option_map}
use Rattle.sf_value.specs.declared.dialect.Dialect.{Dialect}
use Rattle.sf_view.specs.declared.view.Slice.{Slice}
use Rattle.sf_view.specs.Reads.{ShowsText}
use Rattle.sf_use.specs.declared.cache_status.hop.Hop.{Hop}
use Rattle.sf_use.specs.declared.cache_status.hop.Name.{Name}
use Rattle.sf_use.specs.declared.cache_status.view.NameView.{NameView}
use Rattle.sf_use.specs.declared.cache_status.view.NameView.TheVariants as view_is
use Rattle.sf_use.specs.declared.cache_status.view.HopView.{HopView}
use Rattle.sf_use.specs.CacheStatus.Hops.{outcome_by, status_of}
use Rattle.sf_use.specs.CacheStatus.Members.{passed_by}
use Rattle.sf_use.specs.CacheStatus.Views.{BorrowsName, HopParts, ShowsHop, ShowsName, ShowsParts}
use Rattle.sf_use.specs.CacheStatus.Views.{hop_by, passed_in}
use Rattle.sf_c.specs.Hops.{HopSays, detail_is_token, is_token, says_of}
use Rattle.sf_c.specs.Hops.{why_token}
use Rattle.sf_c.specs.Refusals.{flag_number}
use Rattle.sf_c.specs.ScannedHops.{is_token_view, says_in, token_number}
use Rattle.sf_c.proofs.HopBound.{forward_back, passed_back}

-- the numbers of a hop by its parts: as of a view, the parts that are no bytes
abbrev says_by_parts : HopParts → ℕ → ℕ → ℕ → ℕ → ℕ → HopSays
says_by_parts s outcome has_key has_detail name_is_token detail_is_token = record {
  outcome = outcome;
  why = unwrap_or (option_map token_number s.fwd) 0;
  status = unwrap_or (status_of (option_and s.fwd s.fwd_status)) 0;
  has_status = flag_number (is_some (status_of (option_and s.fwd s.fwd_status)));
  stored = flag_number (unwrap_or (option_and s.fwd s.stored) false);
  has_stored = flag_number (is_some (option_and s.fwd s.stored));
  collapsed = flag_number (unwrap_or (option_and s.fwd s.collapsed) false);
  has_collapsed = flag_number (is_some (option_and s.fwd s.collapsed));
  ttl = unwrap_or s.ttl (pos 0);
  has_ttl = flag_number (is_some s.ttl);
  has_key = has_key;
  has_detail = has_detail;
  name_is_token = name_is_token;
  detail_is_token = detail_is_token;
}

-- the number of what the cache did
abbrev outcome_in : Bool → Bool → ℕ
outcome_in hit passed = flag_number hit + 2 * flag_number passed

some_copied : (o : Option (Bor (List ℕ))) → is_some (option_copied o) ≡ is_some o
some_copied (Some x) = refl
some_copied None = refl

and_copied : {A : Type 0} (o : Option (Bor (List ℕ))) (x : Option A)
    → option_and (option_copied o) x ≡ option_and o x
and_copied (Some y) x = refl
and_copied None x = refl

name_token : (d : Dialect) (v : NameView) (n : Name) → BorrowsName d v n
    → is_token_view v ≡ is_token n
name_token d (view_is.Text s) n h = sym (ap is_token h.1)
name_token d (view_is.Token s) n h = sym (ap is_token h)

detail_some : (d : Dialect) (v : Option NameView) (n : Option Name) → ShowsName d v n
    → is_some v ≡ is_some n
detail_some d (Some v) (Some n) h = refl
detail_some d None None h = refl
detail_some d v o h = absurd h

detail_token : (d : Dialect) (v : Option NameView) (n : Option Name) → ShowsName d v n
    → unwrap_or (option_map is_token_view v) false ≡ detail_is_token n
detail_token d (Some v) (Some n) h = name_token d v n h
detail_token d None None h = refl
detail_token d v n h = absurd h

text_some : (d : Dialect) (v : Option Slice) (t : Option (List ℕ)) → ShowsText d v t
    → is_some v ≡ is_some t
text_some d (Some v) (Some n) h = refl
text_some d None None h = refl
text_some d v o h = absurd h

-- a hop by its parts says these numbers
parts_say : (s : HopParts) (n : Name)
    → says_by_parts s (outcome_in (unwrap_or s.hit false) (is_some s.fwd))
    (flag_number (is_some s.key)) (flag_number (is_some s.detail)) (flag_number (is_token n))
    (flag_number (detail_is_token s.detail))
    ≡ says_of (hop_by s n)
parts_say s n = go (unwrap_or s.hit false) s.fwd
  where
    go : (b : Bool) (o : Option (List ℕ))
        → says_by_parts (record s { fwd = o }) (outcome_in b (is_some o))
        (flag_number (is_some s.key)) (flag_number (is_some s.detail)) (flag_number (is_token n))
        (flag_number (detail_is_token s.detail))
        ≡ says_of (record {
          name = n;
          outcome = outcome_by b (passed_in (record s { fwd = o }));
          ttl = s.ttl;
          key = s.key;
          detail = s.detail;
        })
    go true None = refl
    go true (Some t) = refl
    go false None = refl
    go false (Some t) = refl

-- what a view says are these numbers
view_says : (d : Dialect) (v : HopView) (s : HopParts) (n : Name) → BorrowsName d v.name n
    → ShowsParts d v.params s
    → says_in v
    ≡ says_by_parts s (outcome_in (unwrap_or s.hit false) (is_some s.fwd))
    (flag_number (is_some s.key)) (flag_number (is_some s.detail)) (flag_number (is_token n))
    (flag_number (detail_is_token s.detail))
view_says d v s n named h =
    let fwd = h.fwd in
    let hit = h.hit in
    let status = h.fwd_status in
    let ttl = h.ttl in
    let stored = h.stored in
    let collapsed = h.collapsed in
    let passed : is_some v.params.fwd ≡ is_some s.fwd =
    sym (some_copied v.params.fwd) ∙ ap is_some fwd in
    let with_status : option_and v.params.fwd v.params.fwd_status ≡ option_and s.fwd s.fwd_status =
    sym (and_copied v.params.fwd v.params.fwd_status)
    ∙ ap (λ o. option_and o v.params.fwd_status) fwd
    ∙ ap (option_and s.fwd) status in
    let with_stored : option_and v.params.fwd v.params.stored ≡ option_and s.fwd s.stored =
    sym (and_copied v.params.fwd v.params.stored) ∙ ap (λ o. option_and o v.params.stored) fwd
    ∙ ap (option_and s.fwd) stored in
    let with_collapsed : option_and v.params.fwd v.params.collapsed ≡ option_and s.fwd s.collapsed =
    sym (and_copied v.params.fwd v.params.collapsed) ∙ ap (λ o. option_and o v.params.collapsed) fwd
    ∙ ap (option_and s.fwd) collapsed in
    let key = text_some d v.params.key s.key h.key in
    let detail = detail_some d v.params.detail s.detail h.detail in
    let token = detail_token d v.params.detail s.detail h.detail in
    let is = name_token d v.name n named in
    rw (fwd, hit, ttl, passed, with_status, with_stored, with_collapsed, key, detail, token, is)
    refl

pub says_shown : (v : HopView) (h : Hop) → ShowsHop v h → says_in v ≡ says_of h
says_shown v h s =
    view_says s.dialect v s.parts s.name s.shows_name s.shows_parts
    ∙ parts_say s.parts s.name ∙ ap says_of (sym s.made)

-- the token of a hop by its parts
pub token_shown : (v : HopView) (h : Hop) → ShowsHop v h
    → unwrap_or (option_copied v.params.fwd) [] ≡ why_token (passed_by h.outcome)
token_shown v h s =
    ap (λ o. unwrap_or o []) s.shows_parts.fwd
    ∙ sym (by s.parts.fwd (passed_back (unwrap_or s.parts.hit false) (passed_in s.parts)))
    ∙ ap (λ x. why_token (passed_by x.outcome)) (sym s.made)
  where
    by : (o : Option (List ℕ))
        → passed_by (outcome_by (unwrap_or s.parts.hit false) (passed_in s.parts))
        ≡ passed_in s.parts
        → why_token (passed_by (outcome_by (unwrap_or s.parts.hit false) (passed_in s.parts)))
        ≡ unwrap_or s.parts.fwd []
    by o e = ap why_token e ∙ token s.parts.fwd
      where
        token : (o : Option (List ℕ))
            → why_token (passed_in (record s.parts { fwd = o })) ≡ unwrap_or o []
        token None = refl
        token (Some t) = forward_back t
