-- Hops that were read from a text one after another, and copied.
use Rattle.std.proofs.Common.{◌≡◌, ℕ, List as Seq, [], ◌∷◌, ◌++◌, length, map}
use Rattle.std.proofs.Common.{Option, Some, None, Result, Ok, Err, IfOk, IfSome, refl, sym, ap}
use Rattle.std.proofs.Common.{◌∙◌, subst, arith, append_assoc}
use Rattle.std.specs.Prelude.{position, is_none}
use Rattle.std.specs.Result.{result_ok}
use Rattle.std.specs.List.{filter_map, position_or_len}
use Rattle.std.proofs.lemmas.Bool.Decides.{nat_tests}
use Rattle.std.proofs.lemmas.List.{append-nil, map-append}
use Rattle.sf_value.specs.declared.fault.OutOfMemory.{OutOfMemory as NoMemory}
use Rattle.sf_value.specs.declared.dialect.Dialect.{Dialect}
use Rattle.sf_value.specs.declared.value.Bare.{Bare}
use Rattle.sf_value.specs.declared.value.Bare.TheVariants.{Text}
use Rattle.sf_value.specs.declared.value.Kind.TheVariants.{List}
use Rattle.sf_value.specs.declared.value.Member.{Member}
use Rattle.sf_value.specs.Grammar.Fields.{list_of, SpellsField}
use Rattle.sf_value.specs.Grammar.InnerLists.{SpellsMember}
use Rattle.sf_value.specs.Grammar.Series.{SpellsWhole}
use Rattle.sf_value.specs.Lookups.{as_text}
use Rattle.sf_view.specs.Copies.{IsCopy}
use Rattle.sf_parse.proofs.GrammarLaws.{one_value}
use Rattle.sf_field.specs.Asking.{MeansIn}
use Rattle.sf_use.specs.declared.cache_status.hop.Hop.{Hop}
use Rattle.sf_use.specs.declared.cache_status.view.HopCursor.{HopCursor}
use Rattle.sf_use.specs.declared.cache_status.view.HopView.{HopView}
use Rattle.sf_use.specs.CacheStatus.Hops.{hops, member_hop, unless}
use Rattle.sf_use.specs.CacheStatus.Views.{ReadsNextHop, RemainsInPath, ShowsHop}

-- these hops were read; whatever members remain, the text spells those that were read and them
pub record HopsSoFar (d : Dialect) (text : Seq ℕ) (c : HopCursor) (path : Seq Hop) : Type 0 where
  pub members : Seq Member
  pub means : map member_hop members ≡ map Some path
  pub reads : (ms : Seq Member) → RemainsInPath c ms
      → SpellsWhole (SpellsMember d) text (members ++ ms)

pub none_read : (d : Dialect) (text : Seq ℕ) (c : HopCursor)
    → ((ms : Seq Member) → RemainsInPath c ms → SpellsWhole (SpellsMember d) text ms)
    → HopsSoFar d text c []
none_read d text c h = record { members = []; means = refl; reads = h }

-- one more hop
pub hop_read : (d : Dialect) (text : Seq ℕ) (c e : HopCursor) (v : HopView) (path next : Seq Hop)
    (hop : Hop) → HopsSoFar d text c path → ReadsNextHop c e (Some v)
    → ((h : Hop) → ShowsHop v h → hop ≡ h) → next ≡ path ++ hop ∷ [] → HopsSoFar d text e next
hop_read d text c e v path next hop s (m, h, means, shown, remains) copied pushed =
    subst (HopsSoFar d text e) (sym pushed)
    (record {
      members = s.members ++ m ∷ [];
      means =
          map-append member_hop s.members (m ∷ [])
          ∙ ap (λ y. y ++ member_hop m ∷ []) s.means
          ∙ ap (λ y. map Some path ++ y ∷ []) (means ∙ ap Some (sym (copied h shown)))
          ∙ sym (map-append Some path (hop ∷ []));
      reads = λ ms r.
          subst (SpellsWhole (SpellsMember d) text) (sym (append_assoc s.members (m ∷ []) ms))
          (s.reads (m ∷ ms) (remains ms r));
    })

-- members that each have a hop
none_nameless : (ms : Seq Member) (hs : Seq Hop) → map member_hop ms ≡ map Some hs
    → position_or_len (λ m. is_none (member_hop m)) ms ≡ length ms
none_nameless [] hs e = refl
none_nameless (m ∷ ms) [] e = absurd cc
none_nameless (m ∷ ms) (h ∷ hs) e =
    let first : member_hop m ≡ Some h = cc in
    let rest : map member_hop ms ≡ map Some hs = cc in
    rw (first, none_nameless ms hs rest) (omega arith)

all_named : (ms : Seq Member) (hs : Seq Hop) → map member_hop ms ≡ map Some hs
    → position (λ m. is_none (member_hop m)) ms ≡ None
all_named ms hs e = rw (none_nameless ms hs e) (grind (arith, nat_tests))

each_meant : (ms : Seq Member) (hs : Seq Hop) → map member_hop ms ≡ map Some hs
    → filter_map member_hop ms ≡ hs
each_meant [] [] e = refl
each_meant (m ∷ ms) (h ∷ hs) e =
    let first : member_hop m ≡ Some h = cc in
    let rest : map member_hop ms ≡ map Some hs = cc in
    rw (first, each_meant ms hs rest) refl
each_meant ms hs e = absurd cc

-- the hops of a text that was read to its end
pub path_read : (d : Dialect) (text : Seq ℕ) (c e : HopCursor) (o : Option HopView)
    (path : Seq Hop) → HopsSoFar d text c path → ReadsNextHop c e o → o ≡ None
    → MeansIn d List hops (text ∷ []) (Ok path)
path_read d text c e o path s r none =
    let left : RemainsInPath c [] = subst (ReadsNextHop c e) none r in
    let spelled : SpellsField d List text (list_of s.members) =
    subst (SpellsWhole (SpellsMember d) text) (append-nil s.members) (s.reads [] left) in (
      list_of s.members,
      record {
        spelled = spelled;
        only = λ w i. one_value d List text w (list_of s.members) i spelled;
      },
      ap (λ o. unless o (filter_map member_hop s.members)) (all_named s.members path s.means)
          ∙ ap Ok (each_meant s.members path s.means),
    )

-- the copy of a String, taken out of the copy of the bare item
pub copied_text : (valid : Type 0) (t : Seq ℕ) (r : Result (Option Bare) NoMemory)
    (o : Option Bare) (x : Bare) (copy : Option (Seq ℕ)) → IfOk r (IsCopy valid (Text t))
    → Some o ≡ result_ok r → o ≡ Some x → copy ≡ as_text x → IfSome copy (λ s. s ≡ t)
copied_text valid t (Ok (Some y)) o x copy same value some is =
    let given : x ≡ y = cc in
    let text : copy ≡ Some t = is ∙ ap as_text (given ∙ same) in
    subst (λ z. IfSome z (λ s. s ≡ t)) (sym text) refl
copied_text valid t (Ok None) o x copy same value some is = absurd cc
copied_text valid t (Err e) o x copy same value some is = absurd cc
