-- The parameters that are put one after another, and what they hold by key.
use Rattle.std.proofs.Common.{◌≡◌, ℕ, Bool, true, false, List, [], ◌∷◌, ◌++◌, Option, None, Some}
use Rattle.std.proofs.Common.{refl, sym, ap, append-nil, subst, ◌∙◌, rules}
use Rattle.std.specs.Prelude.{codes}
use Rattle.std.specs.List.{IsDistinct}
use Rattle.std.specs.Option.{option_flatten, option_map}
use Rattle.std.specs.Cmp.Lexicographic.{same_text}
use Rattle.std.specs.Str.{bytes_eq}
use Rattle.std.proofs.lemmas.List.Elements.{filter_map-append}
use Rattle.sf_value.specs.declared.value.Bare.{Bare}
use Rattle.sf_value.specs.Grammar.Pairs.{Pairs, HasDistinctKeys, settle, value_at}
use Rattle.sf_value.proofs.EntryMaps.{IsAbsent}
use Rattle.sf_value.proofs.Settling.{settle-distinct}
use Rattle.sf_use.specs.CacheStatus.Members.{Table, added, present}

absent-present : (k : List ℕ) (t : Table) → IsAbsent k t → IsAbsent k (present t)
absent-present k [] h = tt
absent-present k (p ∷ t) h = by p.1 refl (absent-present k t h.1)
  where
    by : (o : Option Bare) → p.1 ≡ o → IsAbsent k (present t) → IsAbsent k (present (p ∷ t))
    by None e rest = rw e rest
    by (Some v) e rest = rw e (h.0, rest)

distinct-present : (t : Table) → HasDistinctKeys t → HasDistinctKeys (present t)
unfolding IsDistinct
distinct-present [] d = tt
distinct-present (p ∷ t) d = by p.1 refl (distinct-present t d.1)
  where
    by : (o : Option Bare) → p.1 ≡ o → HasDistinctKeys (present t)
        → HasDistinctKeys (present (p ∷ t))
    by None e rest = rw e rest
    by (Some v) e rest = rw e (absent-present p.0 t d.0, rest)

value-absent : (k : List ℕ) (ps : Pairs Bare) → IsAbsent k ps → value_at k ps ≡ None
value-absent k [] h = refl
value-absent k (p ∷ ps) h = rw (h.0, value-absent k ps h.1)

-- under distinct keys the value of a key is the one that it has in the table
pub value-present : (k : List ℕ) (t : Table) → HasDistinctKeys t
    → value_at k (present t) ≡ option_flatten (value_at k t)
unfolding IsDistinct
value-present k [] d = refl
value-present k (p ∷ t) d = by (bytes_eq k p.0) refl p.1 refl (value-present k t d.1)
  where
    by : (b : Bool) → bytes_eq k p.0 ≡ b → (o : Option Bare) → p.1 ≡ o
        → value_at k (present t) ≡ option_flatten (value_at k t)
        → value_at k (present (p ∷ t)) ≡ option_flatten (value_at k (p ∷ t))
    by true e None f rest =
        let here : IsAbsent k (present t) =
        subst (λ q. IsAbsent q (present t)) (sym (same_text k p.0 (sym e)))
        (absent-present p.0 t d.0) in
        rw (f, e) (value-absent k (present t) here)
    by true e (Some v) f rest = rw (f, e)
    by false e None f rest = rw (f, e) rest
    by false e (Some v) f rest = rw (f, e) rest

-- a parameter of another key is put after those that are there
pub put_after : (ps qs : Pairs Bare) (t : Table) (k : List ℕ) (o : Option Bare)
    → HasDistinctKeys (t ++ (k, o) ∷ []) → ps ≡ present t → qs ≡ added ps k o
    → qs ≡ present (t ++ (k, o) ∷ [])
put_after ps qs t k o d e f = by o refl
  where
    joined : present (t ++ (k, o) ∷ []) ≡ present t ++ present ((k, o) ∷ [])
    joined = filter_map-append (λ p. option_map (λ value. (p.0, value)) p.1) t ((k, o) ∷ [])

    settled : settle (present (t ++ (k, o) ∷ [])) ≡ present (t ++ (k, o) ∷ [])
    settled = settle-distinct (present (t ++ (k, o) ∷ [])) (distinct-present (t ++ (k, o) ∷ []) d)

    by : (r : Option Bare) → o ≡ r → qs ≡ present (t ++ (k, o) ∷ [])
    by None g =
        let same : added ps k o ≡ ps = rw g in
        let alone : present ((k, o) ∷ []) ≡ [] = rw g in
        f ∙ same ∙ e ∙ sym (joined ∙ ap (λ l. present t ++ l) alone ∙ append-nil (present t))
    by (Some v) g =
        let more : added ps k o ≡ settle (ps ++ (k, v) ∷ []) = rw g in
        let alone : present ((k, o) ∷ []) ≡ (k, v) ∷ [] = rw g in
        f ∙ more ∙ ap (λ l. settle (l ++ (k, v) ∷ [])) e
        ∙ ap settle (sym (joined ∙ ap (λ l. present t ++ l) alone)) ∙ settled

-- the eight keys, each with a value or none
abbrev pub table : (hit fwd status ttl stored collapsed key detail : Option Bare) → Table
table hit fwd status ttl stored collapsed key detail =
    (codes "hit", hit)
    ∷ (codes "fwd", fwd)
    ∷ (codes "fwd-status", status)
    ∷ (codes "ttl", ttl)
    ∷ (codes "stored", stored)
    ∷ (codes "collapsed", collapsed)
    ∷ (codes "key", key)
    ∷ (codes "detail", detail)
    ∷ []

-- the parameters that are put one after another are those of the table
pub all_put : (a b c d e f g h i : Pairs Bare)
    (hit fwd status ttl stored collapsed key detail : Option Bare)
    → a ≡ []
    → b ≡ added a (codes "hit") hit
    → c ≡ added b (codes "fwd") fwd
    → d ≡ added c (codes "fwd-status") status
    → e ≡ added d (codes "ttl") ttl
    → f ≡ added e (codes "stored") stored
    → g ≡ added f (codes "collapsed") collapsed
    → h ≡ added g (codes "key") key
    → i ≡ added h (codes "detail") detail
    → i ≡ present (table hit fwd status ttl stored collapsed key detail)
unfolding IsDistinct
all_put a b c d e f g h i hit fwd status ttl stored collapsed key detail
    a' b' c' d' e' f' g' h' i' =
    let t1 : Table = [] ++ (codes "hit", hit) ∷ [] in
    let t2 : Table = t1 ++ (codes "fwd", fwd) ∷ [] in
    let t3 : Table = t2 ++ (codes "fwd-status", status) ∷ [] in
    let t4 : Table = t3 ++ (codes "ttl", ttl) ∷ [] in
    let t5 : Table = t4 ++ (codes "stored", stored) ∷ [] in
    let t6 : Table = t5 ++ (codes "collapsed", collapsed) ∷ [] in
    let t7 : Table = t6 ++ (codes "key", key) ∷ [] in
    let p1 = put_after a b [] (codes "hit") hit (search rules) a' b' in
    let p2 = put_after b c t1 (codes "fwd") fwd (search rules) p1 c' in
    let p3 = put_after c d t2 (codes "fwd-status") status (search rules) p2 d' in
    let p4 = put_after d e t3 (codes "ttl") ttl (search rules) p3 e' in
    let p5 = put_after e f t4 (codes "stored") stored (search rules) p4 f' in
    let p6 = put_after f g t5 (codes "collapsed") collapsed (search rules) p5 g' in
    let p7 = put_after g h t6 (codes "key") key (search rules) p6 h' in
    put_after h i t7 (codes "detail") detail (search rules) p7 i'
