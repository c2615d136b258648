-- The last hop that is a hit.
use Rattle.std.proofs.Common.{◌≡◌, ℕ, ◌+◌, ◌<◌, Bool, true, false, List, [], ◌∷◌, ◌++◌}
use Rattle.std.proofs.Common.{Option, None, Some, refl, sym, ap, subst, ◌∙◌, ◌≢◌, arith, take}
use Rattle.std.proofs.Common.{length, get_or}
use Rattle.std.proofs.Math.ListN.{length-take}
use Rattle.std.proofs.lemmas.List.{take_more}
use Rattle.std.proofs.lemmas.List.Elements.{All-nil, All-cons}
use Rattle.sf_use.specs.declared.cache_status.hop.Outcome.{Outcome}
use Rattle.sf_use.specs.declared.cache_status.hop.Outcome.TheVariants.{Hit}
use Rattle.sf_use.specs.declared.cache_status.hop.Hop.{Hop}
use Rattle.sf_use.specs.CacheStatus.Members.{is_hit}
use Rattle.sf_use.specs.CacheStatus.Served.{IsLastHit, served}

-- what the test tells
hit-is : (o : Outcome) → is_hit o ≡ true → o ≡ Hit
hit-is Hit e = refl
hit-is o e = absurd cc

miss-is : (o : Outcome) → is_hit o ≡ false → o ≢ Hit
miss-is o e h =
    let hit : is_hit o ≡ true = ap is_hit h in
    absurd cc

-- the place is that of the last hit
pub served_is_last : (hops : List Hop) → IsLastHit hops (served hops)
served_is_last [] = All-nil (λ h. h.outcome ≢ Hit)
served_is_last (h ∷ hops) = by (served hops) refl (is_hit h.outcome) refl (served_is_last hops)
  where
    by : (place : Option ℕ) → served hops ≡ place → (b : Bool) → is_hit h.outcome ≡ b
        → IsLastHit hops (served hops) → IsLastHit (h ∷ hops) (served (h ∷ hops))
    by (Some i) e b f rest = rw e (rw e at rest)
    by None e true f rest =
        let others : IsLastHit hops None = subst (IsLastHit hops) e rest in
        rw (e, f) (hit-is h.outcome f, others)
    by None e false f rest =
        let others : IsLastHit hops None = subst (IsLastHit hops) e rest in
        rw (e, f) (All-cons (λ x. x.outcome ≢ Hit) h hops (miss-is h.outcome f) others)

-- one more hop
served-hit : (hops : List Hop) (h : Hop) → is_hit h.outcome ≡ true
    → served (hops ++ h ∷ []) ≡ Some (length hops)
served-hit [] h e = rw e
served-hit (g ∷ hops) h e = rw (served-hit hops h e)

served-miss : (hops : List Hop) (h : Hop) → is_hit h.outcome ≡ false
    → served (hops ++ h ∷ []) ≡ served hops
served-miss [] h e = rw e
served-miss (g ∷ hops) h e = rw (served-miss hops h e)

next : (hops : List Hop) (i : ℕ) (h : Hop) → i < length hops → h ≡ get_or hops i h
    → take (i + 1) hops ≡ take i hops ++ h ∷ []
next hops i h inside is =
    take_more hops i h inside ∙ ap (λ x. take i hops ++ x ∷ []) (sym is)

pub one_more_hit : (hops : List Hop) (i : ℕ) (h : Hop) → i < length hops → h ≡ get_or hops i h
    → is_hit h.outcome ≡ true → Some i ≡ served (take (i + 1) hops)
one_more_hit hops i h inside is hit =
    let whole : length (take i hops) ≡ i = omega (arith, length-take i hops) in
    sym (ap served (next hops i h inside is) ∙ served-hit (take i hops) h hit
    ∙ ap (λ n. Some n) whole)

pub one_more_miss : (hops : List Hop) (i : ℕ) (h : Hop) → i < length hops → h ≡ get_or hops i h
    → is_hit h.outcome ≡ false → served (take i hops) ≡ served (take (i + 1) hops)
one_more_miss hops i h inside is miss =
    sym (ap served (next hops i h inside is) ∙ served-miss (take i hops) h miss)
