-- Which cache a response came from.
use Rattle.std.specs.Prelude.{◌≡◌, ◌≢◌, ℕ, suc, Bool, true, false, All}
use Rattle.std.specs.Prelude.{List, [], ◌∷◌, drop, slice_get, Option, Some, None, IsSomeAnd}
use Rattle.sf_use.specs.declared.cache_status.hop.Outcome.TheVariants.{Hit}
use Rattle.sf_use.specs.declared.cache_status.hop.Hop.{Hop}
use Rattle.sf_use.specs.CacheStatus.Members.{is_hit}

-- the index is that of the last hop whose outcome is Hit, or there is none
abbrev pub IsLastHit : List Hop → Option ℕ → Type 0
IsLastHit hops None = All (λ h. h.outcome ≢ Hit) hops
IsLastHit hops (Some place) =
    IsSomeAnd (slice_get hops place) (λ h. h.outcome ≡ Hit)
    × All (λ h. h.outcome ≢ Hit) (drop (suc place) hops)

-- the index in the list with one more hop in front; if there is none, that of this hop if it is a
-- hit
abbrev pub later : Option ℕ → Bool → Option ℕ
later (Some place) first = Some (suc place)
later None true = Some 0
later None false = None

-- the index of the last hit
abbrev pub served : List Hop → Option ℕ
served [] = None
served (h ∷ hops) = later (served hops) (is_hit h.outcome)
