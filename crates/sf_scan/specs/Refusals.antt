-- Where a whole text is refused.
use Rattle.std.specs.Prelude.{◌≡◌, ◌≢◌, ℕ, ◌-◌, ◌≤◌, List, [], length, slice_get, Result, Ok, Err}
use Rattle.sf_value.specs.declared.dialect.Dialect.{Dialect}
use Rattle.sf_value.specs.declared.value.Kind.{Kind}
use Rattle.sf_value.specs.Grammar.Refusals.{IsSyntax}
use Rattle.sf_scan.specs.declared.place.Halt.{Halt}
use Rattle.sf_scan.specs.declared.place.Halt.TheVariants as halt
use Rattle.sf_scan.specs.declared.place.Stop.{Stop}
use Rattle.sf_scan.specs.declared.refusal.Refused.{Refused}

-- the exact refusal of the text t, of which these bytes are left at its place
pub record IsRefused (d : Dialect) (kind : Kind) (t : List ℕ) (r : Refused) : Type 0 where
  pub within : length r.left.now ≤ length t
  pub syntax : IsSyntax d kind t (length t - length r.left.now) (slice_get r.left.now 0) r.expected
      r.may_end

-- the text was read, and nothing is left of it
abbrev pub ReadsAll : {P F : Type 0} → Result (Stop P) (Halt P F) → Type 0
ReadsAll (Ok stop) = stop.left.now ≡ []
ReadsAll (Err halt) = ⊥

-- the text was refused at this stop, or read up to it and something is left
abbrev pub StopsShort : {P F : Type 0} → Result (Stop P) (Halt P F) → Stop P → Type 0
StopsShort (Ok stop) at = (at ≡ stop) × (stop.left.now ≢ [])
StopsShort (Err (halt.Refused stop)) at = at ≡ stop
StopsShort (Err (halt.Fault fault)) at = ⊥
