-- What the struct of a priority sets is written.
use Rattle.std.proofs.Common.{◌≡◌, ℕ, List, Bool, false, Option, Some, None, refl}
use Rattle.std.proofs.Common.{subst}
use Rattle.sf_value.specs.declared.value.Field.TheVariants as field
use Rattle.sf_value.specs.Grammar.Canonical.{canon}
use Rattle.sf_use.specs.declared.priority.Asked.{Asked}
use Rattle.sf_use.specs.declared.response_priority.ResponsePriority.{ResponsePriority}
use Rattle.sf_use.specs.ResponsePriority.{asked_of, response_dict}
use Rattle.sf_c.specs.declared.priority.PriorityFlags.{PriorityFlags}
use Rattle.sf_c.specs.declared.response_priority.ResponsePriorityFlags.{ResponsePriorityFlags}
use Rattle.sf_c.specs.declared.status.Status.{Status}
use Rattle.sf_c.specs.declared.status.Status.TheVariants.{Answered, Short, Invalid}
use Rattle.sf_c.specs.Normal.{TextOutput}
use Rattle.sf_c.specs.Priorities.{WritesPriority, dict_of_params, has_unset_value}
use Rattle.sf_c.specs.Priorities.{params_of_flags}
use Rattle.sf_c.specs.PriorityChanges.{ChangesBy, ChangesPriority}
use Rattle.sf_c.specs.ResponsePriorities.{WritesResponse, response_of_flags}
use Rattle.sf_c.specs.ResponsePriorities as response
use Rattle.sf_c.specs.TextBuffers.{PutsText, TextBuffer}

pub writes_priority : (old new : TextBuffer) (p : PriorityFlags) (s : Status)
    → has_unset_value p ≡ false
    → PutsText old new (canon (field.Dict (dict_of_params (params_of_flags p)))) (Some s)
    → WritesPriority old new p (Some s)
writes_priority old new p Answered e w = (e, w)
writes_priority old new p Short e w = (e, w)
writes_priority old new p s e w = absurd w

pub changes_valid : (old new : TextOutput) (t : List ℕ) (p : PriorityFlags) (s : Status)
    → has_unset_value p ≡ false → ChangesBy old new t p (Some s)
    → ChangesPriority old new t p (Some s)
changes_valid old new t p Invalid e w = absurd w
changes_valid old new t p s e w = (e, w)

-- the Dictionary of a response is that of its parameters
pub same_dict : (r : ResponsePriority) → dict_of_params (asked_of r) ≡ response_dict r
same_dict r = by r.urgency r.incremental refl
  where
    by : (u : Option ℕ) (i : Option Bool) → r ≡ record { urgency = u; incremental = i }
        → dict_of_params (asked_of r) ≡ response_dict r
    by None None e = rw e refl
    by None (Some b) e = rw e refl
    by (Some n) None e = rw e refl
    by (Some n) (Some b) e = rw e refl

pub writes_response : (old new : TextBuffer) (p : ResponsePriorityFlags) (a : Asked) (s : Status)
    → response.has_unset_value p ≡ false → a ≡ asked_of (response_of_flags p)
    → PutsText old new (canon (field.Dict (dict_of_params a))) (Some s)
    → WritesResponse old new p (Some s)
writes_response old new p a s e is w =
    by s
    (subst (λ d. PutsText old new (canon (field.Dict d)) (Some s)) (same_dict (response_of_flags p))
    (subst (λ a. PutsText old new (canon (field.Dict (dict_of_params a))) (Some s)) is w))
  where
    by : (s : Status)
        → PutsText old new (canon (field.Dict (response_dict (response_of_flags p)))) (Some s)
        → WritesResponse old new p (Some s)
    by Answered w = (e, w)
    by Short w = (e, w)
    by s w = absurd w
