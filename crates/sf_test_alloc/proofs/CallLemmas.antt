-- Calls in a row: one that was right, and then refused ones.
use Rattle.std.proofs.Common.{ℕ, ◌+◌, ◌++◌, ◌∷◌, [], subst}
use Rattle.std.specs.List.{FoldsTo}
use Rattle.std.proofs.lemmas.Fn.{FoldsTo-push}
use Rattle.std.proofs.lemmas.List.{replicate-append-replicate}
use Rattle.sf_test_alloc.specs.declared.calls.Seen.{Seen}
use Rattle.sf_test_alloc.specs.declared.calls.Seen.TheVariants.{Right, Refused}
use Rattle.sf_test_alloc.specs.Calls.{right_then_refused}

pub refused_again : {F : Type 0} (step : F → Seen → F → Type 0) (first : F) (n : ℕ) (last next : F)
    → FoldsTo step first (right_then_refused n) last → step last Refused next
    → FoldsTo step first (right_then_refused (n + 1)) next
refused_again step first n last next before now =
    subst
    (λ seen. FoldsTo step first (Right ∷ seen) next)
    (replicate-append-replicate n 1 Refused)
    (FoldsTo-push step first (right_then_refused n) last Refused next before now)

pub right_at_last : {F : Type 0} (step : F → Seen → F → Type 0) (first : F) (n : ℕ) (last next : F)
    → FoldsTo step first (right_then_refused n) last → step last Right next
    → FoldsTo step first (right_then_refused n ++ Right ∷ []) next
right_at_last step first n last next before now =
    FoldsTo-push step first (right_then_refused n) last Right next before now
