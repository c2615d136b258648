-- What holds for a request that was read.
use Rattle.std.specs.Prelude.{ℕ, ◌≤◌, List, length, ⊤}
use Rattle.sf_tool.specs.declared.request.Request.{Request}
use Rattle.sf_tool.specs.declared.request.Request.TheVariants.{Show, Check, Normalise, CacheStatus}
use Rattle.sf_tool.specs.declared.request.Request.TheVariants.{Targeted, Decide, Priority}

-- the largest number of names
abbrev pub most_names : ℕ
most_names = 64

abbrev pub AreFewNames : List (List ℕ) → Type 0
AreFewNames names = (1 ≤ length names) × (length names ≤ most_names)

-- if a request has names, there are from one to `most_names`
abbrev pub HasFewNames : Request → Type 0
HasFewNames (Targeted names) = AreFewNames names.items
HasFewNames (Decide names age) = AreFewNames names.items
HasFewNames (Show dialect kind) = ⊤
HasFewNames (Check dialect kind) = ⊤
HasFewNames (Normalise dialect kind) = ⊤
HasFewNames CacheStatus = ⊤
HasFewNames Priority = ⊤
