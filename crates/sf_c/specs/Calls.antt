-- The numbers that C passes for a dialect and a kind, and what a call with them returns.
use Rattle.std.specs.Prelude.{◌≡◌, ℕ, ◌==◌, if◌then◌else◌, Option, Some, None}
use Rattle.sf_value.specs.declared.dialect.Dialect.{Dialect}
use Rattle.sf_value.specs.declared.dialect.Dialect.TheVariants.{Rfc8941, Rfc9651}
use Rattle.sf_value.specs.declared.value.Kind.{Kind}
use Rattle.sf_value.specs.declared.value.Kind.TheVariants.{Item, List, Dict}
use Rattle.sf_c.specs.declared.status.Status.{Status}
use Rattle.sf_c.specs.declared.status.Status.TheVariants.{BadCall}

-- the dialect of a number, which is the number of its RFC
abbrev pub dialect_at : ℕ → Option Dialect
dialect_at n = if n == 9651 then Some Rfc9651 else (if n == 8941 then Some Rfc8941 else None)

-- the kind of a number; no number is that of a dialect
abbrev pub kind_at : ℕ → Option Kind
kind_at n =
    if n == 1 then Some Item
    else (if n == 2 then Some List
    else (if n == 3 then Some Dict else None))

-- the status and the output are those of a call with this dialect and kind; if there is no such
-- kind or dialect, the status is BadCall and everything is unchanged
abbrev pub ChecksCall : {Output : Type 0} → Option Dialect → Option Kind → Option Status
    → (Output → Output → Dialect → Kind → Status → Type 0) → Output → Output → Type 0
ChecksCall (Some d) (Some k) (Some s) P old new = P old new d k s
ChecksCall (Some d) (Some k) None P old new = ⊥
ChecksCall (Some d) None s P old new = (s ≡ Some BadCall) × (new ≡ old)
ChecksCall None k s P old new = (s ≡ Some BadCall) × (new ≡ old)

-- the same for a call that takes a dialect and no kind
abbrev pub ChecksDialect : {Output : Type 0} → Option Dialect → Option Status
    → (Output → Output → Dialect → Status → Type 0) → Output → Output → Type 0
ChecksDialect (Some d) (Some s) P old new = P old new d s
ChecksDialect (Some d) None P old new = ⊥
ChecksDialect None s P old new = (s ≡ Some BadCall) × (new ≡ old)
