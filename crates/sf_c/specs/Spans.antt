-- A range of the caller's bytes.
use Rattle.std.specs.Prelude.{ℕ, ◌+◌, ◌≤◌, List, length}
use Rattle.sf_view.specs.View.{slice_at}
use Rattle.sf_c.specs.declared.span.Span.{Span}

-- the bytes of a span
abbrev pub span_bytes : List ℕ → Span → List ℕ
span_bytes bytes p = slice_at p.at p.length bytes

-- the span is within the bytes
abbrev pub IsSpanWithin : List ℕ → Span → Type 0
IsSpanWithin bytes p = p.at + p.length ≤ length bytes
