-- Slices of bytes when other bytes are before or after them.
use Rattle.std.proofs.Common.{◌≡◌, ℕ, ◌+◌, ◌≤◌, List, ◌++◌, length, take, drop, ap, ◌∙◌, arith}
use Rattle.std.proofs.lemmas.List.{take-append-le, drop-append-le, length-drop, length-take-le}
use Rattle.std.proofs.Math.Seq.{take-length, drop-append_seam, drop-append-add}
use Rattle.sf_view.specs.View.{slice_at}

-- bytes that are there stay where they are when more come after them
pub slice_at-append : (at count : ℕ) (bytes more : List ℕ) → at + count ≤ length bytes
    → slice_at at count (bytes ++ more) ≡ slice_at at count bytes
slice_at-append at count bytes more h =
    let before : at ≤ length bytes = omega arith in
    let enough : count ≤ length (drop at bytes) = omega (arith, length-drop at bytes) in
    ap (take count) (drop-append-le at bytes more before)
    ∙ take-append-le count (drop at bytes) more enough

-- a slice that is there is as long as it says
pub slice_at_length : (at count : ℕ) (bytes : List ℕ) → at + count ≤ length bytes
    → length (slice_at at count bytes) ≡ count
slice_at_length at count bytes h =
    let enough : count ≤ length (drop at bytes) = omega (arith, length-drop at bytes) in
    length-take-le count (drop at bytes) enough

-- those that come are after them
pub slice_at_last : (bytes more : List ℕ)
    → slice_at (length bytes) (length more) (bytes ++ more) ≡ more
slice_at_last bytes more =
    ap (take (length more)) (drop-append_seam bytes more) ∙ take-length more

-- so is each slice of them
pub slice_at_after : (prefix bytes : List ℕ) (at count : ℕ)
    → slice_at (length prefix + at) count (prefix ++ bytes) ≡ slice_at at count bytes
slice_at_after prefix bytes at count = ap (take count) (drop-append-add prefix bytes at)
