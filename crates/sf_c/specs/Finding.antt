-- What a search for a key among nodes returns.
use Rattle.std.specs.Prelude.{◌≡◌, ℕ, ◌+◌, ◌-◌, nat_le, ◌==◌, ◌&&◌, Bool, false, List, length}
use Rattle.std.specs.Prelude.{if◌then◌else◌, position, Option, Some, None, unwrap_or}
use Rattle.std.specs.Option.{option_map}
use Rattle.std.specs.Str.{bytes_eq}
use Rattle.sf_view.specs.declared.node.Node.{Node}
use Rattle.sf_view.specs.View.{slice_at}
use Rattle.sf_c.specs.declared.status.Status.{Status}
use Rattle.sf_c.specs.declared.status.Status.TheVariants.{Answered, Absent}

-- the bytes at an offset, which counts in the text and from its end on in the bytes, if they are
-- all in one of the two
abbrev pub found_at : List ℕ → List ℕ → ℕ → ℕ → Option (List ℕ)
found_at text bytes at count =
    if nat_le (at + count) (length text) then Some (slice_at at count text)
    else (if nat_le (length text) at && nat_le (at + count) (length text + length bytes)
    then Some (slice_at (at - length text) count bytes)
    else None)

-- the key of the node is in one of the two, and is this one
abbrev pub has_key : List ℕ → List ℕ → List ℕ → Node → Bool
has_key text bytes key n =
    unwrap_or
    (option_map (λ found. bytes_eq found key) (found_at text bytes n.key_at n.key_length)) false

-- the node has this role and this key
abbrev pub is_named : List ℕ → List ℕ → ℕ → List ℕ → Node → Bool
is_named text bytes role key n = (n.role == role) && has_key text bytes key n

-- the index of the first node with this role and this key; if there is none, the index is unchanged
abbrev pub Finds : List ℕ → List ℕ → ℕ → List ℕ → List Node → ℕ → ℕ → Option Status → Type 0
Finds text bytes role key nodes old new (Some Answered) =
    position (is_named text bytes role key) nodes ≡ Some new
Finds text bytes role key nodes old new (Some Absent) =
    (position (is_named text bytes role key) nodes ≡ None) × (new ≡ old)
Finds text bytes role key nodes old new status = ⊥
