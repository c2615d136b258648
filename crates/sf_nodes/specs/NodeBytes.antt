-- Where the bytes of a node are, if they follow a text.
use Rattle.std.specs.Prelude.{◌≡◌, ℕ, ◌+◌, ◌≤◌, ◌⊎◌}
use Rattle.sf_view.specs.declared.node.Node.{Node}

-- the bytes of the node are not coded
abbrev pub IsDecoded : Node → Type 0
IsDecoded n = n.coded ≡ 0

-- bytes at this offset are all before this place, or all at or after it
abbrev pub IsOnOneSide : ℕ → ℕ → ℕ → Type 0
IsOnOneSide place at count = (at + count ≤ place) ⊎ (place ≤ at)

-- the key of the node is within the text of this length or within the bytes after it, and so are
-- the bytes of the node
abbrev pub IsInOne : ℕ → Node → Type 0
IsInOne size n =
    IsOnOneSide size n.key_at n.key_length × IsOnOneSide size n.text_at n.text_length
