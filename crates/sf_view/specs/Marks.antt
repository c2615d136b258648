-- Marks of keys: keys with different marks differ.
use Rattle.std.specs.Prelude.{◌≡◌, ◌≢◌, ℕ, ◌+◌, ◌-◌, ◌*◌, ◌%◌, List, length, get_or}
use Rattle.std.specs.Int.{bit_at}
use Rattle.std.specs.List.{IsDistinct}
use Rattle.std.specs.Str.{bytes_eq}
use Rattle.sf_value.specs.Grammar.Words.{Each}
use Rattle.sf_view.specs.declared.keys.Marks.{Marks}

-- a number that depends on the key alone
abbrev pub mark_of : List ℕ → ℕ
mark_of k = 9 * (get_or k 0 0 + length k % 64) + get_or k (length k - 1) 0

-- the mark of the key, modulo 64, is in the set
abbrev pub IsMarked : ℕ → List ℕ → Type 0
IsMarked bits k = bit_at bits (mark_of k % 64) ≡ 1

-- unless the set has all bits, the keys differ and their marks are in it
abbrev pub HaveMarks : Marks → List (List ℕ) → Type 0
HaveMarks m ks =
    m.bits ≢ 0xffff_ffff_ffff_ffff → IsDistinct bytes_eq ks × Each (IsMarked m.bits) ks

-- the set does not have all bits, so the keys differ and their marks are in it
abbrev pub AreMarked : Marks → List (List ℕ) → Type 0
AreMarked m ks = (m.bits ≢ 0xffff_ffff_ffff_ffff) × HaveMarks m ks
