-- What lines are, by the place of their first colon, and whether a name is repeated.
use Rattle.std.proofs.Common.{◌≡◌, ℕ, ◌+◌, ◌<◌, ◌≤◌, inl, inr, true, false, List, [], ◌∷◌}
use Rattle.std.proofs.Common.{length, arith, get_or, refl, sym, ◌∙◌, subst}
use Rattle.std.specs.List.{list_any, position_or_len}
use Rattle.std.proofs.lemmas.Bool.{cases_lt, false≢true}
use Rattle.std.proofs.lemmas.List.Folds.{list_any_none, list_any_at}
use Rattle.std.proofs.lemmas.List.Sums.{fails_before_first, passes_at_first}
use Rattle.sf_value.specs.Grammar.Classes.{is_ows}
use Rattle.sf_tool.specs.Fields.{is_colon, is_header_name, has_name, word_of, name_of}
use Rattle.sf_lint.specs.Head.{is_like_start, is_start, is_named, line_of, IsRepeated}
use Rattle.sf_lint.specs.declared.head.Line.TheVariants.{Field, Nameless}

pub colon : (line : List ℕ) → position_or_len is_colon line < length line
    → list_any is_colon line ≡ true
colon line h = list_any_at is_colon line (position_or_len is_colon line) 0 h (passes_at_first
    is_colon line 0 h)

pub no-colon : (line : List ℕ) → position_or_len is_colon line ≡ length line
    → list_any is_colon line ≡ false
no-colon line e =
    list_any_none is_colon line (λ k d h. fails_before_first is_colon line k d (omega arith))

-- a line that is not empty, and neither folded nor like a start line
nameless : (line : List ℕ) → 0 < length line → is_ows (get_or line 0 0) ≡ false
    → is_like_start line ≡ false → has_name line ≡ false → Nameless ≡ line_of line
nameless [] some blank start name = absurd (omega arith)
nameless (b ∷ bs) some blank start name = rw (blank, start, name) refl

pub nameless-colon : (line : List ℕ) → 0 < length line → is_ows (get_or line 0 0) ≡ false
    → is_like_start line ≡ false → position_or_len is_colon line ≡ length line
    → Nameless ≡ line_of line
nameless-colon line some blank start none =
    nameless line some blank start (rw (no-colon line none) refl)

pub nameless-word : (line : List ℕ) → 0 < length line → is_ows (get_or line 0 0) ≡ false
    → is_like_start line ≡ false → position_or_len is_colon line < length line
    → is_header_name (word_of line) ≡ false → Nameless ≡ line_of line
nameless-word line some blank start at bad =
    nameless line some blank start (rw (colon line at, bad) refl)

named : (line name : List ℕ) → 0 < length line → is_ows (get_or line 0 0) ≡ false
    → is_like_start line ≡ false → has_name line ≡ true → name ≡ name_of line
    → Field name ≡ line_of line
named [] name some blank start has e = absurd (omega arith)
named (b ∷ bs) name some blank start has e = rw (blank, start, has, e) refl

pub field-line : (line name : List ℕ) → 0 < length line → is_ows (get_or line 0 0) ≡ false
    → is_like_start line ≡ false → position_or_len is_colon line < length line
    → is_header_name (word_of line) ≡ true → name ≡ name_of line → Field name ≡ line_of line
field-line line name some blank start at good e =
    named line name some blank start (rw (colon line at, good) refl) e

-- what holds of a place and of those after it
pub from_less : (P : ℕ → Type 0) (n i : ℕ) → P i → ((k : ℕ) → i + 1 ≤ k → k < n → P k)
    → (k : ℕ) → i ≤ k → k < n → P k
from_less P n i here later k from below = elim (cases_lt i k) [
  | inl after ↦ later k (omega arith) below
  | inr upto ↦ let same : i ≡ k = omega arith in subst P same here
]

-- after a start line no line has the name
pub unrepeated : (name : List ℕ) (lines : List (List ℕ)) (n i : ℕ) → i < n
    → is_start (get_or lines i []) ≡ true
    → ((k : ℕ) → i + 1 ≤ k → k < n → is_named name (get_or lines k []) ≡ false)
    → ¬ (IsRepeated name lines n)
unrepeated name lines n i lt start unnamed r = elim (cases_lt i r.0) [
  | inl after ↦ false≢true (sym (unnamed r.0 (omega arith) r.1) ∙ r.2)
  | inr upto ↦ false≢true (sym (r.3 i upto lt) ∙ start)
]

-- a line has the name, and it and those after it are no start lines
pub repeated : (name : List ℕ) (lines : List (List ℕ)) (n i : ℕ) → i < n
    → is_named name (get_or lines i []) ≡ true → is_start (get_or lines i []) ≡ false
    → ((k : ℕ) → i + 1 ≤ k → k < n → is_start (get_or lines k []) ≡ false)
    → IsRepeated name lines n
repeated name lines n i lt named here unstarted =
    (i, lt, named, from_less (λ k. is_start (get_or lines k []) ≡ false) n i here unstarted)
