-- The first line of a text, and how long lines are.
use Rattle.std.proofs.Common.{◌≡◌, ℕ, ◌<◌, ◌≤◌, ◌⊎◌, inl, inr, false, not, List, [], ◌∷◌, length}
use Rattle.std.proofs.Common.{◌-◌, length-drop, length-take, refl, ◌∙◌, ap, arith}
use Rattle.std.proofs.Common.{Bool, ◌==◌}
use Rattle.std.specs.Prelude.{All}
use Rattle.std.specs.List.{prefix_len, suffix_len, slice_split, position_or_len}
use Rattle.std.specs.List.{before_first, after_first}
use Rattle.std.specs.Str.Lines.{lines, lines_of_parts, strip_carriage_return}
use Rattle.std.proofs.lemmas.List.Splits.{slice_split_first, slice_split_none, length-slice_split}
use Rattle.std.proofs.lemmas.Bool.{cases_lt}
use Rattle.std.proofs.lemmas.List.Sums.{fails_before_first, prefix_len-le-length}
use Rattle.std.proofs.Math.Dec.{eqb-suc-zero}
use Rattle.sf_value.specs.Ascii.{line_feed}
use Rattle.sf_value.specs.Grammar.Classes.{is_ows}
use Rattle.sf_tool.specs.Lines.{without_lead, trim}

abbrev pub is_line_feed : ℕ → Bool
is_line_feed b = b == line_feed

-- before a further part, the first part is a line
lines_of_parts-first : (part : List ℕ) (parts : List (List ℕ)) → 0 < length parts
    → lines_of_parts (part ∷ parts) ≡ strip_carriage_return part ∷ lines_of_parts parts
lines_of_parts-first part [] h = absurd (omega arith)
lines_of_parts-first part (x ∷ more) h = refl

-- a line that has a line feed
pub lines-first : (text : List ℕ) → position_or_len is_line_feed text < length text
    → lines text
    ≡ strip_carriage_return (before_first is_line_feed text)
    ∷ lines (after_first is_line_feed text)
lines-first text h =
    let rest = after_first is_line_feed text in
    let some : 0 < length (slice_split is_line_feed rest) =
    omega (arith, length-slice_split is_line_feed rest) in
    ap lines_of_parts (slice_split_first is_line_feed text 0 h) ∙ lines_of_parts-first _ _ some

last_part : (text : List ℕ) → 0 < length text → lines_of_parts (text ∷ []) ≡ text ∷ []
last_part [] h = absurd (omega arith)
last_part (x ∷ xs) h = rw eqb-suc-zero refl

-- the last line, if it has no line feed
pub lines-last : (text : List ℕ) → 0 < length text
    → position_or_len is_line_feed text ≡ length text → lines text ≡ text ∷ []
lines-last text some none =
    let fails : All (λ x. is_line_feed x ≡ false) text =
    λ k d h. fails_before_first is_line_feed text k d (omega arith) in
    ap lines_of_parts (slice_split_none is_line_feed text fails) ∙ last_part text some

-- a text that is not empty has a line
pub lines-some : (text : List ℕ) → 0 < length text → 0 < length (lines text)
lines-some text some =
    at (cases_lt (position_or_len is_line_feed text) (length text))
  where
    at : (position_or_len is_line_feed text < length text)
        ⊎ (length text ≤ position_or_len is_line_feed text)
        → 0 < length (lines text)
    at (inl feed) = rw (lines-first text feed) (omega arith)
    at (inr none) =
        let all : position_or_len is_line_feed text ≡ length text =
        omega (arith, none, prefix_len-le-length (λ b. not (is_line_feed b)) text) in
        rw (lines-last text some all) (omega arith)

-- the blanks at the ends of a line add nothing
pub length-trim : (l : List ℕ) → length (trim l) ≤ length l
length-trim l =
    omega (
      arith,
      length-drop (prefix_len is_ows l) l,
      length-take (length (without_lead l) - suffix_len is_ows (without_lead l)) (without_lead l),
    )
