-- The lines of an input as they are fed one by one, and how long they are together.
use Rattle.std.proofs.Common.{◌≡◌, ℕ, ◌+◌, ◌*◌, ◌<◌, ◌≤◌, ◌⊎◌, inl, inr, suc, zero, true, false}
use Rattle.std.proofs.Common.{List, [], ◌∷◌, length, Result, Ok, Err, subst, sym}
use Rattle.std.proofs.Common.{◌-◌, not, arith, length-append, length-drop, length-take}
use Rattle.std.specs.Prelude.{IfErr}
use Rattle.std.proofs.lemmas.Bool.{cases_lt}
use Rattle.std.proofs.lemmas.List.Sums.{prefix_len-le-length}
use Rattle.std.specs.List.{position_or_len, before_first, after_first}
use Rattle.std.specs.Str.Lines.{strip_carriage_return}
use Rattle.sf_value.specs.declared.dialect.Dialect.{Dialect}
use Rattle.sf_value.specs.declared.value.Field.{Field}
use Rattle.sf_value.specs.declared.value.Kind.{Kind}
use Rattle.sf_value.specs.Grammar.Lines.{join}
use Rattle.sf_parse.specs.declared.refusal.Refusal.{Refusal}
use Rattle.sf_field.specs.Lines.{ParsesLines}
use Rattle.sf_field.proofs.Feeding.{behind, joined}
use Rattle.sf_tool.specs.Lines.{trim, lines_of}
use Rattle.sf_field.specs.Asking.{Asks}
use Rattle.sf_field.specs.declared.asking.AskFault.{AskFault}
use Rattle.sf_tool.specs.Run.{input_limit, IsOfText, IsAskOfText}
use Rattle.sf_tool.proofs.Cuts.{is_line_feed, lines-first, lines-last, length-trim}
use Rattle.sf_tool.proofs.Reports.{is_of_text, is_ask_of_text}

length-strip : (l : List ℕ) → length (strip_carriage_return l) ≤ length l
length-strip l = grind (arith, length-take (length l - 1) l)

-- with the comma and the space before each, lines take at most three bytes for each byte that they
-- are cut from: of a text with a line feed, if what is after the first does
cut_short : (text : List ℕ) → position_or_len is_line_feed text < length text
    → length (behind true (lines_of (after_first is_line_feed text)))
    ≤ 3 * length (after_first is_line_feed text)
    → length (behind true (lines_of text)) ≤ 3 * length text
cut_short text some rest =
    let line = strip_carriage_return (before_first is_line_feed text) in
    let at = position_or_len is_line_feed text in
    rw (lines-first text some)
    (omega (
      arith,
      rest,
      some,
      length-drop (at + 1) text,
      length-take at text,
      length-trim line,
      length-strip (before_first is_line_feed text),
      length-append (trim line) (behind true (lines_of (after_first is_line_feed text))),
    ))

-- of a text without one
uncut_short : (text : List ℕ) → 0 < length text
    → length text ≤ position_or_len is_line_feed text
    → length (behind true (lines_of text)) ≤ 3 * length text
uncut_short text some none =
    let all : position_or_len is_line_feed text ≡ length text =
    omega (arith, none, prefix_len-le-length (λ b. not (is_line_feed b)) text) in
    rw (lines-last text some all)
    (omega (arith, some, length-trim text, length-append (trim text) []))

-- of any text
length-strip_byte : (n : ℕ) (text : List ℕ) → length text ≤ n
    → length (behind true (lines_of text)) ≤ 3 * length text
length-strip_byte n [] h = omega arith
length-strip_byte zero (x ∷ xs) h = absurd (omega arith)
length-strip_byte (suc n) (x ∷ xs) h =
    at (cases_lt (position_or_len is_line_feed (x ∷ xs)) (length (x ∷ xs)))
    (λ t s. length-strip_byte n t s)
  where
    at : (position_or_len is_line_feed (x ∷ xs) < length (x ∷ xs))
        ⊎ (length (x ∷ xs) ≤ position_or_len is_line_feed (x ∷ xs))
        → ((t : List ℕ) → length t ≤ n → length (behind true (lines_of t)) ≤ 3 * length t)
        → length (behind true (lines_of (x ∷ xs))) ≤ 3 * length (x ∷ xs)
    at (inl some) shorter =
        cut_short (x ∷ xs) some
        (shorter (after_first is_line_feed (x ∷ xs)) (omega (
          arith,
          h,
          length-drop (position_or_len is_line_feed (x ∷ xs) + 1) (x ∷ xs),
        )))
    at (inr none) shorter = uncut_short (x ∷ xs) (omega arith) none

unbegun : (ls : List (List ℕ)) → length (behind false ls) ≤ length (behind true ls)
unbegun [] = omega arith
unbegun (l ∷ ls) = omega arith

-- the joined lines take at most three bytes for each byte of the input
pub length-joined : (input : List ℕ) → length (join (lines_of input)) ≤ 3 * length input
length-joined input =
    let short = length-strip_byte (length input) input (omega arith) in
    subst (λ t. length t ≤ 3 * length input) (sym (joined (lines_of input)))
    (omega (arith, short, unbegun (lines_of input)))

-- an input within the limit is refused for its text or if an allocation fails, never as too long
pub of_text : (d : Dialect) (kind : Kind) (input : List ℕ) (r : Result Field Refusal)
    → length input ≤ input_limit → ParsesLines d kind (lines_of input) r → IfErr r IsOfText
of_text d kind input (Ok v) small p = tt
of_text d kind input (Err e) small p =
    is_of_text d kind input (lines_of input) e (length-joined input) small p

-- and so is a consumer's answer for it
pub ask_of_text : {A : Type 0} (kind : Kind) (meaning : Field → Result A ℕ) (input : List ℕ)
    (r : Result A AskFault) → length input ≤ input_limit → Asks kind meaning (lines_of input) r
    → IfErr r IsAskOfText
ask_of_text kind meaning input (Ok answer) small p = tt
ask_of_text kind meaning input (Err e) small p =
    is_ask_of_text kind meaning input e (length-joined input) small p
