-- Where the heads of an input begin and end, and the report on an input with what caches decide.
use Rattle.std.specs.Prelude.{◌≡◌, ℕ, suc, zero, ◌+◌, ◌-◌, Bool, true, false, ◌||◌, ◌==◌}
use Rattle.std.specs.Prelude.{List, [], ◌∷◌, ◌++◌, length, take, drop, get_or, if◌then◌else◌}
use Rattle.std.specs.Prelude.{Option, Some, None}
use Rattle.std.specs.List.{list_any}
use Rattle.std.specs.Str.Lines.{lines}
use Rattle.sf_lint.specs.declared.settings.CacheSettings.{CacheSettings}
use Rattle.sf_lint.specs.declared.settings.Settings.{Settings}
use Rattle.sf_lint.specs.Deciding.{IsHeadText}
use Rattle.sf_lint.specs.Head.{is_start, is_status_line, line_of}
use Rattle.sf_lint.specs.Report.{IsReport, Reports, ReportsLine, ReportsLines, ReportsMore}
use Rattle.sf_lint.specs.Report.{others_text, shown}
use Rattle.sf_lint.specs.StatusCodes.{status_code}

-- the n-th line is the last of its head: it is the last of all, or a start line follows it
abbrev pub ends_head : List (List ℕ) → ℕ → Bool
ends_head lines n = n + 1 == length lines || is_start (get_or lines (n + 1) [])

-- the index of the last start line among the first n lines, at which their last head begins; the
-- lines before the first start line are a head without one
abbrev pub head_begin : List (List ℕ) → ℕ → ℕ
head_begin lines zero = 0
head_begin lines (suc n) = if is_start (get_or lines n []) then n else head_begin lines n

abbrev pub lines_between : ℕ → ℕ → List (List ℕ) → List (List ℕ)
lines_between begin end lines = take (end - begin) (drop begin lines)

-- one of the lines is not empty
abbrev pub is_some_line : List ℕ → Bool
is_some_line [] = false
is_some_line (b ∷ bs) = true

abbrev pub has_text : List (List ℕ) → Bool
has_text lines = list_any is_some_line lines

-- lines without a start line are those of a response, unless all are empty
abbrev pub DecidesLines : CacheSettings → ℕ → List (List ℕ) → Bool → List ℕ → Type 0
DecidesLines caches begin lines true text = IsHeadText caches None (begin + 1) lines text
DecidesLines caches begin lines false text = text ≡ []

-- the first line of a head is a status line, or another start line, that of a request, or none
abbrev pub DecidesFrom : CacheSettings → ℕ → List ℕ → List (List ℕ) → Bool → Bool → List ℕ → Type 0
DecidesFrom caches begin first rest true start text =
    IsHeadText caches (status_code first) (begin + 2) rest text
DecidesFrom caches begin first rest false true text = text ≡ []
DecidesFrom caches begin first rest false false text =
    DecidesLines caches begin (first ∷ rest) (has_text (first ∷ rest)) text

-- what is printed of the decisions by a head whose first line has this index
abbrev pub DecidesHead : CacheSettings → ℕ → List (List ℕ) → List ℕ → Type 0
DecidesHead caches begin [] text = text ≡ []
DecidesHead caches begin (first ∷ rest) text =
    DecidesFrom caches begin first rest (is_status_line first) (is_start first) text

-- what is printed of decisions after the n-th line, if that ends a head
abbrev pub DecidesIf : CacheSettings → List (List ℕ) → ℕ → Bool → List ℕ → Type 0
DecidesIf caches lines n true text =
    DecidesHead caches (head_begin lines (n + 1))
    (lines_between (head_begin lines (n + 1)) (n + 1) lines) text
DecidesIf caches lines n false text = text ≡ []

abbrev pub DecidesAfter : CacheSettings → List (List ℕ) → ℕ → List ℕ → Type 0
DecidesAfter caches lines n text = DecidesIf caches lines n (ends_head lines n) text

-- the same if there are caches
abbrev pub MayDecide : Option CacheSettings → List (List ℕ) → ℕ → List ℕ → Type 0
MayDecide None lines n text = text ≡ []
MayDecide (Some caches) lines n text = DecidesAfter caches lines n text

-- one more line is reported after those before it, and after it what is decided by its head, if it
-- ends that
pub record ReportsAndDecides (before line : List ℕ → Bool → ℕ → Type 0) (after : List ℕ → Type 0)
    (t : List ℕ) (r : Bool) (o : ℕ) : Type 0 where
  pub text : List ℕ
  pub decided : List ℕ
  pub reported : ReportsMore before line text r o
  pub decides : after decided
  pub sum : t ≡ text ++ decided

-- the first n lines, in order, with the decisions by the heads that end among them
abbrev pub ReportsDeciding : CacheSettings → Settings → List (List ℕ) → ℕ → List ℕ → Bool → ℕ → Type 0
ReportsDeciding caches s lines zero = IsReport [] false 0
ReportsDeciding caches s lines (suc n) =
    ReportsAndDecides (ReportsDeciding caches s lines n)
    (ReportsLine s lines n (line_of (get_or lines n []))) (DecidesAfter caches lines n)

abbrev pub ReportsLinesWith : Option CacheSettings → Settings → List (List ℕ) → ℕ
    → List ℕ → Bool → ℕ → Type 0
ReportsLinesWith None s lines n = ReportsLines s lines n
ReportsLinesWith (Some caches) s lines n = ReportsDeciding caches s lines n

-- an input: the report on it, with the decisions of caches if there are any
abbrev pub ReportsWith : Option CacheSettings → Settings → List ℕ → List ℕ → Bool → Type 0
ReportsWith None s input text refused = Reports s input text refused
ReportsWith (Some caches) s input text refused =
    (reported : List ℕ) × (others : ℕ)
    × ReportsDeciding caches s (lines input) (length (lines input)) reported refused others
    × (text ≡ reported ++ shown s (others_text others))
