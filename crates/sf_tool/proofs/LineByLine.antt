-- The fields of an input, line by line.
use Rattle.std.proofs.Common.{◌≡◌, ℕ, ◌+◌, ◌<◌, ◌≤◌, ◌⊎◌, true, false, List, [], ◌∷◌, ◌++◌}
use Rattle.std.proofs.Common.{length, take, drop, get_or, refl, ap, sym, ◌∙◌, subst, inl, inr}
use Rattle.std.proofs.Common.{map, arith, add-one, length-drop}
use Rattle.std.specs.Prelude.{fold}
use Rattle.std.specs.List.{filter, list_any}
use Rattle.std.proofs.Math.Seq.{take-suc}
use borrow.Author.Count.{below_more}
use Rattle.std.proofs.lemmas.Bool.{cases_Bool, false≢true}
use Rattle.std.proofs.lemmas.List.{get_or_read_under, map-append, drop_more}
use Rattle.std.proofs.lemmas.List.Folds.{Any-from_list_any}
use Rattle.std.proofs.lemmas.List.Elements.{filter-append}
use Rattle.std.proofs.lemmas.List.Sums.{fold-append}
use Rattle.http_header.specs.FieldValue.{FieldValue}
use Rattle.http_header.specs.HeaderMap.{ContainsKey, append, append_all, RefusesAppend}
use Rattle.sf_field.specs.Headers.{Headers}
use Rattle.sf_tool.specs.Lines.{lines_of}
use Rattle.sf_tool.specs.Fields.{Targets, is_refused, is_of_listed, field_of, name_of}
use Rattle.sf_tool.specs.Fields.{listed_fields}
use Rattle.sf_tool.specs.Fields.{headers_of, IsOver, IsRefusedAt, NoneIsRefused, AreFields}
use Rattle.sf_tool.specs.Fields.{IsFirstRefusedOf, IsTaken, MayAllocateAt, MayAllocateAtLine}
use Rattle.sf_tool.specs.OneLine.{AddsField, ExceedsCapacity}

-- the fields of one line more
headers-more : (targets : Targets) (lines : List (List ℕ)) (line : List ℕ)
    → headers_of targets (lines ++ line ∷ [])
    ≡ append_all (headers_of targets lines) (listed_fields targets (line ∷ []))
headers-more targets lines line =
    let add : Headers → (List ℕ × FieldValue) → Headers = λ m item. append m item.0 item.1 in
    let listed = is_of_listed targets in
    let fields : listed_fields targets (lines ++ line ∷ [])
    ≡ listed_fields targets lines ++ listed_fields targets (line ∷ []) =
    ap (map field_of) (filter-append listed lines (line ∷ []))
    ∙ map-append field_of (filter listed lines) (filter listed (line ∷ [])) in
    ap (fold add []) fields
    ∙ fold-append add [] (listed_fields targets lines) (listed_fields targets (line ∷ []))

-- the lines before the n-th were taken and gave these headers, and these are left
pub record ReadsOn (targets : Targets) (all left : List (List ℕ)) (n : ℕ) (headers : Headers)
    : Type 0 where
  pub rest : left ≡ drop n all
  pub within : n ≤ length all
  pub held : headers ≡ headers_of targets (take n all)
  pub taken : NoneIsRefused targets all n

pub reads_on-start : (targets : Targets) (all : List (List ℕ)) → ReadsOn targets all all 0 []
reads_on-start targets all = record {
  rest = refl;
  within = omega arith;
  held = refl;
  taken = λ i h. absurd (let n : ⊥ = omega arith in n);
}

-- what is left begins with the line of the number
at : (all more : List (List ℕ)) (line : List ℕ) (n : ℕ) → line ∷ more ≡ drop n all → n ≤ length all
    → (n < length all) × (get_or all n [] ≡ line) × (drop (n + 1) all ≡ more)
at all more line n e w =
    let some : length (line ∷ more) ≡ length (drop n all) = ap length e in
    let lt : n < length all = omega (arith, length-drop n all) in
    let split : line ∷ more ≡ get_or all n [] ∷ drop (n + 1) all = e ∙ drop_more all n [] lt in
    (lt, cc, cc)

not-refused : (targets : Targets) (all : List (List ℕ)) (line : List ℕ) (n : ℕ) (old : Headers)
    → get_or all n [] ≡ line → old ≡ headers_of targets (take n all)
    → is_refused targets line ≡ false → ¬ (ExceedsCapacity targets line old)
    → ¬ (IsRefusedAt targets all n)
not-refused targets all line n old e h good room =
    rw e (λ r. elim r [
      | inl bad ↦ false≢true (sym good ∙ bad)
      | inr over ↦ room (over.1, rw h over.2)
    ])

-- a line is taken
pub reads_on-adds : (targets : Targets) (all more : List (List ℕ)) (line : List ℕ) (n : ℕ)
    (old new : Headers) → ReadsOn targets all (line ∷ more) n old → AddsField targets line old new
    → ReadsOn targets all more (n + 1) new
reads_on-adds targets all more line n old new r t =
    let here = at all more line n r.rest r.within in
    let lt = here.0 in
    let longer : take (n + 1) all ≡ take n all ++ line ∷ [] =
    rw add-one (take-suc all n [] lt) ∙ ap (λ l. take n all ++ l ∷ []) here.1 in
    record {
      rest = sym here.2;
      within = omega arith;
      held = t.2
          ∙ ap (λ m. append_all m (listed_fields targets (line ∷ []))) r.held
          ∙ sym (headers-more targets (take n all) line)
          ∙ ap (headers_of targets) (sym longer);
      taken = below_more (λ i. ¬ (IsRefusedAt targets all i)) n r.taken
          (not-refused targets all line n old here.1 r.held t.0 t.1);
    }

-- a line is refused
pub reads_on-refused : (targets : Targets) (all more : List (List ℕ)) (line : List ℕ)
    (n : ℕ) (headers : Headers) → ReadsOn targets all (line ∷ more) n headers
    → (ExceedsCapacity targets line headers → 24576 ≤ length targets)
    → (is_refused targets line ≡ true) ⊎ ExceedsCapacity targets line headers
    → IsFirstRefusedOf targets all n
reads_on-refused targets all more line n headers r many why =
    let here = at all more line n r.rest r.within in
    let Stops : List ℕ → Type 0 =
    λ l. (is_refused targets l ≡ true) ⊎ IsOver targets (take n all) l in
    let stops : Stops line = elim why [
      | inl bad ↦ inl bad
      | inr room ↦
          inr (
            many room,
            room.0,
            subst (λ m. RefusesAppend m (name_of line)) r.held room.1,
          )
    ] in
    (here.0, subst Stops (sym here.1) stops, r.taken)

-- an allocation fails for a line
pub reads_on-memory : (targets : Targets) (all more : List (List ℕ)) (line : List ℕ) (n : ℕ)
    (headers : Headers) → ReadsOn targets all (line ∷ more) n headers → IsTaken targets line
    → MayAllocateAtLine targets all n
reads_on-memory targets all more line n headers r taken =
    let here = at all more line n r.rest r.within in
    (here.0, subst (IsTaken targets) (sym here.1) taken, r.taken)

-- a listed field may need an allocation

none-listed : (targets : Targets) (lines : List (List ℕ))
    → list_any (is_of_listed targets) lines ≡ false → listed_fields targets lines ≡ []
none-listed targets [] none = refl
none-listed targets (line ∷ lines) none =
    elim (cases_Bool (is_of_listed targets line)) [
      | inl t ↦ (let bad : true ≡ false = rw t at none in absurd cc)
      | inr f ↦
          let later : list_any (is_of_listed targets) lines ≡ false = rw f at none in
          rw f (none-listed targets lines later)
    ]

listed-line : (targets : Targets) (input : List ℕ)
    → NoneIsRefused targets (lines_of input) (length (lines_of input))
    → list_any (is_of_listed targets) (lines_of input) ≡ true
    → (n : ℕ) × MayAllocateAt targets input n
listed-line targets input good some =
    let lines = lines_of input in
    let found = Any-from_list_any (is_of_listed targets) lines some in
    let n = found.0 in
    let lt : n < length lines = found.2 in
    let same : found.1 ≡ get_or lines n [] =
    get_or_read_under lines n (length lines) found.1 [] (sym found.3) lt refl in
    let listed : is_of_listed targets (get_or lines n []) ≡ true =
    subst (λ l. is_of_listed targets l ≡ true) same found.4 in
    let whole : is_refused targets (get_or lines n []) ≡ false =
    elim (cases_Bool (is_refused targets (get_or lines n []))) [
      | inl t ↦ absurd (good n lt (inl t))
      | inr f ↦ f
    ] in
    (n, (lt, (whole, listed), λ i before. good i (omega (arith, lt, before))))

absent : (headers : Headers) (name : List ℕ) → headers ≡ [] → ContainsKey headers name → ⊥
absent headers name e present =
    let there = subst (λ m. ContainsKey m name) e present in
    let h = there.1 in
    omega arith

-- a name that is present has a line
pub fields_allocate : (targets : Targets) (input : List ℕ) (headers : Headers) (name : List ℕ)
    → AreFields targets input headers → ContainsKey headers name
    → (n : ℕ) × MayAllocateAt targets input n
fields_allocate targets input headers name read present =
    elim (cases_Bool (list_any (is_of_listed targets) (lines_of input))) [
      | inl t ↦ listed-line targets input read.0 t
      | inr f ↦
          let none : headers ≡ [] =
          read.1 ∙ ap (append_all []) (none-listed targets (lines_of input) f) in
          absurd (absent headers name none present)
    ]
