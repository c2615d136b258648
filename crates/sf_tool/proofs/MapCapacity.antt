-- A map of values under listed names has capacity for one more, where the names are few.
use Rattle.std.proofs.Common.{◌≡◌, ℕ, suc, ◌+◌, ◌<◌, ◌≤◌, ◌^◌, ◌⊎◌, inl, inr, true, false, List, []}
use Rattle.std.proofs.Common.{◌∷◌, ◌++◌, length, bytes_eq, refl, sym, ap, ◌∙◌, arith, subst}
use Rattle.std.proofs.Common.{length-append}
use Rattle.std.specs.List.{IsDistinct, AllByRecursion}
use Rattle.std.specs.Set.{is_member}
use Rattle.std.specs.Cmp.Lexicographic.{nat_list_eq_equiv}
use Rattle.std.proofs.lemmas.Bool.{cases_Bool, false≢true}
use Rattle.std.proofs.lemmas.Slice.Eq.{bytes_eq-Decides}
use Rattle.std.proofs.lemmas.List.Sums.{sum_by-cons}
use Rattle.std.proofs.lemmas.Map.Made.{length-le_from_is_member}
use Rattle.http_header.specs.FieldValue.{FieldValue}
use Rattle.http_header.specs.HeaderMap.{Entry, Entries, keys, update, append}
use Rattle.http_header.specs.HeaderMap.{value_count, RefusesAppend}
use Rattle.sf_field.specs.Headers.{Headers}
use Rattle.sf_tool.specs.Fields.{Targets, is_listed, is_of_listed, field_of, name_of, has_name}
use Rattle.sf_tool.specs.OneLine.{AddsField}

module _ {X : Type 0} where
  -- a name of the map after an update was there, or is the new one
  member-update : (m : Entries X) (name : List ℕ) (f : List X → List X) (q : List ℕ)
      → is_member bytes_eq (keys (update m name f)) q ≡ true
      → (is_member bytes_eq (keys m) q ≡ true) ⊎ (q ≡ name)
  member-update [] name f q h =
      elim (cases_Bool (bytes_eq q name)) [
        | inl t ↦ inr ((bytes_eq-Decides q name).0 t)
        | inr n ↦ (let bad : false ≡ true = rw n at h in absurd (cc))
      ]
  member-update (e ∷ m) name f q h =
      elim (cases_Bool (bytes_eq e.0 name)) [
        | inl t ↦ inl (rw t at h)
        | inr n ↦
            let kept : is_member bytes_eq (e.0 ∷ keys (update m name f)) q ≡ true = rw n at h in
            elim (cases_Bool (bytes_eq q e.0)) [
              | inl s ↦ inl (rw s refl)
              | inr s ↦
                  let later : is_member bytes_eq (keys (update m name f)) q ≡ true =
                  rw s at kept in
                  elim (member-update m name f q later) [ inl a ↦ inl (rw s a) | inr b ↦ inr b ]
            ]
      ]

  -- names that differ from x still do
  apart-update : (x : List ℕ) (m : Entries X) (name : List ℕ) (f : List X → List X)
      → AllByRecursion (λ y. bytes_eq x y ≡ false) (keys m) → bytes_eq x name ≡ false
      → AllByRecursion (λ y. bytes_eq x y ≡ false) (keys (update m name f))
  apart-update x [] name f h n = (n, tt)
  apart-update x (e ∷ m) name f h n =
      elim (cases_Bool (bytes_eq e.0 name)) [
        | inl t ↦ rw t h
        | inr d ↦ rw d (h.0, apart-update x m name f h.1 n)
      ]

  IsDistinct-update : (m : Entries X) (name : List ℕ) (f : List X → List X)
      → IsDistinct bytes_eq (keys m) → IsDistinct bytes_eq (keys (update m name f))
  unfolding IsDistinct
  IsDistinct-update [] name f h = (tt, tt)
  IsDistinct-update (e ∷ m) name f h =
      elim (cases_Bool (bytes_eq e.0 name)) [
        | inl t ↦ rw t h
        | inr d ↦ rw d (apart-update e.0 m name f h.0 d, IsDistinct-update m name f h.1)
      ]

  value_count-append : (m : Entries X) (name : List ℕ) (value : X)
      → value_count (append m name value) ≡ value_count m + 1
  value_count-append [] name value = refl
  value_count-append (e ∷ m) name value =
      let count : Entry X → ℕ = λ e. length e.1 in
      let here = sum_by-cons count e m in
      elim (cases_Bool (bytes_eq e.0 name)) [
        | inl t ↦
            let longer = sum_by-cons count (e.0, e.1 ++ value ∷ []) m in
            rw t (omega (arith, length-append e.1 (value ∷ [])))
        | inr d ↦
            let later = sum_by-cons count e (append m name value) in
            let more = value_count-append m name value in
            rw d (omega arith)
      ]

  length-keys : (m : Entries X) → length (keys m) ≡ length m
  length-keys [] = refl
  length-keys (e ∷ m) = ap suc (length-keys m)

  -- the names are distinct and listed, and there are at most n values
  pub record IsListedMap (targets : Targets) (m : Entries X) (n : ℕ) : Type 0 where
    pub distinct : IsDistinct bytes_eq (keys m)
    pub listed : (q : List ℕ) → is_member bytes_eq (keys m) q ≡ true
        → is_member bytes_eq targets q ≡ true
    pub counted : value_count m ≤ n

  IsListedMap-append : (targets : Targets) (m : Entries X) (n : ℕ) (name : List ℕ) (value : X)
      → IsListedMap targets m n → is_member bytes_eq targets name ≡ true
      → IsListedMap targets (append m name value) (n + 1)
  IsListedMap-append targets m n name value map here = record {
    distinct = IsDistinct-update m name _ map.distinct;
    listed = λ q h. elim (member-update m name _ q h) [
      | inl a ↦ map.listed q a
      | inr b ↦
          let P : List ℕ → Type 0 = λ q. is_member bytes_eq targets q ≡ true in
          subst P (sym b) here
    ];
    counted = omega (arith, value_count-append m name value, map.counted);
  }

  -- so the map takes a further value, but where there are names enough to fill it
  pub many-names : (targets : Targets) (m : Entries X) (n : ℕ) (name : List ℕ)
      → n + 1 < 2 ^ 64 → IsListedMap targets m n → RefusesAppend m name → 24576 ≤ length targets
  many-names targets m n name small map full =
      let names : length (keys m) ≤ length targets =
      length-le_from_is_member nat_list_eq_equiv (keys m) targets map.distinct map.listed in
      let kept = length-keys m in
      let counted = map.counted in
      elim full [
        | inl a ↦ absurd (omega arith)
        | inr b ↦ elim b.1 [ inl c ↦ omega arith | inr d ↦ absurd (omega arith) ]
      ]

listed-member : (targets : Targets) (name : List ℕ) → is_listed targets name ≡ true
    → is_member bytes_eq targets name ≡ true
listed-member [] name h = h
listed-member (t ∷ targets) name h =
    elim (cases_Bool (bytes_eq t name)) [
      | inl s ↦
          let back : bytes_eq name t ≡ true = nat_list_eq_equiv.symm name t ∙ s in
          rw back refl
      | inr s ↦
          let back : bytes_eq name t ≡ false = nat_list_eq_equiv.symm name t ∙ s in
          let later : is_listed targets name ≡ true = rw s at h in
          rw back (listed-member targets name later)
    ]

-- the empty map
pub IsListedMap-empty : (targets : Targets) → IsListedMap {X = FieldValue} targets [] 0
unfolding IsDistinct
IsListedMap-empty targets =
    record { distinct = tt; listed = λ q h. absurd (false≢true h); counted = omega arith }

is_listed-of : (targets : Targets) (line : List ℕ) → is_of_listed targets line ≡ true
    → is_listed targets (name_of line) ≡ true
is_listed-of targets line h =
    elim (cases_Bool (has_name line)) [
      | inl t ↦ rw t at h
      | inr f ↦ (let bad : false ≡ true = rw f at h in absurd (false≢true bad))
    ]

-- the map after one line more
pub IsListedMap-adds : (targets : Targets) (line : List ℕ) (old new : Headers) (n : ℕ)
    → IsListedMap targets old n → AddsField targets line old new → IsListedMap targets new (n + 1)
IsListedMap-adds targets line old new n map taken =
    let P : Headers → Type 0 = λ m. IsListedMap targets m (n + 1) in
    subst P (sym taken.2)
    (elim (cases_Bool (is_of_listed targets line)) [
      | inl t ↦
          let field = field_of line in
          let here = listed-member targets (name_of line) (is_listed-of targets line t) in
          rw t (IsListedMap-append targets old n field.0 field.1 map here)
      | inr f ↦
          rw f (record {
            distinct = map.distinct;
            listed = map.listed;
            counted = omega (arith, map.counted);
          })
    ])
