-- What lines are, from what http_header tells of names and values.
use Rattle.std.proofs.Common.{◌≡◌, ℕ, ◌<◌, ◌≤◌, Bool, true, false, List, [], ◌∷◌, length, refl, inl}
use Rattle.std.proofs.Common.{inr, get_or, take, ◌+◌, ◌↔◌}
use Rattle.std.proofs.Common.{IsTrue, ◌∙◌, arith, ap, bytes_eq, subst, sym}
use Rattle.std.specs.Prelude.{◌==◌, ◌&&◌, ◌||◌, not, nat_le, codes}
use Rattle.std.specs.Bool.{Decides}
use Rattle.std.specs.List.{list_all, list_any, position_or_len}
use Rattle.std.specs.Char.{is_ascii_alphanumeric}
use Rattle.std.proofs.lemmas.Bool.{cases_Bool, false≢true, leb-true, le-leb}
use Rattle.std.proofs.lemmas.Bool.Decides.{nat_tests, Decides-like, Decides-by_and, Decides-and}
use Rattle.std.proofs.lemmas.Bool.Decides.{Decides-ltb, not_from_Decides}
use Rattle.std.proofs.lemmas.List.Folds.{list_any_none, list_any_at, list_any_more}
use Rattle.std.proofs.lemmas.List.Sums.{fails_before_first, passes_at_first}
use Rattle.std.proofs.lemmas.Slice.Eq.{bytes_eq-Decides}
use Rattle.http_header.specs.Token.{is_token_byte, is_value_byte, lowercase}
use Rattle.http_header.specs.FieldName.{IsFieldName}
use Rattle.http_header.specs.FieldValue.{IsFieldValue}
use Rattle.sf_value.specs.Grammar.Classes.{is_tchar, is_one_of, is_alpha, is_digit}
use Rattle.sf_tool.specs.Fields.{is_colon, is_header_name, is_control, is_field_value, has_name}
use Rattle.sf_tool.specs.Fields.{word_of, name_of, value_of, Targets, is_listed, is_of_listed}
use Rattle.sf_tool.specs.Fields.{is_refused, IsTaken}

-- the classes of bytes are those of http_header

is_one_of-is : (cs : List ℕ) (b : ℕ) → list_any (λ c. c == b) cs ≡ is_one_of cs b
is_one_of-is [] b = refl
is_one_of-is (c ∷ cs) b =
    let later = is_one_of-is cs b in
    let turned : (c == b) ≡ (b == c) = grind (arith, nat_tests) in
    rw (turned, later) refl

either-same : (a b c d : Bool) → a ≡ b → c ≡ d → (a || c) ≡ (b || d)
either-same a b c d p q = rw (p, q) refl

pub is_tchar-is : (b : ℕ) → is_token_byte b ≡ is_tchar b
unfolding is_token_byte
is_tchar-is b =
    let letters : is_ascii_alphanumeric b ≡ (is_alpha b || is_digit b) = grind (arith, nat_tests) in
    either-same _ _ _ _ letters (is_one_of-is (codes "!#$%&'*+-.^_`|~") b)

tchar-decides : (b : ℕ) → Decides (is_tchar b) (IsTrue (is_token_byte b))
tchar-decides b = rw (is_tchar-is b) (λ h. h, λ h. h)

value_byte-is : (b : ℕ) → is_value_byte b ≡ (b == 9 || not (is_control b))
value_byte-is b = grind (arith, nat_tests)

value_byte-decides : (b : ℕ) → Decides (b == 9 || not (is_control b)) (IsTrue (is_value_byte b))
value_byte-decides b = rw (value_byte-is b) (λ h. h, λ h. h)

pub header_name-decides : (word : List ℕ) → Decides (is_header_name word) (IsFieldName word)
header_name-decides word =
    let bytes = Decides-by_and is_tchar (λ b. IsTrue (is_token_byte b)) (list_all is_tchar)
    tchar-decides refl
    (λ _ _. refl) word in
    let short : Decides (nat_le (length word) 65535) (length word ≤ 65535) =
    (λ h. leb-true _ _ h, λ h. le-leb _ _ h) in
    Decides-like _ (λ h. ((h.0, h.1.1), h.1.0)) (λ h. (h.0.0, (h.1, h.0.1)))
    (Decides-and _ _ (Decides-ltb 0 (length word)) (Decides-and _ _ short bytes))

pub field_value-decides : (value : List ℕ) → Decides (is_field_value value) (IsFieldValue value)
field_value-decides value =
    Decides-by_and _ (λ b. IsTrue (is_value_byte b)) is_field_value value_byte-decides refl
    (λ _ _. refl) value

-- a word that is not refused as a name is one
pub name-sure : (word : List ℕ) → ¬ (¬ (IsFieldName word)) → is_header_name word ≡ true
name-sure word h =
    elim (cases_Bool (is_header_name word)) [
      | inl t ↦ t
      | inr f ↦ absurd (h (not_from_Decides _ (header_name-decides word) f))
    ]

value-sure : (value : List ℕ) → ¬ (¬ (IsFieldValue value)) → is_field_value value ≡ true
value-sure value h =
    elim (cases_Bool (is_field_value value)) [
      | inl t ↦ t
      | inr f ↦ absurd (h (not_from_Decides _ (field_value-decides value) f))
    ]

pub not-name : (word : List ℕ) → ¬ (IsFieldName word) → is_header_name word ≡ false
not-name word h =
    elim (cases_Bool (is_header_name word)) [
      | inl t ↦ absurd (h ((header_name-decides word).0 t))
      | inr f ↦ f
    ]

not-value : (value : List ℕ) → ¬ (IsFieldValue value) → is_field_value value ≡ false
not-value value h =
    elim (cases_Bool (is_field_value value)) [
      | inl t ↦ absurd (h ((field_value-decides value).0 t))
      | inr f ↦ f
    ]

-- lines, by the place of their first colon

colon : (line : List ℕ) → position_or_len is_colon line < length line
    → list_any is_colon line ≡ true
colon line h = list_any_at is_colon line (position_or_len is_colon line) 0 h (passes_at_first
    is_colon line 0 h)

no-colon : (line : List ℕ) → position_or_len is_colon line ≡ length line
    → list_any is_colon line ≡ false
no-colon line e =
    list_any_none is_colon line (λ k d h. fails_before_first is_colon line k d (omega arith))

-- a line that is not empty
refused-is : (targets : Targets) (line : List ℕ) → 0 < length line
    → is_refused targets line
    ≡ (not (has_name line)
    || (is_of_listed targets line && not (is_field_value (value_of line))))
refused-is targets [] h = absurd (omega arith)
refused-is targets (b ∷ line) h = refl

refused-parts : (a b c n o v : Bool) → a ≡ n → b ≡ o → c ≡ v
    → (not a || (b && not c)) ≡ (not n || (o && not v))
refused-parts a b c n o v p q r = rw (p, q, r) refl

both-are : (a b n o : Bool) → a ≡ n → b ≡ o → (a && b) ≡ (n && o)
both-are a b n o p q = rw (p, q) refl

-- the same, where it is known what the line is
refused-as : (targets : Targets) (line : List ℕ) (n o v : Bool) → 0 < length line
    → has_name line ≡ n → is_of_listed targets line ≡ o → is_field_value (value_of line) ≡ v
    → is_refused targets line ≡ (not n || (o && not v))
refused-as targets line n o v h named of value =
    refused-is targets line h ∙ refused-parts _ _ _ _ _ _ named of value

refused-unnamed : (targets : Targets) (line : List ℕ) → 0 < length line → has_name line ≡ false
    → is_refused targets line ≡ true
refused-unnamed targets line h n = refused-as targets line false _ _ h n refl refl

pub refused-without_colon : (targets : Targets) (line : List ℕ) → 0 < length line
    → position_or_len is_colon line ≡ length line → is_refused targets line ≡ true
refused-without_colon targets line h e =
    refused-unnamed targets line h (rw (no-colon line e) refl)

pub refused-without_name : (targets : Targets) (line : List ℕ)
    → position_or_len is_colon line < length line → is_header_name (word_of line) ≡ false
    → is_refused targets line ≡ true
refused-without_name targets line at bad =
    let unnamed : has_name line ≡ false = both-are _ _ _ _ (colon line at) bad in
    refused-unnamed targets line (omega arith) unnamed

named : (line : List ℕ) → position_or_len is_colon line < length line
    → is_header_name (word_of line) ≡ true → has_name line ≡ true
named line at name = both-are _ _ _ _ (colon line at) name

pub dropped-unlisted : (targets : Targets) (line : List ℕ)
    → position_or_len is_colon line < length line → is_header_name (word_of line) ≡ true
    → is_listed targets (name_of line) ≡ false
    → (is_refused targets line ≡ false) × (is_of_listed targets line ≡ false)
dropped-unlisted targets line at name unlisted =
    let is = named line at name in
    let other : is_of_listed targets line ≡ false = both-are _ _ _ _ is unlisted in
    (refused-as targets line true false _ (omega arith) is other refl, other)

listed : (targets : Targets) (line : List ℕ)
    → position_or_len is_colon line < length line → is_header_name (word_of line) ≡ true
    → is_listed targets (name_of line) ≡ true → is_of_listed targets line ≡ true
listed targets line at name here = both-are _ _ _ _ (named line at name) here

pub taken-listed : (targets : Targets) (line : List ℕ)
    → position_or_len is_colon line < length line → is_header_name (word_of line) ≡ true
    → is_listed targets (name_of line) ≡ true → ¬ (¬ (IsFieldValue (value_of line)))
    → IsTaken targets line
taken-listed targets line at name here value =
    let is = named line at name in
    let of = listed targets line at name here in
    let sure = value-sure (value_of line) value in
    (refused-as targets line true true true (omega arith) is of sure, of)

pub refused-value : (targets : Targets) (line : List ℕ)
    → position_or_len is_colon line < length line → is_header_name (word_of line) ≡ true
    → is_listed targets (name_of line) ≡ true → ¬ (IsFieldValue (value_of line))
    → is_refused targets line ≡ true
refused-value targets line at name here bad =
    let is = named line at name in
    let of = listed targets line at name here in
    refused-as targets line true true false (omega arith) is of (not-value (value_of line) bad)

-- listed names

same-name : (bytes target word : List ℕ) (test : Bool) → bytes ≡ target → lowercase target ≡ target
    → (IsTrue test ↔ (lowercase bytes ≡ lowercase word)) → bytes_eq target (lowercase word) ≡ test
same-name bytes target word true e lower h =
    let same : target ≡ lowercase word = sym lower ∙ ap lowercase (sym e) ∙ h.0 refl in
    (bytes_eq-Decides target (lowercase word)).1 same
same-name bytes target word false e lower h =
    elim (cases_Bool (bytes_eq target (lowercase word))) [
      | inl t ↦
          let same : target ≡ lowercase word =
          (bytes_eq-Decides target (lowercase word)).0 t in
          absurd (false≢true (h.1 (ap lowercase e ∙ lower ∙ same)))
      | inr f ↦ f
    ]

-- the name at a place is the word, or is not
pub listed-here : (targets : Targets) (i : ℕ) (target bytes word : List ℕ) → i < length targets
    → target ≡ get_or targets i target → bytes ≡ target → lowercase target ≡ target
    → (IsTrue true ↔ (lowercase bytes ≡ lowercase word))
    → is_listed targets (lowercase word) ≡ true
listed-here targets i target bytes word lt is e lower h =
    let P : List ℕ → Type 0 = λ t. bytes_eq t (lowercase word) ≡ true in
    list_any_at (λ t. bytes_eq t (lowercase word)) targets i target lt
    (subst P is (same-name bytes target word true e lower h))

pub not-listed-here : (targets : Targets) (i : ℕ) (target bytes word : List ℕ) → i < length targets
    → target ≡ get_or targets i target → bytes ≡ target → lowercase target ≡ target
    → (IsTrue false ↔ (lowercase bytes ≡ lowercase word))
    → is_listed (take i targets) (lowercase word) ≡ false
    → is_listed (take (i + 1) targets) (lowercase word) ≡ false
not-listed-here targets i target bytes word lt is e lower h before =
    let P : List ℕ → Type 0 = λ t. bytes_eq t (lowercase word) ≡ false in
    let here = subst P is (same-name bytes target word false e lower h) in
    list_any_more (λ t. bytes_eq t (lowercase word)) targets i target lt ∙ rw (before, here) refl
