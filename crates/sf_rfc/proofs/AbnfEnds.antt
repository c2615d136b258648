-- Every text of the ABNF's fields begins and ends with a character above SP, so it is not empty
-- and has no white space around it.
use Rattle.std.specs.List.{list_all}
use Rattle.std.proofs.Common.{◌≡◌, ℕ, zero, suc, ◌<◌, true, ◌⊎◌, List, []}
use Rattle.std.proofs.Common.{◌∷◌, ◌++◌, refl, sym, ap, ◌∙◌, inl, inr, append_assoc, append-nil}
use Rattle.std.proofs.Common.{arith}
use Rattle.std.specs.Prelude.{codes, nat_lt}
use Rattle.std.specs.Cmp.{first_so, second_so}
use Rattle.std.proofs.lemmas.Bool.Decides.{nat_tests}
use Rattle.sf_value.specs.declared.dialect.Dialect.{Dialect}
use Rattle.sf_value.specs.declared.dialect.Dialect.TheVariants.{Rfc8941, Rfc9651}
use Rattle.sf_value.specs.declared.value.Kind.{Kind}
use Rattle.sf_value.specs.declared.value.Kind.TheVariants as kind
use Rattle.sf_rfc.specs.Rfc9651.AbnfNotation.{Rule, text, range, then, either, one_of, times}
use Rattle.sf_rfc.specs.Rfc9651.AbnfNotation.{repeated, many, optional, ALPHA, DIGIT, DQUOTE, tchar}
use Rattle.sf_rfc.specs.Rfc9651.Abnf.{sf_integer, sf_decimal, sf_string, sf_token, sf_binary}
use Rattle.sf_rfc.specs.Rfc9651.Abnf.{sf_boolean, sf_date, sf_displaystring, bare_item, lcalpha}
use Rattle.sf_rfc.specs.Rfc9651.Abnf.{key}
use Rattle.sf_rfc.specs.Rfc9651.Abnf.{parameter, parameters, sf_item, inner_list, list_member}
use Rattle.sf_rfc.specs.Rfc9651.Abnf.{with_commas, dict_member}
use Rattle.sf_rfc.specs.AbnfLaws.{Begins, Ends, IsTrimmed, kind_rule}

-- rules of one character each, above SP
abbrev Single : Rule → Type 0
Single R = (t : List ℕ) → R t → (c : ℕ) × (t ≡ c ∷ []) × (32 < c)

abbrev AllBegin : Rule → Type 0
AllBegin R = (t : List ℕ) → R t → Begins t

abbrev AllEnd : Rule → Type 0
AllEnd R = (t : List ℕ) → R t → Ends t

-- texts that end so, or are empty
abbrev MayEnd : Rule → Type 0
MayEnd R = (t : List ℕ) → R t → (t ≡ []) ⊎ Ends t

module _ {P : Rule} where
  begins : Single P → AllBegin P
  begins f t p = let (c, e, l) = f t p in (c, [], e, l)

  ends : Single P → AllEnd P
  ends f t p = let (c, e, l) = f t p in ([], c, e, l)

  may_optional : AllEnd P → MayEnd (optional P)
  may_optional f t (inl z) = inl z
  may_optional f t (inr p) = inr (f t p)

module _ {P Q : Rule} where
  single_either : Single P → Single Q → Single (either P Q)
  single_either f g t (inl p) = f t p
  single_either f g t (inr q) = g t q

  begin_then : AllBegin P → AllBegin (then P Q)
  begin_then f t (prefix, suffix, e, p, q) =
      let (c, u, g, l) = f prefix p in (c, u ++ suffix, e ∙ ap (λ y. y ++ suffix) g, l)

  begin_after : AllBegin P → AllBegin Q → AllBegin (then (optional P) Q)
  begin_after f g t (prefix, suffix, e, inl z, q) =
      let (c, u, h, l) = g suffix q in (c, u, e ∙ ap (λ y. y ++ suffix) z ∙ h, l)
  begin_after f g t (prefix, suffix, e, inr p, q) =
      let (c, u, h, l) = f prefix p in (c, u ++ suffix, e ∙ ap (λ y. y ++ suffix) h, l)

  begin_either : AllBegin P → AllBegin Q → AllBegin (either P Q)
  begin_either f g t (inl p) = f t p
  begin_either f g t (inr q) = g t q

  end_then : AllEnd Q → AllEnd (then P Q)
  end_then f t (prefix, suffix, e, p, q) =
      let (u, c, g, l) = f suffix q in
      (prefix ++ u, c, e ∙ ap (λ y. prefix ++ y) g ∙ sym (append_assoc prefix u (c ∷ [])), l)

  end_before : AllEnd P → MayEnd Q → AllEnd (then P Q)
  end_before f g t (prefix, suffix, e, p, q) = go (g suffix q)
    where
      go : (suffix ≡ []) ⊎ Ends suffix → Ends t
      go (inl z) =
          let (u, c, h, l) = f prefix p in
          (u, c, e ∙ ap (λ y. prefix ++ y) z ∙ append-nil prefix ∙ h, l)
      go (inr (u, c, h, l)) =
          (prefix ++ u, c, e ∙ ap (λ y. prefix ++ y) h ∙ sym (append_assoc prefix u (c ∷ [])), l)

  end_either : AllEnd P → AllEnd Q → AllEnd (either P Q)
  end_either f g t (inl p) = f t p
  end_either f g t (inr q) = g t q

  may_either : MayEnd P → AllEnd Q → MayEnd (either P Q)
  may_either f g t (inl p) = f t p
  may_either f g t (inr q) = inr (g t q)

may_times : (P : Rule) → AllEnd P → (n : ℕ) → MayEnd (times n P)
may_times P f zero t e = inl e
may_times P f (suc n) t h = inr (end_before {P = P} {Q = times n P} f (may_times P f n) t h)

may_many : (P : Rule) → AllEnd P → MayEnd (many P)
may_many P f t (n, h) = may_times P f n t h

begin_repeated : (P : Rule) (high : ℕ) → AllBegin P → AllBegin (repeated 1 high P)
begin_repeated P high f t (zero, l, h, k) = absurd (let n : ⊥ = omega arith in n)
begin_repeated P high f t (suc n, l, h, k) = begin_then {P = P} {Q = times n P} f t k

end_repeated : (P : Rule) (high : ℕ) → AllEnd P → AllEnd (repeated 1 high P)
end_repeated P high f t (zero, l, h, k) = absurd (let n : ⊥ = omega arith in n)
end_repeated P high f t (suc n, l, h, k) =
    end_before {P = P} {Q = times n P} f (may_times P f n) t k

-- characters
a_range : (low high : ℕ) → 32 < low → Single (range low high)
a_range low high l t (c, e, a, b) = (c, e, omega arith)

a_text : (c : ℕ) → 32 < c → Single (text (c ∷ []))
a_text c l t e = (c, e, l)

any_of : (cs : List ℕ) → list_all (nat_lt 32) cs ≡ true → Single (one_of cs)
any_of [] k t h = absurd h
any_of (c ∷ cs) k t (inl e) =
    (c, e, (let a = first_so (nat_lt 32 c) (list_all (nat_lt 32) cs) k in grind (arith, nat_tests)))
any_of (c ∷ cs) k t (inr h) = any_of cs (second_so (nat_lt 32 c) (list_all (nat_lt 32) cs) k) t h

digit : Single DIGIT
digit = a_range 0x30 0x39 (omega arith)

alpha : Single ALPHA
alpha = single_either (a_range 0x41 0x5a (omega arith)) (a_range 0x61 0x7a (omega arith))

a_tchar : Single tchar
a_tchar = single_either (any_of (codes "!#$%&'*+-.^_`|~") refl) (single_either digit alpha)

lower : Single lcalpha
lower = a_range 0x61 0x7a (omega arith)

star : Single (text (codes "*"))
star = a_text 42 (omega arith)

-- bare items
integer_begins : AllBegin sf_integer
integer_begins =
    begin_after (begins (a_text 45 (omega arith))) (begin_repeated DIGIT 15 (begins digit))

integer_ends : AllEnd sf_integer
integer_ends = end_then (end_repeated DIGIT 15 (ends digit))

decimal_begins : AllBegin sf_decimal
decimal_begins =
    begin_after (begins (a_text 45 (omega arith)))
    (begin_then (begin_repeated DIGIT 12 (begins digit)))

decimal_ends : AllEnd sf_decimal
decimal_ends = end_then (end_then (end_then (end_repeated DIGIT 3 (ends digit))))

quote : Single DQUOTE
quote = a_text 34 (omega arith)

string_begins : AllBegin sf_string
string_begins = begin_then (begins quote)

string_ends : AllEnd sf_string
string_ends = end_then (end_then (ends quote))

token_begins : AllBegin sf_token
token_begins = begin_then (begins (single_either alpha star))

token_ends : AllEnd sf_token
token_ends =
    end_before (ends (single_either alpha star))
    (may_many _ (ends (single_either a_tchar
    (single_either (a_text 58 (omega arith)) (a_text 47 (omega arith))))))

binary_begins : AllBegin sf_binary
binary_begins = begin_then (begins (a_text 58 (omega arith)))

binary_ends : AllEnd sf_binary
binary_ends = end_then (end_then (ends (a_text 58 (omega arith))))

boolean_begins : AllBegin sf_boolean
boolean_begins = begin_then (begins (a_text 63 (omega arith)))

boolean_ends : AllEnd sf_boolean
boolean_ends =
    end_then (ends (single_either (a_text 48 (omega arith)) (a_text 49 (omega arith))))

date_begins : AllBegin sf_date
date_begins = begin_then (begins (a_text 64 (omega arith)))

date_ends : AllEnd sf_date
date_ends = end_then integer_ends

shown_begins : AllBegin sf_displaystring
shown_begins = begin_then (begins (a_text 37 (omega arith)))

shown_ends : AllEnd sf_displaystring
shown_ends = end_then (end_then (end_then (ends quote)))

bare_begins : (d : Dialect) → AllBegin (bare_item d)
bare_begins Rfc8941 =
    begin_either integer_begins (begin_either decimal_begins (begin_either string_begins
    (begin_either token_begins (begin_either binary_begins boolean_begins))))
bare_begins Rfc9651 =
    begin_either integer_begins (begin_either decimal_begins (begin_either string_begins
    (begin_either token_begins (begin_either binary_begins (begin_either boolean_begins
    (begin_either date_begins shown_begins))))))

bare_ends : (d : Dialect) → AllEnd (bare_item d)
bare_ends Rfc8941 =
    end_either integer_ends (end_either decimal_ends (end_either string_ends
    (end_either token_ends (end_either binary_ends boolean_ends))))
bare_ends Rfc9651 =
    end_either integer_ends (end_either decimal_ends (end_either string_ends
    (end_either token_ends (end_either binary_ends (end_either boolean_ends
    (end_either date_ends shown_ends))))))

-- the structures
key_begins : AllBegin key
key_begins = begin_then (begins (single_either lower star))

key_ends : AllEnd key
key_ends =
    end_before (ends (single_either lower star))
    (may_many _ (ends (single_either lower (single_either digit (any_of (codes "_-.*") refl)))))

module _ (d : Dialect) where
  parameter_ends : AllEnd (parameter d)
  parameter_ends = end_before key_ends (may_optional (end_then (bare_ends d)))

  parameters_may : MayEnd (parameters d)
  parameters_may = may_many _ (end_then (end_then parameter_ends))

  item_begins : AllBegin (sf_item d)
  item_begins = begin_then (bare_begins d)

  item_ends : AllEnd (sf_item d)
  item_ends = end_before (bare_ends d) parameters_may

  inner_begins : AllBegin (inner_list d)
  inner_begins = begin_then (begins (a_text 40 (omega arith)))

  inner_ends : AllEnd (inner_list d)
  inner_ends =
      end_then (end_then (end_then (end_before (ends (a_text 41 (omega arith))) parameters_may)))

  member_begins : AllBegin (list_member d)
  member_begins = begin_either item_begins inner_begins

  member_ends : AllEnd (list_member d)
  member_ends = end_either item_ends inner_ends

  entry_begins : AllBegin (dict_member d)
  entry_begins = begin_then key_begins

  entry_ends : AllEnd (dict_member d)
  entry_ends = end_before key_ends (may_either parameters_may (end_then member_ends))

  commas_end : (P : Rule) → AllEnd P → AllEnd (with_commas P)
  commas_end P f = end_before f (may_many _ (end_then (end_then (end_then f))))

  pub trimmed : (k : Kind) (t : List ℕ) → kind_rule d k t → IsTrimmed t
  trimmed kind.Item t h = (item_begins t h, item_ends t h)
  trimmed kind.List t h = (begin_then member_begins t h, commas_end (list_member d) member_ends t h)
  trimmed kind.Dict t h = (begin_then entry_begins t h, commas_end (dict_member d) entry_ends t h)
