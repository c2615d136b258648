-- Parsing Lists and Dictionaries.
use Rattle.std.proofs.Common.{◌≡◌, ℕ, suc, true, false, ◌==◌, List, [], ◌∷◌, ◌++◌}
use Rattle.std.proofs.Common.{length, Option, Some, None, refl, sym, ap, ap₂, ◌∙◌, subst, append_assoc}
use Rattle.std.proofs.Common.{◌⊎◌, inl, inr, arith, eqb-true}
use Rattle.std.proofs.lemmas.Bool.Decides.{nat_tests}
use Rattle.sf_value.specs.declared.dialect.Dialect.{Dialect}
use Rattle.sf_value.specs.declared.value.Bare.{Bare}
use Rattle.sf_value.specs.declared.value.Member.{Member}
use Rattle.sf_value.specs.Grammar.Classes.{is_key_start, is_in_key}
use Rattle.sf_value.specs.Grammar.Pairs.{Pairs, settle}
use Rattle.sf_value.specs.Grammar.Tokens.{IsKey}
use Rattle.sf_value.specs.Grammar.Parameters.{SpellsParams}
use Rattle.sf_value.specs.Grammar.InnerLists.{SpellsMember}
use Rattle.sf_value.specs.Grammar.Fields.{flag, SpellsEntry}
use Rattle.sf_rfc.specs.Rfc9651.Words.{Parse, and_then, first_is, set_key}
use Rattle.sf_rfc.specs.Rfc9651.Alphabets.{is_OWS}
use Rattle.sf_rfc.specs.Rfc9651.Parsing.{parse_key, parse_params, parse_member, flag_member, entry_member}
use Rattle.sf_rfc.specs.Rfc9651.Parsing.{list_loop, dictionary_loop}
use Rattle.sf_rfc.specs.ParsingLaws.{Agrees, is_in_params, SpellsToEnd, ListsAgree, SpellsEntries}
use Rattle.sf_rfc.specs.ParsingLaws.{DictionariesAgree}
use Rattle.sf_rfc.proofs.ParsingWords.{keys_agree}
use Rattle.sf_rfc.proofs.ParsingBareItems.{first_less}
use Rattle.sf_rfc.proofs.ParsingMaps.{set_settled}
use Rattle.sf_rfc.proofs.ParsingParameters.{parameters_agree, is_value_or_key}
use Rattle.sf_rfc.proofs.ParsingItems.{params_first}
use Rattle.sf_rfc.proofs.ParsingInnerLists.{members_agree, member_start}
use Rattle.sf_rfc.proofs.ParsingSeries.{after, IsLoop, series_agrees}
use Rattle.sf_rfc.proofs.ParsingSteps.{some_pair, and_then_cases, if_either}

key_no_ows : (c : ℕ) → is_key_start c ≡ true → is_OWS c ≡ false
key_no_ows c h = grind (arith, nat_tests)

no_key : (c : ℕ) → is_value_or_key c ≡ false → is_in_key c ≡ false
no_key c h = grind (arith, nat_tests)

no_equals : (c : ℕ) → is_value_or_key c ≡ false → (c == 61) ≡ false
no_equals c h = grind (arith, nat_tests)

-- a key and its member, as a pair
abbrev parse_entry : Dialect → Parse (List ℕ × Member)
parse_entry d t =
    and_then (parse_key t) (λ q. and_then (entry_member d q.1) (λ p. Some ((q.0, p.0), p.1)))

module _ (d : Dialect) where
  -- Lists
  list_round : (n : ℕ) (ms : List Member) (c : ℕ) (t : List ℕ)
      → list_loop d (suc n) ms (c ∷ t)
      ≡ and_then (parse_member d (c ∷ t)) (λ q. after (list_loop d n) (ms ++ q.0 ∷ []) q.1)
  list_round n ms c t = refl

  is_list_loop : IsLoop Member (List Member) (parse_member d) (λ ms. ms) (list_loop d)
  is_list_loop = record {
    none = λ ms t. refl;
    ends = λ n ms. refl;
    round = list_round;
  }

  list_agrees : Agrees (List Member)
      (λ t v. (ms : List Member) × (v ≡ ms) × SpellsToEnd (SpellsMember d) t ms)
      (λ t. list_loop d (suc (length t)) [] t) (λ c. true)
  list_agrees =
      series_agrees Member (List Member) (SpellsMember d) (parse_member d) (λ ms. ms) (list_loop d)
      is_list_loop (members_agree d) (member_start d)

  -- the entries of Dictionaries: what is after a key
  abbrev SpellsBehind : List ℕ → Member → Type 0
  SpellsBehind t m =
      ((suffix : List ℕ) × (t ≡ 61 ∷ suffix) × SpellsMember d suffix m)
      ⊎ ((ps : Pairs Bare) × (m ≡ flag ps) × SpellsParams d t ps)

  flag_sound : (t r : List ℕ) (m : Member) → flag_member d t ≡ Some (m, r)
      → (prefix : List ℕ) × (t ≡ prefix ++ r) × SpellsBehind prefix m
  flag_sound t r m e =
      let (q, a, b) = and_then_cases (parse_params d t) _ (m, r) e in
      let k = some_pair (flag q.0) m q.1 r b in
      let (prefix, i, s) = (parameters_agree d).sound t q.1 q.0 a in
      (prefix, i ∙ ap (λ y. prefix ++ y) k.1, inr (q.0, sym k.0, s))

  after_sound : (t r : List ℕ) (m : Member) → entry_member d t ≡ Some (m, r)
      → (prefix : List ℕ) × (t ≡ prefix ++ r) × SpellsBehind prefix m
  after_sound [] r m e = flag_sound [] r m e
  after_sound (c ∷ t) r m e = elim (if_either (c == 61) _ _ (m, r) e) [
    | inl k ↦
        let (prefix, i, s) = (members_agree d).sound t r m k.1 in
        (61 ∷ prefix, ap₂ (λ y z. y ∷ z) (eqb-true c 61 k.0) i, inl (prefix, refl, s))
    | inr k ↦ flag_sound (c ∷ t) r m k.1
  ]

  entry_of : (k behind : List ℕ) (m : Member) → IsKey k → SpellsBehind behind m
      → SpellsEntry d (k ++ behind) (k, m)
  entry_of k behind m w (inl (suffix, e, s)) = (suffix, w, inl (ap (λ y. k ++ y) e, s))
  entry_of k behind m w (inr (ps, e, s)) = (behind, w, inr (ps, e, refl, s))

  entry_sound : (t r : List ℕ) (x : List ℕ × Member) → parse_entry d t ≡ Some (x, r)
      → (prefix : List ℕ) × (t ≡ prefix ++ r) × SpellsEntry d prefix x
  entry_sound t r x e =
      let (q, a, b) = and_then_cases (parse_key t) _ (x, r) e in
      let (p, f, g) = and_then_cases (entry_member d q.1) _ (x, r) b in
      let k = some_pair (q.0, p.0) x p.1 r g in
      let (key, i, s) = keys_agree.sound t q.1 q.0 a in
      let (behind, j, u) = after_sound q.1 p.1 p.0 f in (
        q.0 ++ behind,
        i ∙ ap₂ (λ y z. y ++ z) s.0 (j ∙ ap (λ y. behind ++ y) k.1) ∙ sym (append_assoc q.0 behind r),
        subst (λ y. SpellsEntry d (q.0 ++ behind) y) k.0 (entry_of q.0 behind p.0 s.1 u),
      )

  -- whole
  at_flag : (w : List ℕ) → first_is (λ c. c == 61) w ≡ false → entry_member d w ≡ flag_member d w
  at_flag [] f = refl
  at_flag (c ∷ w) f = rw (f, entry_member) refl

  entry_read : (k w r : List ℕ) (m : Member) → IsKey k → first_is is_in_key w ≡ false
      → entry_member d w ≡ Some (m, r) → parse_entry d (k ++ w) ≡ Some ((k, m), r)
  entry_read k w r m h f e =
      ap (λ y. and_then y behind) (keys_agree.whole k w k (refl, h) f)
      ∙ ap (λ y. and_then y (last k)) e
    where
      last : List ℕ → Member × List ℕ → Option ((List ℕ × Member) × List ℕ)
      last k p = Some ((k, p.0), p.1)

      behind : List ℕ × List ℕ → Option ((List ℕ × Member) × List ℕ)
      behind q = and_then (entry_member d q.1) (λ p. last q.0 p)

  flag_read : (suffix r : List ℕ) (m : Member) (ps : Pairs Bare) → m ≡ flag ps
      → SpellsParams d suffix ps → first_is is_in_params r ≡ false
      → entry_member d (suffix ++ r) ≡ Some (m, r)
  flag_read suffix r m ps e s f =
      let first = params_first d suffix r ps s f in
      at_flag (suffix ++ r)
      (first_less (λ c. c == 61) is_value_or_key no_equals (suffix ++ r) first)
      ∙ ap (λ o. and_then o end) ((parameters_agree d).whole suffix r ps s f)
      ∙ ap (λ y. Some (y, r)) (sym e)
    where
      end : Pairs Bare × List ℕ → Option (Member × List ℕ)
      end q = Some (flag q.0, q.1)

  entry_whole : (t r : List ℕ) (x : List ℕ × Member) → SpellsEntry d t x
      → first_is is_in_params r ≡ false → parse_entry d (t ++ r) ≡ Some (x, r)
  entry_whole t r x (suffix, h, inl (e, s)) f =
      ap (parse_entry d) (ap (λ y. y ++ r) e ∙ append_assoc x.0 (61 ∷ suffix) r)
      ∙ entry_read x.0 (61 ∷ (suffix ++ r)) r x.1 h refl ((members_agree d).whole suffix r x.1 s f)
  entry_whole t r x (suffix, h, inr (ps, i, e, s)) f =
      ap (parse_entry d) (ap (λ y. y ++ r) e ∙ append_assoc x.0 suffix r)
      ∙ entry_read x.0 (suffix ++ r) r x.1 h
      (first_less is_in_key is_value_or_key no_key (suffix ++ r) (params_first d suffix r ps s f))
      (flag_read suffix r x.1 ps i s f)

  entries_agree : Agrees (List ℕ × Member) (SpellsEntry d) (parse_entry d) is_in_params
  entries_agree = record { sound = entry_sound; whole = entry_whole }

  key_start : (k w : List ℕ) → IsKey k
      → (c : ℕ) × (u : List ℕ) × (k ++ w ≡ c ∷ u) × (is_OWS c ≡ false)
  key_start [] w h = absurd h
  key_start (c ∷ k) w h = (c, k ++ w, refl, key_no_ows c h.0)

  pub entry_start : (t : List ℕ) (x : List ℕ × Member) → SpellsEntry d t x
      → (c : ℕ) × (u : List ℕ) × (t ≡ c ∷ u) × (is_OWS c ≡ false)
  entry_start t x (suffix, h, inl (e, s)) =
      let (c, u, i, j) = key_start x.0 (61 ∷ suffix) h in (c, u, e ∙ i, j)
  entry_start t x (suffix, h, inr (ps, i, e, s)) =
      let (c, u, i, j) = key_start x.0 suffix h in (c, u, e ∙ i, j)

  -- Dictionaries
  dictionary_round : (n : ℕ) (raw : Pairs Member) (c : ℕ) (t : List ℕ)
      → dictionary_loop d (suc n) (settle raw) (c ∷ t)
      ≡ and_then (parse_entry d (c ∷ t))
      (λ q. after (dictionary_loop d n) (settle (raw ++ q.0 ∷ [])) q.1)
  dictionary_round n raw c t = by_key (parse_key (c ∷ t))
    where
      entry_end : List ℕ → Member × List ℕ → Option (Pairs Member × List ℕ)
      entry_end k p = after (dictionary_loop d n) (set_key (settle raw) k p.0) p.1

      pair_end : (List ℕ × Member) × List ℕ → Option (Pairs Member × List ℕ)
      pair_end q = after (dictionary_loop d n) (settle (raw ++ q.0 ∷ [])) q.1

      by_member : (k : List ℕ) (o : Option (Member × List ℕ))
          → and_then o (entry_end k)
          ≡ and_then (and_then o (λ p. Some ((k, p.0), p.1))) pair_end
      by_member k None = refl
      by_member k (Some p) = ap (λ y. after (dictionary_loop d n) y p.1) (set_settled raw k p.0)

      by_key : (o : Option (List ℕ × List ℕ))
          → and_then o (λ q. and_then (entry_member d q.1) (entry_end q.0))
          ≡ and_then (and_then o (λ q. and_then (entry_member d q.1) (λ p. Some ((q.0, p.0), p.1))))
          pair_end
      by_key None = refl
      by_key (Some q) = by_member q.0 (entry_member d q.1)

  is_dictionary_loop : IsLoop (List ℕ × Member) (Pairs Member) (parse_entry d) settle
      (dictionary_loop d)
  is_dictionary_loop = record {
    none = λ ps t. refl;
    ends = λ n ps. refl;
    round = dictionary_round;
  }

  dictionary_agrees : Agrees (Pairs Member) (SpellsEntries d)
      (λ t. dictionary_loop d (suc (length t)) [] t) (λ c. true)
  dictionary_agrees =
      series_agrees (List ℕ × Member) (Pairs Member) (SpellsEntry d) (parse_entry d) settle
      (dictionary_loop d) is_dictionary_loop entries_agree entry_start

pub lists_agree : ListsAgree
lists_agree d = record {
  sound = λ t r v e.
      let (prefix, i, (ms, j, s)) = (list_agrees d).sound t r v e in
      (prefix, i, subst (SpellsToEnd (SpellsMember d) prefix) (sym j) s);
  whole = λ t r v s f. (list_agrees d).whole t r v (v, refl, s) f;
}

pub dictionaries_agree : DictionariesAgree
dictionaries_agree d = dictionary_agrees d
