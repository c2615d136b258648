-- Targets and headers have a choice.
use Rattle.std.specs.Option.{option_and_then}
use Rattle.std.proofs.Common.{◌≡◌, ◌⊎◌, Bool, true, false, ℕ, suc, ◌+◌, List, [], ◌∷◌}
use Rattle.std.proofs.Common.{Option, Some, None, inl, inr, sym, ap, ◌∙◌, refl, arith}
use Rattle.std.specs.Prelude.{Contains, bytes_eq}
use Rattle.std.proofs.lemmas.Slice.Eq.{bytes_eq-Decides}
use Rattle.http_header.specs.HeaderMap.{ContainsKey, keys}
use Rattle.sf_value.specs.declared.dialect.Dialect.{Dialect}
use Rattle.sf_value.specs.declared.value.Field.{Field}
use Rattle.sf_value.specs.declared.value.Field.TheVariants as field
use Rattle.sf_value.specs.declared.value.Kind.TheVariants as kind
use Rattle.sf_value.specs.declared.value.Member.{Member}
use Rattle.sf_value.specs.Grammar.Pairs.{Pairs}
use Rattle.sf_value.specs.Grammar.Fields.{SpellsField}
use Rattle.sf_value.specs.Grammar.Lines.{join}
use Rattle.sf_parse.specs.Machine.Language.{run}
use Rattle.sf_parse.specs.Machine.Fields.{step, finish, begin}
use Rattle.sf_parse.proofs.GrammarLaws.{is_read, one_value}
use Rattle.sf_field.specs.Headers.{Headers, lines_under}
use Rattle.sf_use.specs.Targeted.{policy}
use Rattle.sf_use.specs.TargetedChoice.{IsOfferIn, IsChosenFromIn}
use Rattle.sf_use.specs.TargetedLaws.{SomeChoiceIn}
use Rattle.sf_use.specs.declared.targeted.Choice.{Choice}
use Rattle.sf_use.specs.declared.targeted.Choice.TheVariants as choice
use Rattle.sf_use.specs.declared.targeted.Policy.{Policy}
use Rattle.sf_use.proofs.Choosing.{same_dict}
use Rattle.sf_use.proofs.Replacing.{behind}

-- a name is in a list or not
stands : (ks : List (List ℕ)) (name : List ℕ) → Contains ks name ⊎ ¬ (Contains ks name)
stands [] name = inr (λ c. omega (arith, c.1))
stands (k ∷ ks) name = at (bytes_eq k name) refl (stands ks name)
  where
    at : (b : Bool) → bytes_eq k name ≡ b → Contains ks name ⊎ ¬ (Contains ks name)
        → Contains (k ∷ ks) name ⊎ ¬ (Contains (k ∷ ks) name)
    at true t r = inl (0, omega arith, (bytes_eq-Decides k name).0 t)
    at false t (inl c) = inl (suc c.0, omega (arith, c.1), c.2)
    at false t (inr n) = inr (λ c. n (behind k ks name t c))

module _ (dialect : Dialect) where
  -- a text spells a value of the kind or none
  spells : (t : List ℕ)
      → ((v : Field) × SpellsField dialect kind.Dict t v)
      ⊎ ((v : Field) → SpellsField dialect kind.Dict t v → ⊥)
  spells t = at (option_and_then finish (run (step dialect) (begin kind.Dict) t)) refl
    where
      at : (o : Option Field) → option_and_then finish (run (step dialect) (begin kind.Dict) t) ≡ o
          → ((v : Field) × SpellsField dialect kind.Dict t v)
          ⊎ ((v : Field) → SpellsField dialect kind.Dict t v → ⊥)
      at (Some v) e = inl (v, (is_read dialect kind.Dict t v).1 e)
      at None e = inr (λ v s.
          let read = (is_read dialect kind.Dict t v).0 s in
          let clash : None ≡ Some v = sym e ∙ read in
          cc)

  -- what a field that is there, and accepted, offers
  offer_read : (h : Headers) (n : List ℕ) (v : Field) → ContainsKey h n
      → SpellsField dialect kind.Dict (join (lines_under h n)) v
      → (o : Option Policy) × IsOfferIn dialect h n o
  offer_read h n (field.Item i) c s = absurd s
  offer_read h n (field.List l) c s = absurd s
  offer_read h n (field.Dict d) c s = at d.members refl
    where
      at : (ms : Pairs Member) → d.members ≡ ms → (o : Option Policy) × IsOfferIn dialect h n o
      at [] e = (
        None,
        λ b u.
            let same = one_value dialect kind.Dict (join (lines_under h n)) (field.Dict b)
            (field.Dict d) u.spelled s in
            u.filled (ap (λ x. x.members) (same_dict b d same) ∙ e),
      )
      at (m ∷ ms) e = (
        Some (policy d),
        (d, record { present = c; spelled = s; filled = λ z. cc }, refl),
      )

  -- a name offers something or nothing
  offer_of : (h : Headers) (n : List ℕ) → (o : Option Policy) × IsOfferIn dialect h n o
  offer_of h n = at (stands (keys h) n) (spells (join (lines_under h n)))
    where
      at : ContainsKey h n ⊎ ¬ (ContainsKey h n)
          → ((v : Field) × SpellsField dialect kind.Dict (join (lines_under h n)) v)
          ⊎ ((v : Field) → SpellsField dialect kind.Dict (join (lines_under h n)) v → ⊥)
          → (o : Option Policy) × IsOfferIn dialect h n o
      at (inr absent) s = (None, λ d u. absent u.present)
      at (inl c) (inr none) = (None, λ d u. none (field.Dict d) u.spelled)
      at (inl c) (inl s) = offer_read h n s.0 c s.1

  choice_from : (i : ℕ) (names : List (List ℕ)) (h : Headers)
      → (c : Choice) × IsChosenFromIn dialect i names h c
  choice_from i [] h = (choice.Fallback, refl)
  choice_from i (n ∷ ns) h = at (offer_of h n) (choice_from (i + 1) ns h)
    where
      at : ((o : Option Policy) × IsOfferIn dialect h n o)
          → ((c : Choice) × IsChosenFromIn dialect (i + 1) ns h c)
          → (c : Choice) × IsChosenFromIn dialect i (n ∷ ns) h c
      at (Some p, o) r = (choice.Field i p, inl (p, o, refl))
      at (None, o) r = (r.0, inr (o, r.1))

  pub some_choice : SomeChoiceIn dialect
  some_choice targets h = choice_from 0 targets h
