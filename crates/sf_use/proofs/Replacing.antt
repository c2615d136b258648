-- A field that is replaced by its canonical text.
use Rattle.std.proofs.Common.{◌≡◌, ◌≢◌, ◌⊎◌, Bool, true, false, ℕ, zero, suc, List, [], ◌∷◌, map}
use Rattle.std.proofs.Common.{inl, inr, sym, ap, ◌∙◌, subst, refl, arith}
use Rattle.std.specs.Prelude.{Contains, bytes_eq}
use Rattle.std.proofs.lemmas.Slice.Eq.{bytes_eq-Decides}
use Rattle.http_header.specs.FieldValue.{FieldValue, plain_value}
use Rattle.http_header.specs.HeaderMap.{ContainsKey, Entry, insert, keys, update}
use Rattle.http_header.proofs.HeaderMapLemmas.{get_all-insert_same, get_all-insert_other}
use Rattle.sf_value.specs.declared.dialect.Dialect.{Dialect}
use Rattle.sf_value.specs.declared.value.Field.{Field}
use Rattle.sf_value.specs.declared.value.Kind.TheVariants as kind
use Rattle.sf_value.specs.Grammar.Canonical.{canon}
use Rattle.sf_value.specs.Grammar.Fields.{SpellsField}
use Rattle.sf_value.specs.Grammar.Lines.{join}
use Rattle.sf_field.specs.Headers.{Headers, lines_under}
use Rattle.sf_use.specs.TargetedLaws.{SameText, NormalisedIn, ChosenAsReplacedIn}
use Rattle.sf_use.proofs.Choosing.{chosen_as_canonical}

-- a name that is not the first is after it
pub behind : (k : List ℕ) (ks : List (List ℕ)) (name : List ℕ) → bytes_eq k name ≡ false
    → Contains (k ∷ ks) name → Contains ks name
behind k ks name n (zero, lt, is) =
    let same : bytes_eq k name ≡ true = (bytes_eq-Decides k name).1 is in
    absurd (let no : false ≡ true = sym n ∙ same in cc)
behind k ks name n (suc i, lt, is) = (i, omega (arith, lt), is)

-- the value of a name that is there leaves the names as they are
keys_kept_at : (e : Entry FieldValue) (m : Headers) (name : List ℕ)
    (f : List FieldValue → List FieldValue)
    → (ContainsKey m name → keys (update m name f) ≡ keys m)
    → ContainsKey (e ∷ m) name → keys (update (e ∷ m) name f) ≡ keys (e ∷ m)
keys_kept_at e m name f more c = at (bytes_eq e.0 name) refl
  where
    at : (b : Bool) → bytes_eq e.0 name ≡ b → keys (update (e ∷ m) name f) ≡ keys (e ∷ m)
    at true t = rw t refl
    at false t = rw t (ap (λ ks. e.0 ∷ ks) (more (behind e.0 (keys m) name t c)))

keys_kept : (m : Headers) (name : List ℕ) (f : List FieldValue → List FieldValue)
    → ContainsKey m name → keys (update m name f) ≡ keys m
keys_kept [] name f c = absurd (omega (arith, c.1))
keys_kept (e ∷ m) name f c = keys_kept_at e m name f (keys_kept m name f) c

module _ (dialect : Dialect) where
  -- each name has the same text as before, or its field was replaced
  replaced_or_same : (h : Headers) (name : List ℕ) (v : Field) → ContainsKey h name
      → SpellsField dialect kind.Dict (join (lines_under h name)) v → (n : List ℕ)
      → SameText h (insert h name (plain_value (canon v))) n
      ⊎ NormalisedIn dialect h (insert h name (plain_value (canon v))) n
  replaced_or_same h name v present accepted n = at (bytes_eq name n) refl
    where
      value : FieldValue
      value = plain_value (canon v)

      new : Headers
      new = insert h name value

      names : keys new ≡ keys h
      names = keys_kept h name (λ _. value ∷ []) present

      at : (b : Bool) → bytes_eq name n ≡ b → SameText h new n ⊎ NormalisedIn dialect h new n
      at true t =
          subst (λ n. SameText h new n ⊎ NormalisedIn dialect h new n)
          ((bytes_eq-Decides name n).0 t)
          (inr (record {
            present = present;
            kept = subst (λ ks. Contains ks name) (sym names) present;
            value = v;
            accepted = accepted;
            canonical = ap (map (λ v. v.bytes)) (get_all-insert_same h name value);
          }))
      at false t =
          let other : name ≢ n = λ e. let same = (bytes_eq-Decides name n).1 e in cc in
          inl (record {
            present = (
              λ c. subst (λ ks. Contains ks n) (sym names) c,
              λ c. subst (λ ks. Contains ks n) names c,
            );
            text = ap (λ vs. join (map (λ v. v.bytes) vs))
                (sym (get_all-insert_other h name n value other));
          })

  pub chosen_as_replaced : ChosenAsReplacedIn dialect
  chosen_as_replaced targets h name v present accepted =
      chosen_as_canonical dialect targets h (insert h name (plain_value (canon v)))
      (λ k d lt. replaced_or_same h name v present accepted _)
