-- Members that are read one after another.
use Rattle.std.proofs.Common.{◌≡◌, ℕ, ◌<◌, Bool, List, [], ◌∷◌, ◌++◌, Option, Some, None}
use Rattle.std.proofs.Common.{refl, sym, ap, ◌∙◌, subst, append_assoc, append-nil, length}
use Rattle.std.proofs.Common.{length-append, arith}
use Rattle.sf_value.specs.declared.dialect.Dialect.{Dialect}
use Rattle.sf_value.specs.declared.value.Field.{Field}
use Rattle.sf_value.specs.declared.value.Field.TheVariants as field
use Rattle.sf_value.specs.declared.value.Kind.TheVariants as kind
use Rattle.sf_value.specs.Grammar.Words.{Every}
use Rattle.sf_value.specs.Grammar.Classes.{is_sp, is_ows}
use Rattle.sf_value.specs.Grammar.Pairs.{settle}
use Rattle.sf_value.specs.Grammar.Items.{SpellsItem}
use Rattle.sf_value.specs.Grammar.InnerLists.{SpellsMember}
use Rattle.sf_value.specs.Grammar.Series.{SpellsWhole}
use Rattle.sf_value.specs.Grammar.Fields.{SpellsEntry, list_of, dict_of}
use Rattle.sf_parse.specs.Parsers.{IsOnly}
use Rattle.sf_value.specs.Runs.{Skips}
use Rattle.sf_view.specs.Reads.{Reads}
use Rattle.sf_view.specs.Cursors.{IsFirst, IsNext, Separates, Remains, left_in}
use Rattle.sf_view.proofs.Members.{only_of}

-- spaces to the end
pub all_prefix : (p : ℕ → Bool) (text rest : List ℕ) → Skips p text rest → rest ≡ []
    → Every p text
all_prefix p text rest b n =
    subst (Every p) (sym (b.split ∙ ap (λ y. b.prefix ++ y) n ∙ append-nil b.prefix)) b.each

-- a comma with OWS around it
pub separates : (text white more rest : List ℕ) → Skips is_ows text white → white ≡ 44 ∷ more
    → Skips is_ows more rest → Separates text rest
separates text white more rest a e b = record {
  before = a.prefix;
  behind = b.prefix;
  split = a.split ∙ ap (λ y. a.prefix ++ y) (e ∙ ap (λ y. 44 ∷ y) b.split);
  ows_before = a.each;
  ows_after = b.each;
}

-- less is left after a part
pub less_left : (text prefix after : List ℕ) (start : Option (List ℕ)) → text ≡ prefix ++ after
    → IsNext after start → left_in start < left_in (Some text)
less_left text prefix after None e n = omega arith
less_left text prefix after (Some rest) e n =
    let a = ap length e ∙ length-append prefix after in
    let b = ap length n.split ∙ length-append n.before (44 ∷ (n.behind ++ rest)) in
    let c = length-append n.behind rest in
    omega arith

-- members up to a start: whatever remains there, the text spells all
pub record DoneSoFar {X : Type 0} (P : List ℕ → X → Type 0) (text : List ℕ)
    (start : Option (List ℕ)) : Type 0 where
  pub done : List X
  pub reached : (xs : List X) → Remains P start xs → SpellsWhole P text (done ++ xs)

module _ {X : Type 0} (P : List ℕ → X → Type 0) where
  -- the members that remain at the start are those of the whole text
  pub whole_remains : (text : List ℕ) (start : Option (List ℕ)) (xs : List X) → IsFirst text start
      → Remains P start xs → SpellsWhole P text xs
  whole_remains text None xs s e = subst (SpellsWhole P text) (sym e) s
  whole_remains text (Some rest) [] s r = absurd r
  whole_remains text (Some rest) (x ∷ xs) s (body, tail, e, h, w) =
      (s.prefix, body, tail, s.split ∙ ap (λ y. s.prefix ++ y) e, s.each, h, w)

  -- a member before those that remain
  pub remains_then : (text f after : List ℕ) (start : Option (List ℕ)) (x : X) (xs : List X)
      → text ≡ f ++ after → P f x → IsNext after start → Remains P start xs
      → Remains P (Some text) (x ∷ xs)
  remains_then text f after None x xs e h n r =
      subst (λ y. Remains P (Some text) (x ∷ y)) (sym r)
      (f, after, e, (f, [], sym (append-nil f), h, refl), n)
  remains_then text f after (Some rest) x [] e h n r = absurd r
  remains_then text f after (Some rest) x (y ∷ ys) e h n (body, tail, g, (p, q, i, k, c), w) =
      let sep = n.before ++ 44 ∷ (n.behind ++ body) in (
        f ++ sep,
        tail,
        e
            ∙ ap (λ z. f ++ z)
            (n.split
            ∙ ap (λ z. n.before ++ 44 ∷ z)
            (ap (λ z. n.behind ++ z) g ∙ sym (append_assoc n.behind body tail))
            ∙ sym (append_assoc n.before (44 ∷ (n.behind ++ body)) tail))
            ∙ sym (append_assoc f sep tail),
        (
          f,
          sep,
          refl,
          h,
          (
            n.before,
            n.behind,
            p,
            q,
            ap (λ z. n.before ++ 44 ∷ (n.behind ++ z)) i,
            n.ows_before,
            n.ows_after,
            k,
            c,
          ),
        ),
        w,
      )

  unfoldable pub done_none : (text : List ℕ) (start : Option (List ℕ)) → IsFirst text start
      → DoneSoFar P text start
  done_none text start s =
      record { done = []; reached = λ xs r. whole_remains text start xs s r }

  unfoldable pub done_more : (text rest f after : List ℕ) (start : Option (List ℕ)) (x : X)
      → DoneSoFar P text (Some rest) → rest ≡ f ++ after → P f x → IsNext after start
      → DoneSoFar P text start
  done_more text rest f after start x s e h n = record {
    done = s.done ++ x ∷ [];
    reached = λ xs r.
        subst (SpellsWhole P text) (sym (append_assoc s.done (x ∷ []) xs))
        (s.reached (x ∷ xs) (remains_then rest f after start x xs e h n r));
  }

  pub done_all : (text : List ℕ) (s : DoneSoFar P text None) → SpellsWhole P text s.done
  done_all text s = subst (SpellsWhole P text) (append-nil s.done) (s.reached [] refl)

-- fields
unfoldable pub item_only : (d : Dialect) (text start rest left : List ℕ) → Skips is_sp text start
    → Reads (SpellsItem d) start rest → Skips is_sp rest left → left ≡ []
    → (v : Field) × IsOnly d kind.Item text v
item_only d text start rest left b r a n = (
  field.Item r.value,
  only_of d kind.Item text (field.Item r.value) (
    b.prefix,
    r.prefix,
    rest,
    b.split ∙ ap (λ y. b.prefix ++ y) r.split,
    b.each,
    r.spelled,
    all_prefix is_sp rest left a n,
  ),
)

pub list_only : (d : Dialect) (text : List ℕ) (s : DoneSoFar (SpellsMember d) text None)
    → IsOnly d kind.List text (list_of s.done)
list_only d text s =
    only_of d kind.List text (list_of s.done) (done_all (SpellsMember d) text s)

pub dict_only : (d : Dialect) (text : List ℕ) (s : DoneSoFar (SpellsEntry d) text None)
    → IsOnly d kind.Dict text (dict_of (settle s.done))
dict_only d text s =
    only_of d kind.Dict text (dict_of (settle s.done))
    (s.done, refl, done_all (SpellsEntry d) text s)
